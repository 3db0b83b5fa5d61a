-- The values of a cell and of forms of lower degree by their names, listed by rising K, then rising J.
--   values2, values3, values4 == the values of a form of this degree, as a list
--   degree2, degree3 == the shapes of triangles of degree 2 and 3 in that order; that of degree 4 is `ten`
--   taken ks l   == the values of the list l at the places ks; `places` are all of a cell
--   turned c     == the cell c, from its second corner on
-- Definitions only.
use Rattle.std.specs.Prelude.{List, [], ◌∷◌, map, ℕ, ◌+◌, ℤ, pos, get_or}
use Rattle.forms.specs.Rows.{Row}
use Rattle.forms.specs.Shapes.{Shape}
use Rattle.forms.specs.Triangles.{triangle, count}
use Rattle.cubic_cuts.specs.declared.by_sums.Cell2.{Cell2}
use Rattle.cubic_cuts.specs.declared.by_sums.Cell3.{Cell3}
use Rattle.cubic_cuts.specs.declared.by_sums.Cell4.{Cell4}

abbrev pub values2 : Cell2 → List ℤ
values2 c =
    c.v200 ∷ c.v110 ∷ c.v020
    ∷ c.v101 ∷ c.v011
    ∷ c.v002 ∷ []

abbrev pub values3 : Cell3 → List ℤ
values3 c =
    c.v300 ∷ c.v210 ∷ c.v120 ∷ c.v030
    ∷ c.v201 ∷ c.v111 ∷ c.v021
    ∷ c.v102 ∷ c.v012
    ∷ c.v003 ∷ []

abbrev pub values4 : Cell4 → List ℤ
values4 c =
    c.v400 ∷ c.v310 ∷ c.v220 ∷ c.v130 ∷ c.v040
    ∷ c.v301 ∷ c.v211 ∷ c.v121 ∷ c.v031
    ∷ c.v202 ∷ c.v112 ∷ c.v022
    ∷ c.v103 ∷ c.v013
    ∷ c.v004 ∷ []

-- where a value stands, if those with each K begin at these places
abbrev pub placed : List ℕ → List ℕ → ℕ
placed begins ks = get_or begins (count 2 ks) 0 + count 1 ks

abbrev pub degrees2 : List Row
degrees2 =
    (2 ∷ 0 ∷ 0 ∷ []) ∷ (1 ∷ 1 ∷ 0 ∷ []) ∷ (0 ∷ 2 ∷ 0 ∷ [])
    ∷ (1 ∷ 0 ∷ 1 ∷ []) ∷ (0 ∷ 1 ∷ 1 ∷ [])
    ∷ (0 ∷ 0 ∷ 2 ∷ []) ∷ []

abbrev pub degree2 : Shape
degree2 = triangle 2 degrees2 (placed (0 ∷ 3 ∷ 5 ∷ []))

abbrev pub degrees3 : List Row
degrees3 =
    (3 ∷ 0 ∷ 0 ∷ []) ∷ (2 ∷ 1 ∷ 0 ∷ []) ∷ (1 ∷ 2 ∷ 0 ∷ []) ∷ (0 ∷ 3 ∷ 0 ∷ [])
    ∷ (2 ∷ 0 ∷ 1 ∷ []) ∷ (1 ∷ 1 ∷ 1 ∷ []) ∷ (0 ∷ 2 ∷ 1 ∷ [])
    ∷ (1 ∷ 0 ∷ 2 ∷ []) ∷ (0 ∷ 1 ∷ 2 ∷ [])
    ∷ (0 ∷ 0 ∷ 3 ∷ []) ∷ []

abbrev pub degree3 : Shape
degree3 = triangle 3 degrees3 (placed (0 ∷ 4 ∷ 7 ∷ 9 ∷ []))

-- the values at these places of a list
abbrev pub taken : List ℕ → List ℤ → List ℤ
taken ks l = map (λ k. get_or l k (pos 0)) ks

abbrev pub places : List ℕ
places = 0 ∷ 1 ∷ 2 ∷ 3 ∷ 4 ∷ 5 ∷ 6 ∷ 7 ∷ 8 ∷ 9 ∷ 10 ∷ 11 ∷ 12 ∷ 13 ∷ 14 ∷ []

abbrev pub turned : Cell4 → Cell4
turned c =
    record {
      v400 = c.v040;
      v310 = c.v031;
      v220 = c.v022;
      v130 = c.v013;
      v040 = c.v004;
      v301 = c.v130;
      v211 = c.v121;
      v121 = c.v112;
      v031 = c.v103;
      v202 = c.v220;
      v112 = c.v211;
      v022 = c.v202;
      v103 = c.v310;
      v013 = c.v301;
      v004 = c.v400;
    }
