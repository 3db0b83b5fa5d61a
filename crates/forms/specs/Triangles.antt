-- Triangles: one direction with three weights p, q, r, cut at the edge middles (01, "Cutting a cell").
--   V0 .. V2, E01 .. E02 == the corners and edge middles of a cell, in doubled weights
--   quarter_corners i     == the corners of quarter i, in 01's order
--   triangle n degrees place == the shape of a triangle of degree n, its values stored in the order of these degrees
--   six                  == the quadratic triangle's: degree 2, values c00, c11, c22, c01, c12, c02
--   fifteen f            == f I J K for I + J + K = 4, by rising K, then rising J
--   ten                  == the cubic triangle's: degree 4, value (I, J, K) in that order
-- Definitions only.
use Rattle.std.specs.Prelude.{cond, List, [], ◌∷◌, map, ℕ, suc, ◌+◌, ◌-◌, ◌^◌, eqb, get_or}
use Rattle.forms.specs.Rows.{Row}
use Rattle.forms.specs.Forms.{pick}
use Rattle.forms.specs.Cells.{coeffs}
use Rattle.forms.specs.Cuttings.{Four, first, second, third, fourth}
use Rattle.forms.specs.Shapes.{Shape, spread, indices}

abbrev pub V0 : Row
V0 = 2 ∷ 0 ∷ 0 ∷ []

abbrev pub V1 : Row
V1 = 0 ∷ 2 ∷ 0 ∷ []

abbrev pub V2 : Row
V2 = 0 ∷ 0 ∷ 2 ∷ []

abbrev pub E01 : Row
E01 = 1 ∷ 1 ∷ 0 ∷ []

abbrev pub E12 : Row
E12 = 0 ∷ 1 ∷ 1 ∷ []

abbrev pub E02 : Row
E02 = 1 ∷ 0 ∷ 1 ∷ []

-- "V0 E01 E02; E01 V1 E12; E02 E12 V2; E12 E02 E01"
abbrev pub quarter_corners : Four → List Row
quarter_corners first = V0 ∷ E01 ∷ E02 ∷ []
quarter_corners second = E01 ∷ V1 ∷ E12 ∷ []
quarter_corners third = E02 ∷ E12 ∷ V2 ∷ []
quarter_corners fourth = E12 ∷ E02 ∷ E01 ∷ []

abbrev pub cuts : Four → List (ℕ → Row)
cuts i = (λ k. get_or (quarter_corners i) k []) ∷ []

-- a quarter's value is the form at the quarter's corners, in doubled weights
abbrev pub triangle : ℕ → List Row → (List ℕ → ℕ) → Shape
triangle n degrees place =
    record {
      counts = n ∷ [];
      sizes = 3 ∷ [];
      entries = map (λ ms. ms ∷ []) degrees;
      place = place;
      corners = (0 ∷ []) ∷ (1 ∷ []) ∷ (2 ∷ []) ∷ [];
      cuts = cuts;
      table = λ i. map (λ ms. coeffs (pick (spread (n ∷ []) (cuts i)) (indices (ms ∷ []))) place) degrees;
      growth = 2 ^ n;
      last = λ n j. n - j;
      rows = λ n i j. ((n - i - j) ∷ i ∷ j ∷ []) ∷ [];
      column = (0, 1);
      row = (0, 2);
    }

-- "Order: c00, c11, c22, c01, c12, c02"
abbrev pub degrees6 : List Row
degrees6 = (2 ∷ 0 ∷ 0 ∷ []) ∷ (0 ∷ 2 ∷ 0 ∷ []) ∷ (0 ∷ 0 ∷ 2 ∷ []) ∷ (1 ∷ 1 ∷ 0 ∷ []) ∷ (0 ∷ 1 ∷ 1 ∷ []) ∷ (1 ∷ 0 ∷ 1 ∷ []) ∷ []

abbrev pub places6 : List (List ℕ)
places6 = (0 ∷ 3 ∷ 5 ∷ []) ∷ (3 ∷ 1 ∷ 4 ∷ []) ∷ (5 ∷ 4 ∷ 2 ∷ []) ∷ []

abbrev pub place6 : List ℕ → ℕ
place6 [] = 6
place6 (k ∷ []) = 6
place6 (k ∷ l ∷ []) = get_or (get_or places6 k []) l 6
place6 (k ∷ l ∷ m ∷ ms) = 6

abbrev pub six : Shape
six = triangle 2 degrees6 place6

-- ---- degree 4: "listed by rising K, then rising J"
abbrev pub fifteen {ℓ} : {A : Type ℓ} → (ℕ → ℕ → ℕ → A) → List A
fifteen f =
    f 4 0 0 ∷ f 3 1 0 ∷ f 2 2 0 ∷ f 1 3 0 ∷ f 0 4 0
    ∷ f 3 0 1 ∷ f 2 1 1 ∷ f 1 2 1 ∷ f 0 3 1
    ∷ f 2 0 2 ∷ f 1 1 2 ∷ f 0 2 2
    ∷ f 1 0 3 ∷ f 0 1 3
    ∷ f 0 0 4 ∷ []

abbrev pub degrees10 : List Row
degrees10 = fifteen (λ I J K. I ∷ J ∷ K ∷ [])

-- how many of the indices are k
abbrev pub count : ℕ → List ℕ → ℕ
count k [] = 0
count k (l ∷ ks) = cond (eqb k l) (suc (count k ks)) (count k ks)

-- where the values with this K begin
abbrev pub begin10 : ℕ → ℕ
begin10 K = get_or (0 ∷ 5 ∷ 9 ∷ 12 ∷ 14 ∷ []) K 15

abbrev pub place10 : List ℕ → ℕ
place10 ks = begin10 (count 2 ks) + count 1 ks

abbrev pub ten : Shape
ten = triangle 4 degrees10 place10
