-- Where a triangle's cells stand: the columns and the rows of the three corners, on the grid of the level. The quarters are
-- walked in 01's order.
--   Corners       == three columns and three rows
--   along i v     == the columns, or the rows, of the corners of quarter i, on the next level's grid
--   triangle_chart == the chart of triangles
-- Definitions only.
use Rattle.std.specs.Prelude.{List, [], ◌∷◌, ℕ, ◌+◌, ◌*◌, get_or}
use Rattle.forms.specs.Cuttings.{Four, first, second, third, fourth}
use Rattle.walks.specs.Walk.{Plan, one, both, Chart}

pub record Corners : Type 0 where
  pub xs : List ℕ
  pub ys : List ℕ

abbrev pub el : List ℕ → ℕ → ℕ
el v k = get_or v k 0

-- "V0 E01 E02; E01 V1 E12; E02 E12 V2; E12 E02 E01", in doubled weights
abbrev pub along : Four → List ℕ → List ℕ
along first v = (2 * el v 0) ∷ (el v 0 + el v 1) ∷ (el v 0 + el v 2) ∷ []
along second v = (el v 0 + el v 1) ∷ (2 * el v 1) ∷ (el v 1 + el v 2) ∷ []
along third v = (el v 0 + el v 2) ∷ (el v 1 + el v 2) ∷ (2 * el v 2) ∷ []
along fourth v = (el v 1 + el v 2) ∷ (el v 0 + el v 2) ∷ (el v 0 + el v 1) ∷ []

abbrev pub in_turn : Plan
in_turn = both (both (both (one first) (one second)) (one third)) (one fourth)

abbrev pub triangle_chart : Chart
triangle_chart =
    record {
      Place = Corners;
      start = record { xs = 0 ∷ 1 ∷ 0 ∷ []; ys = 0 ∷ 0 ∷ 1 ∷ [] };
      sub = λ q p. record { xs = along q p.xs; ys = along q p.ys };
      spot = λ p k. record { i = el p.xs k; j = el p.ys k };
      plan = in_turn;
    }
