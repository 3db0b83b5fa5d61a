-- Where a quad's cells stand: the column and the row of the lower left corner, on the grid of the level. The quarters are walked
-- as the halves are: both of the lower half along u, then both of the upper (01: "A quad cell is halved along u and each half
-- along v").
--   step h        == 0 for a lower half, 1 for an upper one
--   column_of, row_of k == the column and the row of corner k, from those of the lower left corner
--   quad_chart     == the chart of quads
-- Definitions only.
use Rattle.std.specs.Prelude.{ℕ, zero, suc, ◌+◌, ◌*◌}
use Rattle.forms.specs.Cuttings.{first, second, third, fourth}
use Rattle.forms.specs.Quads.{Half, lower, upper, along_u, along_v}
use Rattle.walks.specs.Walk.{Spot, Plan, one, both, Chart}

abbrev pub step : Half → ℕ
step lower = 0
step upper = 1

-- the corners are 00, 10, 01, 11
abbrev pub column_of : ℕ → ℕ
column_of zero = 0
column_of (suc zero) = 1
column_of (suc (suc zero)) = 0
column_of (suc (suc (suc k))) = 1

abbrev pub row_of : ℕ → ℕ
row_of zero = 0
row_of (suc zero) = 0
row_of (suc (suc zero)) = 1
row_of (suc (suc (suc k))) = 1

abbrev pub by_halves : Plan
by_halves = both (both (one first) (one third)) (both (one second) (one fourth))

abbrev pub quad_chart : Chart
quad_chart =
    record {
      Place = Spot;
      start = record { i = 0; j = 0 };
      sub = λ q p. record { i = 2 * p.i + step (along_u q); j = 2 * p.j + step (along_v q) };
      spot = λ p k. record { i = p.i + column_of k; j = p.j + row_of k };
      plan = by_halves;
    }
