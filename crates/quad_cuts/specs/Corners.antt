-- The first bad corner of a quad cell (01, Invalid: "the bad point with smallest j, then smallest i"). The corners are the values
-- (0, 0), (3, 0), (0, 3) and (3, 3), which stand at I + 4J.
--   first_bad c l i j == of the cell c of level l, whose lower-left corner is the grid point (i, j)
-- Definitions only.
use Rattle.std.specs.Prelude.{List, ℕ, ◌+◌, ℤ, pos, get_or}
use Rattle.corners.specs.declared.First.{First}
use Rattle.corners.specs.First.{better, corner}

abbrev pub at : List ℤ → ℕ → ℕ → ℕ → ℕ → First
at c k l i j = corner (get_or c k (pos 0)) l i j

unfoldable pub first_bad : List ℤ → ℕ → ℕ → ℕ → First
first_bad c l i j = better (better (better (at c 0 l i j) (at c 3 l (i + 1) j)) (at c 12 l i (j + 1))) (at c 15 l (i + 1) (j + 1))
