-- The first bad corner of a triangle cell (01, Invalid: "the bad point with smallest j, then smallest i").
--   first_bad ks c l xs ys == of the cell c of level l, whose corner k is the grid point (xs k, ys k) and has its value at place ks k
-- Definitions only.
use Rattle.std.specs.Prelude.{List, ℕ, ℤ, pos, get_or}
use Rattle.corners.specs.declared.First.{First}
use Rattle.corners.specs.First.{better, corner}

abbrev pub at : List ℕ → List ℤ → ℕ → List ℕ → List ℕ → ℕ → First
at ks c l xs ys k = corner (get_or c (get_or ks k 0) (pos 0)) l (get_or xs k 0) (get_or ys k 0)

unfoldable pub first_bad : List ℕ → List ℤ → ℕ → List ℕ → List ℕ → First
first_bad ks c l xs ys = better (better (at ks c l xs ys 0) (at ks c l xs ys 1)) (at ks c l xs ys 2)
