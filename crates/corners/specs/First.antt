-- The first bad grid point known (01, Invalid: "the least such level, the bad point with smallest j, then smallest i, the
-- scaled J there").
--   nothing           == no bad point
--   something l i j v == the bad point (i, j) of level l, where scaled J is v
--   sooner a b        == the point a is reported before the point b
--   better a b        == the first of two, where each may be none
--   corner v l i j    == what a corner at (i, j) of a cell of level l says, when its value is v
-- Definitions only.
use Rattle.std.specs.Prelude.{Bool, true, false, cond, ◌&&◌, ◌||◌, ℕ, ltb, eqb, ℤ, pos}
use Rattle.std.specs.Int.Signed.{le_z}
use Rattle.corners.specs.declared.First.{First}

abbrev pub nothing : First
nothing = record { bad = false; level = 0; i = 0; j = 0; value = pos 0 }

abbrev pub something : ℕ → ℕ → ℕ → ℤ → First
something l i j v = record { bad = true; level = l; i = i; j = j; value = v }

-- "the first by level, row, column"
abbrev pub sooner : First → First → Bool
sooner a b = ltb a.level b.level || (eqb a.level b.level && (ltb a.j b.j || (eqb a.j b.j && ltb a.i b.i)))

unfoldable pub better : First → First → First
better a b = cond ((a.bad && b.bad) && sooner b a) b (cond a.bad a b)

-- "A point is bad when J ≤ 0 there"
unfoldable pub corner : ℤ → ℕ → ℕ → ℕ → First
corner v l i j = cond (le_z v (pos 0)) (something l i j v) nothing
