-- `solver_grid::some_off` meets its contract: the loop keeps that all before k are on the grid. Assumes nothing.
use Rattle.std.proofs.Common.{ℕ, ◌<◌}
use Rattle.solver_grid.specs.Grid.{Stands, float}
use Rattle.solver_grid.proofs.some_off.Given as goal

abbrev pub invariant-loop-x : goal.invariant-loop-x
invariant-loop-x l = (i : ℕ) → i < l.x-index → Stands (float l.xs i)
