-- `solver_grid::put` meets its contract: the loop keeps that the first k places are answered.
use Rattle.std.proofs.Common.{◌≡◌, length, take}
use Rattle.solver_grid.specs.Calls.{Filled}
use Rattle.solver_grid.proofs.put.Given as goal

abbrev pub invariant-loop-k : goal.invariant-loop-k
invariant-loop-k g l = (length l.out ≡ length l.fn.out) × Filled (goal.F-post g l.fn.convert) l.k (take l.k l.xs) l.fn.out l.out
