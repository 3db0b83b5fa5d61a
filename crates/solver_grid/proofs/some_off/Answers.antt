-- `solver_grid::some_off` meets its contract: the loop keeps that all before k are on the grid. Assumes nothing.
use Rattle.std.proofs.Common.{below_more}
use Rattle.solver_grid.proofs.some_off.Goals as goal

pub loop-x-preserved : goal.loop-x-preserved
loop-x-preserved c = below_more _ _ c.loop-x.invariant (c.stands.ensures.yes c.if-not-stands.false)
