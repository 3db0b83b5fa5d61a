-- `solver_grid::over` meets its contract: the quotient is exact. Assumes nothing.
use lib.Ieee.{of_bits}
use Rattle.std.proofs.Common.{w32}
use mir.ValLaws.{to_z-of_z}
use Rattle.solver_grid.proofs.Quotient.{over-is}
use Rattle.solver_grid.proofs.over.Goals as goal

pub returns : goal.returns
unfolding of_bits
returns c = rw (to_z-of_z w32 c.args.n c.ranges.n) (over-is c.args.n c.ranges.n.sfits)
