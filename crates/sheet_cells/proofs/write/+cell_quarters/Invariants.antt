-- What is left falls, or the quarters do.
use Rattle.std.proofs.Common.{◌+◌, ◌-◌, ◌*◌}
use Rattle.sheet_cells.proofs.write.+cell_quarters.Given as goal

abbrev pub decreases-cell : goal.decreases-cell
decreases-cell l = 6 * l.left

abbrev pub decreases-quarters : goal.decreases-quarters
decreases-quarters l = 6 * l.left + (5 - l.i)
