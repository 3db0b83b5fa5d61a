-- The cuts left, twice: at a walk of a cell, and at one after another, one more.
use Prim.Native.Nat.{◌+◌, ◌*◌}
use Rattle.triangle_walk.proofs.+next_walk_cell_walk_open.Given as goal

abbrev pub decreases-next : goal.decreases-next
decreases-next g l = 2 * l.left + 1

abbrev pub decreases-walk_cell : goal.decreases-walk_cell
decreases-walk_cell g l = 2 * l.left + 1

abbrev pub decreases-walk_open : goal.decreases-walk_open
decreases-walk_open g l = 2 * l.left
