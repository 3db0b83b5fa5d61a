-- The halvings left, twice: at a walk of a cell or of a half, and at one after another, one more.
use Prim.Native.Nat.{◌+◌, ◌*◌}
use Rattle.quad_walk.proofs.+next_open_u_walk_u_walk_v.Given as goal

abbrev pub decreases-next : goal.decreases-next
decreases-next l = 2 * l.halvings + 1

abbrev pub decreases-open_u : goal.decreases-open_u
decreases-open_u l = 2 * l.halvings

abbrev pub decreases-walk_u : goal.decreases-walk_u
decreases-walk_u l = 2 * l.halvings + 1

abbrev pub decreases-walk_v : goal.decreases-walk_v
decreases-walk_v l = 2 * l.halvings + 1
