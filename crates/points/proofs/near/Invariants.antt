-- `points::near` meets its contract: the loop keeps whether the first i differences are within the limit, and that the numbers are of 32
-- bits. Assumes nothing.
use Prim.Native.Nat.{ℕ, ◌<◌}
use Rattle.element.specs.Control.{at}
use Rattle.element.specs.Origin.{from_first, Held}
use Rattle.points.proofs.Limits.{InLimit}
use Rattle.points.proofs.near.Given as goal

abbrev pub invariant-loop-i : goal.invariant-loop-i
invariant-loop-i l = InLimit (from_first l.xs) l.limit l.i l.close × ((m : ℕ) → m < l.i → Held (at l.xs m))
