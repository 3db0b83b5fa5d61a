-- `points::within` meets its contract: the loop keeps whether the first k are within the limit. Assumes nothing.
use Rattle.points.proofs.Limits.{InLimit}
use Rattle.points.proofs.within.Given as goal

abbrev pub invariant-loop-x : goal.invariant-loop-x
invariant-loop-x l = InLimit l.xs l.limit l.x-index l.all
