-- `control::extremes` meets its contract: the loop keeps the least and the greatest of the first k.
use Rattle.control.proofs.Running.{LeastTo, GreatestTo}
use Rattle.control.proofs.extremes.Given as goal

abbrev pub invariant-loop-k : goal.invariant-loop-k
invariant-loop-k l = LeastTo l.k l.c l.lo × GreatestTo l.k l.c l.hi
