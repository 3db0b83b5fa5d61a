-- `batch::narrow::narrowed` meets its contract: the loop keeps that the first k places are filled. Assumes nothing.
use Rattle.algebra.specs.Fill.{Filled}
use Rattle.element.specs.Control.{at}
use Rattle.batch.proofs.narrow.narrowed.Given as goal

abbrev pub invariant-loop-k : goal.invariant-loop-k
invariant-loop-k l = Filled 19 l.k (at l.xs) l.zs
