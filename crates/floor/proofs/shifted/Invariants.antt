-- `shifted` meets its contract: the loop keeps that the first k places are filled. Assumes nothing.
use lib.IntN.{pos, ◌-ℤ◌, ◌*ℤ◌}
use Rattle.algebra.specs.Fill.{Filled}
use Rattle.element.specs.Control.{at}
use Rattle.floor.proofs.shifted.Given as goal

abbrev pub invariant-loop-k : goal.invariant-loop-k
invariant-loop-k l = Filled 6 l.k (λ m. pos 100 *ℤ at l.c m -ℤ l.less) l.values
