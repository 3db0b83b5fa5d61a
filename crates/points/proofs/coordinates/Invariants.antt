-- `points::coordinates` meets its contract: the loop keeps that the first k places are filled, and the last is filled behind it.
use mathlib.Core.Bool.{cond}
use Prim.Native.Nat.{◌+◌, ◌*◌}
use lib.Dec.{ltb}
use lib.IntN.{pos}
use Rattle.algebra.specs.Fill.{Filled}
use Rattle.element.specs.Control.{at}
use Rattle.element.specs.Origin.{from_first}
use Rattle.points.specs.Points.{place}
use Rattle.points.proofs.coordinates.Given as goal

abbrev pub invariant-loop-k : goal.invariant-loop-k
invariant-loop-k l = Filled 10 l.k (λ m. cond (ltb m 9) (at (from_first l.xs) (2 * place l.gap m + l.axis)) (pos 0)) l.c
