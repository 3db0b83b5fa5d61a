-- `quad::sum::sums` meets its contract: each loop keeps that the places hold what the turns before have added.
use mathlib.Core.Path.{◌≡◌}
use Rattle.quad.specs.Points.{grid}
use Rattle.quad.proofs.Nest.{so_far}
use Rattle.quad.proofs.sum.sums.Given as goal

abbrev pub invariant-loop-j2 : goal.invariant-loop-j2
invariant-loop-j2 l = l.c ≡ so_far (grid l.r.x l.r.y) l.i1 l.i2 l.j1 l.j2

abbrev pub invariant-loop-j1 : goal.invariant-loop-j1
invariant-loop-j1 l = l.c ≡ so_far (grid l.r.x l.r.y) l.i1 l.i2 l.j1 0

abbrev pub invariant-loop-i2 : goal.invariant-loop-i2
invariant-loop-i2 l = l.c ≡ so_far (grid l.r.x l.r.y) l.i1 l.i2 0 0

abbrev pub invariant-loop-i1 : goal.invariant-loop-i1
invariant-loop-i1 l = l.c ≡ so_far (grid l.r.x l.r.y) l.i1 0 0 0
