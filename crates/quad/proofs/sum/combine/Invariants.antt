-- `quad::sum::combine` meets its contract: row by row, the loops keep that the places before (i, j) are filled.
use Prim.Native.Nat.{◌+◌, ◌*◌, ◌%◌, ◌/◌}
use Rattle.algebra.specs.Fill.{Filled}
use Rattle.element.specs.Control.{value}
use Rattle.quad.specs.Points.{grid}
use Rattle.quad.proofs.sum.combine.Given as goal

abbrev pub invariant-loop-i : goal.invariant-loop-i
invariant-loop-i l = Filled 16 (l.i + 4 * l.j) (λ k. value (grid l.r.x l.r.y) (k % 4) (k / 4)) l.c

abbrev pub invariant-loop-j : goal.invariant-loop-j
invariant-loop-j l = Filled 16 (4 * l.j) (λ k. value (grid l.r.x l.r.y) (k % 4) (k / 4)) l.c
