-- `quad::sum::combine` meets its contract: row by row, the loops keep that the places before (i, j) are filled.
use mathlib.Core.Path.{◌≡◌, subst}
use mathlib.Core.List.{List}
use Prim.Native.Nat.{ℕ}
use native.Mathlib.Omega.{arith}
use lib.IntN.{ℤ}
use Rattle.algebra.specs.Fill.{Filled}
use Rattle.algebra.proofs.Fill.{fill_more}
use Rattle.algebra.proofs.Within.{st, fits}
use Rattle.quad.proofs.Formula.{value-is}
use Rattle.quad.proofs.sum.combine.Goals as goal

as-far : {m n : ℕ} {f : ℕ → ℤ} {c : List ℤ} → m ≡ n → Filled 16 m f c → Filled 16 n f c
as-far {f = f} {c = c} e p = subst (λ n. Filled 16 n f c) e p

pub overflow_mul-c : goal.overflow_mul-c
overflow_mul-c c =
    fits (value-is c.args.r.now.along_x c.args.r.now.along_y c.loop-i.i c.loop-j.j (omega arith) (omega arith) c.weight.ensures c.sums-s.ensures) tt

pub loop-i-preserved : goal.loop-i-preserved
loop-i-preserved c =
    as-far (omega arith) (fill_more c.loop-i.invariant (omega arith)
    (st (value-is c.args.r.now.along_x c.args.r.now.along_y c.loop-i.i c.loop-j.j (omega arith) (omega arith) c.weight.ensures c.sums-s.ensures) tt).same)
