-- `by_sums::lean2` meets its contract: one sum. Assumes nothing.
use mathlib.Core.Path.{refl, ap}
use mathlib.Core.List.{List, ◌∷◌}
use Prim.Native.Nat.{◌^◌}
use lib.IntN.{ℤ, ◌+ℤ◌}
use Rattle.algebra.specs.Expr.{◌⊕◌}
use Rattle.cubic_cuts.specs.Lines.{beside, lean}
use Rattle.cubic_cuts.proofs.Sums.{from, two-fit, sums-words}
use Rattle.cubic_cuts.proofs.by_sums.lean2.Goals as goal

pub overflow_add-result : goal.overflow_add-result
overflow_add-result c = two-fit c.requires tt 0 1

pub returns : goal.returns
returns c =
    sums-words c.requires (2 ^ 62) (lean ◌⊕◌ 2 (from 0 2)) tt
    (ap (λ (l : List ℤ). c.args.a ∷ beside ◌+ℤ◌ l) (sums-words c.requires (2 ^ 61) (from 0 2) tt refl))
