-- `signs::judge` meets its contract: the verdict of the coordinates that the kind uses. Assumes nothing.
use mathlib.Core.Path.{◌∙◌, ap, subst}
use mathlib.Core.List.{List}
use Prim.Native.Nat.{ℕ, ◌*◌}
use lib.IntN.{ℤ}
use lib.ListN.{take}
use Rattle.verdict.specs.Calls.{VerdictOf}
use Rattle.signs.proofs.Verdicts.{take_min}
use Rattle.signs.proofs.judge.Goals as goal

pub returns : goal.returns
returns c =
    let a = c.args in let xs = a.coords.now in
    subst (λ (l : List ℤ). VerdictOf a.kind a.limit l c.verdict.result)
    (ap (λ (m : ℕ). take m xs) c.used_numbers-n.ensures ∙ take_min (2 * a.kind) 18 xs c.requires) c.verdict.ensures
