-- `signs::differs` meets its contract: an unsigned record differs from no sign; a signed one is judged at its signed level. Assumes nothing.
use mathlib.Core.Path.{sym, subst, ◌∙◌}
use mathlib.Core.Bool.{false}
use lib.Dec.{T}
use Rattle.record.specs.declared.Record.{Record}
use Rattle.signs.specs.Signs.{Differs}
use Rattle.signs.specs.Calls.{Tells}
use Rattle.signs.proofs.Verdicts.{agrees}
use Rattle.signs.proofs.differs.Goals as goal

says-no : {r : Record} → ¬ Differs r → Tells r false
says-no d = record { yes = λ e. absurd (subst T (sym e) tt); no = λ e. d }

pub returns : goal.returns
returns c =
    let r = c.args.r in
    λ v w. says-no (agrees r w c.if-r-eq0.false c.judge-v.ensures (sym c.sign_of.ensures ∙ c.if-sign_of-r.false) (rw c.from.ensures at c.if-v-from.false))
