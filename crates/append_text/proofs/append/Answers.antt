-- `append_text::append` meets its contract.
use mathlib.Core.Path.{refl, sym, ap, ◌∙◌, subst}
use native.Mathlib.Omega.{arith}
use Rattle.std.specs.Prelude.{Err}
use Rattle.std.proofs.lemmas.Result.{err_from_is_err_and}
use Rattle.faults.specs.declared.refusal.Refusal.TheVariants.{Form, Fraction, Room}
use Rattle.faults.proofs.Refusals.{number-some}
use Rattle.block.specs.declared.Refused.{Refused}
use Rattle.append_text.specs.Calls.{as_texted, AppendsText}
use Rattle.append_text.proofs.Opened.{form-refused, whole-refused, refused-answer, used-beyond, block_refused, block-counted}
use Rattle.append_text.proofs.append.Goals as goal

pub returns-in-Some : goal.returns-in-Some
returns-in-Some c =
    let a = c.args in
    let t = a.text.now in
    let b = a.buffer.now in
    subst (λ e. AppendsText t b a.used (as_texted (Err e)) b) (sym c.at.ensures)
    (refused-answer t b a.used (record { refusal = Form; number = 0; line = c.in-Some.place.line; word = c.in-Some.place.word }) (form-refused t b a.used _ c.in-Some.ensures.0))

pub returns-in-Some-fault : goal.returns-in-Some-fault
returns-in-Some-fault c =
    let a = c.args in
    let t = a.text.now in
    let b = a.buffer.now in
    subst (λ e. AppendsText t b a.used (as_texted (Err e)) b) (sym c.at-in-Some-fault.ensures)
    (refused-answer t b a.used (record { refusal = Fraction; number = 0; line = c.in-Some-fault.place.line; word = c.in-Some-fault.place.word }) (whole-refused t b a.used _ c.in_default.ensures c.in-Some-fault.ensures.0))

pub returns-then-buffer-n : goal.returns-then-buffer-n
returns-then-buffer-n c =
    let a = c.args in
    let t = a.text.now in
    let b = a.buffer.now in
    subst (λ e. AppendsText t b a.used (as_texted (Err e)) b)
    (sym (c.from-then-buffer-n.ensures ∙ ap (λ (e : Refused). record { refusal = e.refusal; number = e.number; line = 0; word = 0 }) c.from.ensures))
    (refused-answer t b a.used (record { refusal = Room; number = 0; line = 0; word = 0 }) (used-beyond t b a.used c.in_default.ensures c.in_default-fault.ensures c.if-buffer-n.true))

pub returns-in_err-count : goal.returns-in_err-count
returns-in_err-count c =
    let a = c.args in
    let t = a.text.now in
    let b = a.buffer.now in
    let p = err_from_is_err_and c.from_residual.result c.from_residual.ensures.1 in
    rw (p.1, p.2) (refused-answer t b a.used _ (block_refused t b a.used _ c.in_default.ensures c.in_default-fault.ensures (omega arith) c.in_err-count.ensures (number-some _)))

pub append_all-requires-clause-good : goal.append_all-requires-clause-good
append_all-requires-clause-good c =
    let a = c.args in
    (block-counted a.text.now a.buffer.now a.used _ c.in_default.ensures c.in_default-fault.ensures (omega arith) c.in_ok-count.ensures refl).0

pub append_all-requires-clause-counted : goal.append_all-requires-clause-counted
append_all-requires-clause-counted c =
    let a = c.args in
    (block-counted a.text.now a.buffer.now a.used _ c.in_default.ensures c.in_default-fault.ensures (omega arith) c.in_ok-count.ensures refl).1
