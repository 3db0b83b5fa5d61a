-- `mending::try_record` meets its contract: a fetch, and then the record. Assumes nothing.
use Rattle.std.proofs.Common.{Ok, Err}
use mathlib.Core.Path.{◌≡◌, refl, sym, ap, subst}
use native.Mathlib.Omega.{arith}
use Rattle.std.proofs.lemmas.Result.{err_from_is_err_and}
use Rattle.faults.proofs.Refusals.{number-some}
use Rattle.record.specs.declared.Record.{Record}
use Rattle.block.specs.Block.{record_at}
use Rattle.block.specs.Calls.{as_fetched}
use Rattle.block.proofs.Answers.{accepted-block, fetches-none, fetches-is}
use Rattle.block.proofs.Blocks.{form-formed}
use Rattle.block.proofs.Walk.{accepted-form}
use Rattle.mending.specs.Calls.{as_mended}
use Rattle.mending.specs.Steps.{as_record, Sound, Tells}
use Rattle.mending.proofs.Orders.{formed-level}
use Rattle.mending.proofs.Answers.{fetch-refused, record-tried}
use Rattle.mending.proofs.try_record.Goals as goal

pub returns-in_err-r : goal.returns-in_err-r
returns-in_err-r c =
    let a = c.args in
    let e = c.in_err-r.field-0.0 in
    let p = err_from_is_err_and c.from_residual.result c.from_residual.ensures.1 in
    rw (p.1, p.2)
    (fetch-refused a.bytes.now a.k (fetches-none a.bytes.now a.k (as_fetched (Err e)) c.in_err-r.ensures (number-some e.refusal)) refl)

pub of_record-requires : goal.of_record-requires
of_record-requires c =
    let a = c.args in let l = a.bytes.now in
    let found = fetches-is l a.k (as_fetched (Ok c.in_ok-r.r)) c.in_ok-r.ensures refl in
    let b = accepted-block l a.k found.accepted in
    let w = form-formed l (record { each = λ n. omega (arith, c.type_inv.bytes n) }) (accepted-form l b.0) a.k b.1 in
    let same : c.in_ok-r.r ≡ record_at l a.k = ap as_record found.answer in
    subst (λ (r : Record). Sound r) (sym same) (record { pairs = w.nine_pairs; taken = λ e. formed-level (record_at l a.k) w })

pub returns : goal.returns
returns c =
    let a = c.args in let l = a.bytes.now in
    let found = fetches-is l a.k (as_fetched (Ok c.in_ok-r.r)) c.in_ok-r.ensures refl in
    let same : c.in_ok-r.r ≡ record_at l a.k = ap as_record found.answer in
    record-tried l a.k found.accepted (subst (λ (r : Record). Tells r a.k (as_mended c.of_record.result)) same c.of_record.ensures)
