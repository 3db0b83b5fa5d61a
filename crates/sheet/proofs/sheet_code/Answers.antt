-- `sheet_code` meets its contract: the verdict's codes, the header, then the cutting up to the end. Assumes nothing.
use mathlib.Core.Path.{refl}
use lib.ListN.{drop}
use Rattle.std.specs.Prelude.{Some, None}
use Rattle.std.proofs.lemmas.Result.{err_from_is_err_and}
use Rattle.element.proofs.Refusals.{coded_none}
use Rattle.faults.proofs.Refusals.{number-some}
use Rattle.cuttings.specs.Reads.{Reads, Checked}
use Rattle.sheet.proofs.Elements.{values-inside, element-room, as-kind}
use Rattle.sheet.proofs.Checks.{headed-no, headed-yes, check-refused, check-headless, check-failed, check-before, check-end}
use Rattle.sheet.proofs.sheet_code.Goals as goal

pub returns-in_err-stored_code : goal.returns-in_err-stored_code
returns-in_err-stored_code c =
    let a = c.args in
    let p = err_from_is_err_and c.from_residual.result c.from_residual.ensures.1 in
    rw (p.1, p.2) (check-refused a.kind a.limit a.coords.now a.sheet.now _ c.in_err-stored_code.ensures (number-some _))

pub returns-then-not-headed : goal.returns-then-not-headed
returns-then-not-headed c =
    let a = c.args in
    check-headless a.kind a.limit a.coords.now a.sheet.now (coded_none c.in_ok-stored_code.ensures tt refl)
    (headed-no c.headed.result a.sheet.now c.if-not-headed.true c.headed.ensures)

pub values-c-requires : goal.values-c-requires
values-c-requires c =
    let a = c.args in
    let taken = coded_none c.in_ok-stored_code.ensures tt refl in
    (taken.0, values-inside a.kind a.limit a.coords.now taken)

pub cell-requires : goal.cell-requires
cell-requires c =
    let a = c.args in
    element-room a.kind a.limit a.coords.now (coded_none c.in_ok-stored_code.ensures tt refl) c.values-c.result c.values-c.ensures

pub returns-in_default : goal.returns-in_default
returns-in_default c =
    let a = c.args in
    let taken = coded_none c.in_ok-stored_code.ensures tt refl in
    check-failed a.kind a.limit a.coords.now a.sheet.now taken
    (as-kind a.kind a.coords.now c.values-c.result taken.0
    (λ S v. Checked (λ rest. Reads S a.limit v (drop 5 a.sheet.now) rest) a.sheet.now None) c.values-c.ensures c.in_default.ensures)

pub returns-then-end-sheet : goal.returns-then-end-sheet
returns-then-end-sheet c =
    let a = c.args in
    let taken = coded_none c.in_ok-stored_code.ensures tt refl in
    check-end a.kind a.limit a.coords.now a.sheet.now taken c.in-Some.end
    (headed-yes c.headed.result a.sheet.now c.if-not-headed.false c.headed.ensures)
    (as-kind a.kind a.coords.now c.values-c.result taken.0
    (λ S v. Checked (λ rest. Reads S a.limit v (drop 5 a.sheet.now) rest) a.sheet.now (Some c.in-Some.end)) c.values-c.ensures c.in-Some.ensures)
    c.if-end-sheet.true

pub returns : goal.returns
returns c =
    let a = c.args in
    let taken = coded_none c.in_ok-stored_code.ensures tt refl in
    check-before a.kind a.limit a.coords.now a.sheet.now taken c.in-Some.end
    (as-kind a.kind a.coords.now c.values-c.result taken.0
    (λ S v. Checked (λ rest. Reads S a.limit v (drop 5 a.sheet.now) rest) a.sheet.now (Some c.in-Some.end)) c.values-c.ensures c.in-Some.ensures)
    c.if-end-sheet.false
