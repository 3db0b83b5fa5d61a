-- `write_least` meets its contract: the verdict decides and counts; then the sheet. Assumes nothing.
use mathlib.Core.Path.{refl, sym, ◌∙◌}
use native.Mathlib.Omega.{arith}
use Rattle.std.proofs.lemmas.Result.{err_from_is_err_and}
use Rattle.element.proofs.Refusals.{coded_none, coded-some}
use Rattle.faults.proofs.Refusals.{number-some}
use Rattle.sheet.proofs.Writes.{write-refused, write-not-valid, some-cells, write-short, write_done}
use Rattle.sheet.proofs.write_least.Goals as goal

pub returns-in_err-stored_code : goal.returns-in_err-stored_code
returns-in_err-stored_code c =
    let a = c.args in
    let p = err_from_is_err_and c.from_residual.result c.from_residual.ensures.1 in
    rw (p.1, p.2) (write-refused a.kind a.limit a.coords.now a.out.now _ (coded-some c.in_err-stored_code.ensures (number-some _)))

pub returns-then-not-is_valid : goal.returns-then-not-is_valid
returns-then-not-is_valid c =
    let a = c.args in
    write-not-valid a.kind a.limit a.coords.now a.out.now (coded_none c.in_ok-stored_code.ensures tt refl) c.verdict-judged.result
    c.verdict-judged.ensures (sym c.is_valid.ensures ∙ c.if-not-is_valid.true)

pub overflow_sub-cells : goal.overflow_sub-cells
overflow_sub-cells c =
    let a = c.args in
    omega (
      arith,
      some-cells a.kind a.limit a.coords.now a.out.now (coded_none c.in_ok-stored_code.ensures tt refl) c.verdict-judged.result
          c.verdict-judged.ensures (sym c.is_valid.ensures ∙ c.if-not-is_valid.false),
    )

pub returns-then-out-cells : goal.returns-then-out-cells
returns-then-out-cells c =
    let a = c.args in
    write-short a.kind a.limit a.coords.now a.out.now (coded_none c.in_ok-stored_code.ensures tt refl) c.verdict-judged.result
    c.verdict-judged.ensures (sym c.is_valid.ensures ∙ c.if-not-is_valid.false) (let k = c.if-out-cells.true in omega arith)

pub write_all-requires : goal.write_all-requires
write_all-requires c = coded_none c.in_ok-stored_code.ensures tt refl

pub returns : goal.returns
returns c =
    let a = c.args in
    write_done a.kind a.limit a.coords.now a.out.now (coded_none c.in_ok-stored_code.ensures tt refl) c.verdict-judged.result
    c.verdict-judged.ensures (sym c.is_valid.ensures ∙ c.if-not-is_valid.false) _ (let k = c.if-out-cells.false in omega arith)
    c.write_all.ensures
