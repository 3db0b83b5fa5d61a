-- `mesh::append` meets its contract.
use mathlib.Core.Path.{refl}
use native.Mathlib.Omega.{arith}
use Rattle.std.proofs.lemmas.Result.{err_from_is_err_and}
use Rattle.element.proofs.Refusals.{coded_none}
use Rattle.faults.proofs.Refusals.{number-some}
use Rattle.mesh.proofs.Opened.{refused-answer, block_refused, block-counted}
use Rattle.mesh.proofs.append.Goals as goal

pub returns-in_err-count : goal.returns-in_err-count
returns-in_err-count c =
    let a = c.args in
    let t = a.text.now in
    let b = a.buffer.now in
    let p = err_from_is_err_and c.from_residual-in_err-count.result c.from_residual-in_err-count.ensures.1 in
    rw (p.1, p.2) (refused-answer t b a.used a.limit _ (block_refused t b a.used _ (coded_none c.in_ok-text_code.ensures tt refl) (omega arith) c.in_err-count.ensures (number-some _)))

pub append_all-requires-clause-good : goal.append_all-requires-clause-good
append_all-requires-clause-good c =
    let a = c.args in
    (block-counted a.text.now a.buffer.now a.used _ (coded_none c.in_ok-text_code.ensures tt refl) (omega arith) c.in_ok-count.ensures refl).0

pub append_all-requires-clause-counted : goal.append_all-requires-clause-counted
append_all-requires-clause-counted c =
    let a = c.args in
    (block-counted a.text.now a.buffer.now a.used _ (coded_none c.in_ok-text_code.ensures tt refl) (omega arith) c.in_ok-count.ensures refl).1
