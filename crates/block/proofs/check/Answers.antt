-- `block::check` meets its contract: the form, and then the signs.
use Rattle.std.proofs.lemmas.Result.{err_from_is_err_and}
use Rattle.block.specs.Faults.{form_codes, block_codes}
use Rattle.block.proofs.Walk.{form-some, form-refused}
use Rattle.block.proofs.Answers.{err-refused, refused-err, ok-counted}
use Rattle.block.proofs.check.Goals as goal

pub returns-in_err-count : goal.returns-in_err-count
returns-in_err-count c =
    let l = c.args.bytes.now in
    let p = err_from_is_err_and c.from_residual.result c.from_residual.ensures.1 in
    rw (p.1, p.2)
    (refused-err (block_codes l) l _ (form-refused l _ (err-refused (form_codes l) l _ c.in_err-count.ensures)))

pub check_signs-requires : goal.check_signs-requires
check_signs-requires c =
    let l = c.args.bytes.now in
    let p = ok-counted (form_codes l) l (form-some l) c.in_ok-count.count c.in_ok-count.ensures in
    record { formed = p.0; read = p.1 }
