-- `faults::element_code` meets its contract: a kind, and what is asked of it.
use Rattle.std.proofs.lemmas.Result.{err_from_is_err_and}
use Rattle.element.specs.Refusals.{no_more, element_codes}
use Rattle.faults.proofs.Meant.{known}
use Rattle.faults.proofs.element_code.Goals as goal

pub returns-in_err-list_code-clause-code : goal.returns-in_err-list_code-clause-code
returns-in_err-list_code-clause-code c =
    let p = err_from_is_err_and c.from_residual-in_err-list_code.result c.from_residual-in_err-list_code.ensures.1 in
    rw (p.1, p.2)
    (known c.in_ok-k.k (λ n. element_codes n c.args.coords.now no_more) c.in_ok-k.ensures c.in_err-list_code.ensures)
