-- `faults::verdict_code` meets its contract: a kind, and what is asked of it.
use Rattle.std.proofs.lemmas.Result.{err_from_is_err_and}
use Rattle.element.specs.Refusals.{level_codes}
use Rattle.faults.proofs.Meant.{known}
use Rattle.faults.proofs.verdict_code.Goals as goal

pub returns-in_err-level_code-clause-code : goal.returns-in_err-level_code-clause-code
returns-in_err-level_code-clause-code c =
    let p = err_from_is_err_and c.from_residual-in_err-level_code.result c.from_residual-in_err-level_code.ensures.1 in
    rw (p.1, p.2)
    (known c.in_ok-k.k (λ n. level_codes n c.args.limit c.args.coords.now) c.in_ok-k.ensures c.in_err-level_code.ensures)

pub returns-clause-code : goal.returns-clause-code
returns-clause-code c = known c.in_ok-k.k (λ n. level_codes n c.args.limit c.args.coords.now) c.in_ok-k.ensures c.in_ok-level_code.ensures
