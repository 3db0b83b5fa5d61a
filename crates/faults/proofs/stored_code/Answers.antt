-- `faults::stored_code` meets its contract: a kind that a block holds, and what is asked of it.
use Rattle.std.proofs.Common.{subst}
use Rattle.element.specs.Refusals.{Coded, level_codes}
use Rattle.element.proofs.Refusals.{coded-past}
use Rattle.faults.specs.Refusal.{code_of}
use Rattle.faults.proofs.stored_code.Goals as goal

pub returns : goal.returns
returns c =
    let a = c.args in
    coded-past (c.stored.ensures.yes c.if-not-stored.false)
    (subst (λ n. Coded (level_codes n a.limit a.coords.now) (code_of c.level_code.result)) c.in_ok-try_from.ensures c.level_code.ensures)
