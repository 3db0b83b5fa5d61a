-- `signing::older` meets its contract: a refusal writes nothing; else the version is written. Assumes nothing.
use mathlib.Core.Logic.{inl, inr}
use mathlib.Core.Path.{refl}
use Rattle.std.proofs.lemmas.Result.{err_from_is_err_and}
use Rattle.block.proofs.Answers.{err-refused, ok-counted}
use Rattle.signing.specs.Orders.{older_codes}
use Rattle.signing.proofs.Orders.{older-some}
use Rattle.signing.proofs.older.Goals as goal

pub returns-in_err-check_unsigned : goal.returns-in_err-check_unsigned
returns-in_err-check_unsigned c =
    let l = c.args.block.now in
    let p = err_from_is_err_and c.from_residual.result c.from_residual.ensures.1 in
    rw (p.1, p.2) (inl (record { refused = err-refused (older_codes l) l _ c.in_err-check_unsigned.ensures; untouched = refl }))

pub returns : goal.returns
returns c =
    let l = c.args.block.now in
    let n = ok-counted (older_codes l) l (older-some l) _ c.in_ok-check_unsigned.ensures in
    inr (record { accepted = n.0; answer = refl; written = c.put_version.ensures })
