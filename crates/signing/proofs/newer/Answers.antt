-- `signing::newer` meets its contract: a refusal writes nothing; else the version is written. Assumes nothing.
use mathlib.Core.Logic.{inl, inr}
use mathlib.Core.Path.{refl}
use Rattle.std.proofs.lemmas.Result.{err_from_is_err_and}
use Rattle.block.proofs.Answers.{err-refused, ok-counted}
use Rattle.signing.specs.Orders.{newer_codes}
use Rattle.signing.proofs.Orders.{version-some}
use Rattle.signing.proofs.newer.Goals as goal

pub returns-in_err-check_version : goal.returns-in_err-check_version
returns-in_err-check_version c =
    let l = c.args.block.now in
    let p = err_from_is_err_and c.from_residual.result c.from_residual.ensures.1 in
    rw (p.1, p.2) (inl (record { refused = err-refused (newer_codes l) l _ c.in_err-check_version.ensures; untouched = refl }))

pub returns : goal.returns
returns c =
    let l = c.args.block.now in
    let n = ok-counted (newer_codes l) l (version-some 1 l) _ c.in_ok-check_version.ensures in
    inr (record { accepted = n.0; answer = refl; written = c.put_version.ensures })
