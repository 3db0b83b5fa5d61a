-- `signing::check_version` meets its contract: 6 and 7, and then the block's codes. Assumes nothing.
use Rattle.block.specs.Calls.{as_checked}
use Rattle.record.proofs.Refusals.{coded-ok}
use Rattle.signing.proofs.Orders.{by-version}
use Rattle.signing.proofs.check_version.Goals as goal

pub returns : goal.returns
returns c =
    let a = c.args in
    by-version a.version a.bytes.now (as_checked c.check.result) (coded-ok c.in_ok-version_code.ensures tt) c.check.ensures
