-- `record_text::find::broken` meets its contract.
use native.Mathlib.Omega.{arith}
use Rattle.record_text.proofs.Tests.{broken-later}
use Rattle.record_text.proofs.find.broken.Goals as goal

pub returns : goal.returns
returns c =
    let a = c.args in
    rw c.is_whole-h.ensures (rw c.is_number-n.ensures (broken-later a.k a.w.now (omega arith)))
