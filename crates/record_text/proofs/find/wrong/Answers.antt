-- `record_text::find::wrong` meets its contract.
use native.Mathlib.Omega.{arith}
use Rattle.record_text.proofs.Tests.{wrong-front, wrong-later}
use Rattle.record_text.proofs.find.wrong.Goals as goal

pub returns-then-k-le3 : goal.returns-then-k-le3
returns-then-k-le3 c = let a = c.args in rw c.number.ensures (wrong-front a.k a.w.now c.if-k-le3.true)

pub returns : goal.returns
returns c = let a = c.args in rw c.is_number.ensures (wrong-later a.k a.w.now (omega arith))
