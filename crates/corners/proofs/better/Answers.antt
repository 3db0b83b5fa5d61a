-- `better` meets its contract: each of its three ways out is a case of the definition. Assumes nothing.
use Rattle.corners.proofs.Corners.{better-other, better-second, better-first}
use Rattle.corners.proofs.better.Goals as goal

-- `better` meets its contract: each of its three ways out is a case of the definition. Assumes nothing.
pub returns-then-not-a : goal.returns-then-not-a
returns-then-not-a c = let x = c.args in better-other x.a x.b c.if-not-a.true

pub returns-then-b-sooner : goal.returns-then-b-sooner
returns-then-b-sooner c =
    let told = c in let x = told.args in
    better-second x.a x.b told.sooner.ensures told.if-not-a.false c.if-b-sooner.true

pub returns : goal.returns
returns c =
    let told = c in let x = told.args in
    better-first x.a x.b told.sooner.ensures told.if-not-a.false c.if-b-sooner.false
