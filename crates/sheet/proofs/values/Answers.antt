-- `values` meets its contract: the values of the kind, a triangle's with zeros behind them. Assumes nothing.
use Rattle.sheet.proofs.Elements.{values-six}
use Rattle.sheet.proofs.values.Goals as goal

pub returns-then-kind-eq6 : goal.returns-then-kind-eq6
returns-then-kind-eq6 c =
    let a = c.args in
    values-six a.kind a.coords.now c.sixteen.result c.if-kind-eq6.true c.values.ensures c.sixteen.ensures
