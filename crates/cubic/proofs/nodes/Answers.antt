-- `cubic::nodes` meets its contract: nine nodes, and the tenth behind them.
use mathlib.Core.Path.{◌∙◌, ap, ap₂}
use Prim.Native.Nat.{◌+◌}
use borrow.Author.Rules.{sfits_of}
use lib.ListN.{set}
use mir.Syntax.{w64}
use mir.Facts.{to_z-of_z}
use Rattle.element.specs.Origin.{from_first}
use Rattle.points.specs.Points.{less}
use Rattle.points.proofs.First.{less-axis}
use Rattle.cubic.proofs.Points.{nodes-are}
use Rattle.cubic.proofs.nodes.Goals as goal

pub returns : goal.returns
returns c =
    let v = c.args.xs.now in let a = c.args.axis in
    ap₂ (λ l z. set l 9 z) c.coordinates-n.ensures
    (to_z-of_z {w = w64} (sfits_of c.less.type_inv)
    ∙ c.less.ensures.value
    ∙ ap (less v (18 + a)) (to_z-of_z {w = w64} (sfits_of c.coord.type_inv) ∙ c.coord.ensures.value)
    ∙ less-axis v 9 a c.requires)
    ∙ nodes-are (from_first v) a
