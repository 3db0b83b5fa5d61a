-- `cubic::combine` meets its contract: the loop keeps that the first n places are filled. Assumes nothing.
use mathlib.Core.Path.{◌∙◌, ap}
use native.Mathlib.Omega.{arith}
use borrow.Author.Rules.{sfits_of}
use mir.Syntax.{w64}
use mir.Facts.{to_z-of_z}
use Rattle.algebra.proofs.Fill.{fill_more}
use Rattle.cubic.specs.Points.{value_of}
use Rattle.cubic.proofs.Counts.{degrees-add}
use Rattle.cubic.proofs.combine.Goals as goal

pub value-requires-clause-places : goal.value-requires-clause-places
value-requires-clause-places c =
    rw c.degrees-d.ensures (degrees-add c.loop-n.n (omega arith))

pub loop-n-preserved : goal.loop-n-preserved
loop-n-preserved c =
    fill_more c.loop-n.invariant (omega arith)
    (to_z-of_z {w = w64} (sfits_of c.value.type_inv) ∙ c.value.ensures ∙ ap (value_of c.args.x.now c.args.y.now) c.degrees-d.ensures)
