-- `by_rows` meets its contract: the loop keeps that the first k values are filled in, each by its row of the table.
use mathlib.Core.Path.{sym, ◌∙◌}
use native.Mathlib.Omega.{arith}
use borrow.Author.Rules.{rules, sfits_of}
use lib.ListN.{length-map}
use mir.Syntax.{w64}
use mir.Facts.{to_z-of_z}
use Rattle.algebra.proofs.Fill.{fill_more}
use Rattle.forms.proofs.Cells.{get_d-quarter}
use Rattle.cells.proofs.Quarters.{quarter-of}
use Rattle.cells.proofs.by_rows.Goals as goal

pub weighed-requires : goal.weighed-requires
weighed-requires g c =
    let room = c.requires in
    record { long = search rules; size = room.size; each = room.each; below = room.below c.loop-k.k }

pub loop-k-preserved : goal.loop-k-preserved
loop-k-preserved g c =
    fill_more c.loop-k.invariant (omega arith)
    (to_z-of_z {w = w64} (sfits_of c.weighed.type_inv) ∙ c.weighed.ensures ∙ sym (get_d-quarter c.args.rows.now c.args.c.now c.loop-k.k))

pub returns : goal.returns
returns g c = quarter-of c.loop-k.invariant (omega arith) (length-map c.args.rows.now _ ∙ c.told-rows)
