-- `mesh_text::row::row_after` meets its contract: a line ends at its line feed, or with the text.
use Rattle.mesh_text.proofs.Rows.{row-after, row_last}
use Rattle.mesh_text.specs.Rows.{run, in_class}
use Rattle.mesh_text.specs.declared.Class.TheVariants.{Line}
use lib.ListN.{length}
use mathlib.Core.Path.{ap, ◌∙◌}
use Rattle.mesh_text.proofs.row.row_after.Goals as goal

pub returns-then-end-t : goal.returns-then-end-t
returns-then-end-t c =
    row-after c.args.t.now c.args.at c.run-n.result c.requires
    (c.run-n.ensures.0 ∙ ap (λ l. length (run (in_class Line) l)) c.from.ensures) c.if-end-t.true

pub returns : goal.returns
returns c =
    row_last c.args.t.now c.args.at c.run-n.result c.requires
    (c.run-n.ensures.0 ∙ ap (λ l. length (run (in_class Line) l)) c.from.ensures) c.if-end-t.false
