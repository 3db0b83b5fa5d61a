-- `mesh_text::row::row_at` meets its contract: a row starts behind white space.
use Rattle.mesh_text.proofs.Rows.{row_at}
use Rattle.mesh_text.specs.Rows.{run, in_class}
use Rattle.mesh_text.specs.declared.Class.TheVariants.{White}
use lib.ListN.{length}
use mathlib.Core.Path.{ap, ◌∙◌}
use Rattle.mesh_text.proofs.row.row_at.Goals as goal

pub returns : goal.returns
returns c =
    let a = c.args in
    row_at a.t.now a.at c.run-n.result c.requires (c.run-n.ensures.0 ∙ ap (λ l. length (run (in_class White) l)) c.from.ensures)
