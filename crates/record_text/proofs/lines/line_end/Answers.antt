-- `record_text::lines::line_end` meets its contract.
use mathlib.Core.Path.{ap, ◌∙◌}
use lib.ListN.{length}
use Rattle.mesh_text.specs.declared.Class.TheVariants.{Line}
use Rattle.mesh_text.specs.Rows.{run, in_class}
use Rattle.record_text.proofs.Ends.{line-end}
use Rattle.record_text.proofs.lines.line_end.Goals as goal

pub returns : goal.returns
returns c =
    line-end c.args.t.now c.args.at c.run-n.result c.requires
    (c.run-n.ensures.0 ∙ ap (λ l. length (run (in_class Line) l)) c.from.ensures)
