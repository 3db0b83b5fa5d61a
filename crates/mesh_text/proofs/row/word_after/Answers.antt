-- `mesh_text::row::word_after` meets its contract: a word stands behind blanks.
use mathlib.Core.Path.{ap, ◌∙◌}
use lib.ListN.{length}
use Rattle.mesh_text.specs.declared.Class.TheVariants.{Blank, Word}
use Rattle.mesh_text.specs.Rows.{run, in_class}
use Rattle.mesh_text.proofs.Rows.{word_after}
use Rattle.mesh_text.proofs.row.word_after.Goals as goal

pub returns : goal.returns
returns c =
    word_after c.args.t.now c.args.at c.run-n.result c.run-m.result c.requires
    (c.run-n.ensures.0 ∙ ap (λ l. length (run (in_class Blank) l)) c.from.ensures)
    (c.run-m.ensures.0 ∙ ap (λ l. length (run (in_class Word) l)) c.from-2.ensures)
