-- `mesh_text::row::over` meets its contract: a line without a word has no first word.
use Rattle.mesh_text.proofs.Rows.{over-is}
use Rattle.mesh_text.specs.Rows.{run, in_class}
use Rattle.mesh_text.specs.declared.Class.TheVariants.{Word}
use lib.ListN.{length}
use lib.Dec.{eqb}
use mathlib.Core.Path.{ap, ◌∙◌}
use Rattle.mesh_text.proofs.row.over.Goals as goal

pub returns : goal.returns
returns c = ap (λ n. eqb n 0) (c.run.ensures.0 ∙ ap (λ l. length (run (in_class Word) l)) c.past.ensures) ∙ over-is _
