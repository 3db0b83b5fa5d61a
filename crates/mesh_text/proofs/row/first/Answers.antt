-- `mesh_text::row::first` meets its contract: a line's first word is the run of word bytes behind its blanks.
use Rattle.mesh_text.proofs.Rows.{word_first}
use Rattle.mesh_text.specs.Rows.{run, in_class}
use Rattle.mesh_text.specs.declared.Class.TheVariants.{Word}
use mathlib.Core.Path.{sym, ap, ◌∙◌}
use Rattle.mesh_text.proofs.row.first.Goals as goal

pub returns : goal.returns
returns c = c.front.ensures ∙ ap (run (in_class Word)) c.past.ensures ∙ sym (word_first _)
