-- `mesh_text::row::rest` meets its contract: behind a line's first word stand the line's other words.
use Rattle.mesh_text.proofs.Rows.{word-rest, word_more}
use Rattle.mesh_text.specs.Rows.{past, line, more, in_class}
use Rattle.mesh_text.specs.declared.Class.TheVariants.{Word}
use mathlib.Core.Path.{sym, ap, ◌∙◌}
use Rattle.mesh_text.proofs.row.rest.Goals as goal

pub returns : goal.returns
returns c =
    let e = c.past-2.ensures ∙ ap (past (in_class Word)) c.past.ensures in
    (ap line e ∙ sym (word-rest _), ap more e ∙ sym (word_more _))
