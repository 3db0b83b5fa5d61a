-- `mesh_form::values::nine_at` meets its contract: behind three words and the tags stand the node numbers. Assumes nothing.
use mathlib.Core.Path.{◌≡◌, ap, ◌∙◌}
use lib.ListN.{drop}
use Rattle.mesh_text.specs.Rows.{line, first, rest}
use Rattle.mesh_text.specs.Tests.{number_of}
use Rattle.mesh_form.specs.Values.{tags_of}
use Rattle.mesh_form.proofs.Said.{third-word, nine-is}
use Rattle.mesh_form.proofs.values.nine_at.Goals as goal

pub returns : goal.returns
returns c =
    let a = c.args in
    let row = line (drop a.at a.t.now) in
    let f = c.from-row.ensures in
    let tags : c.number-tags.result ≡ tags_of row =
    c.number-tags.ensures
    ∙ ap number_of (c.first.ensures
    ∙ ap first (c.rest-2.ensures.0 ∙ ap rest (c.rest.ensures.0 ∙ ap (λ x. rest (line x)) f))
    ∙ third-word row) in
    c.nine_from.ensures
    ∙ nine-is row _ _ c.number-tags.result tags (c.skip-behind.ensures.1 ∙ ap (λ x. drop 3 (line x)) f) c.skip-names.ensures.1
