-- `straighten::gives_valid` meets its contract: by the verdict on the changed coordinates, which are accepted. Assumes nothing.
use mathlib.Core.Path.{◌∙◌, sym}
use Rattle.straighten.proofs.Answers.{told-no}
use Rattle.straighten.proofs.gives_valid.Goals as goal

pub returns-clause-no : goal.returns-clause-no
returns-clause-no c =
    let a = c.args in
    λ t. told-no a.limit a.coords.now _ a.s c.verdict-v.result c.with_set-c.ensures c.verdict-v.ensures c.requires
    (sym c.is_valid.ensures ∙ t)
