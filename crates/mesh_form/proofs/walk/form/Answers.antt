-- `mesh_form::walk::form` meets its contract: the walk's answer is the form's (Formed).
use Rattle.mesh_form.proofs.Formed.{form-true, form_of}
use mathlib.Core.Bool.{true≢false}
use mathlib.Core.Path.{sym, ◌∙◌}
use Rattle.mesh_form.proofs.walk.form.Goals as goal

pub returns : goal.returns
returns c =
    let t = c.args.t.now in
    record {
      yes = λ e. form-true t (sym c.walks.ensures ∙ e);
      no = λ e h. true≢false (sym (form_of t h.1.1) ∙ sym c.walks.ensures ∙ e);
    }
