-- `mesh_text::past` meets its contract: behind a run stand the bytes from its length on.
use Rattle.mesh_text.specs.Rows.{in_class}
use Rattle.mesh_text.proofs.Runs.{from_place, run_drop}
use lib.ListN.{drop}
use mathlib.Core.Path.{ap, ◌∙◌}
use Rattle.mesh_text.proofs.past.Goals as goal

pub returns : goal.returns
returns c =
    let a = c.args in
    from_place a.t.now c.run-n.result
    ∙ ap (λ n. drop n a.t.now) c.run-n.ensures.0
    ∙ run_drop (in_class a.class) a.t.now
