-- `mesh_text::front` meets its contract: a run is the first bytes of the text, as many as it has.
use Rattle.mesh_text.specs.Rows.{in_class}
use Rattle.mesh_text.proofs.Runs.{run_take}
use lib.ListN.{take}
use mathlib.Core.Path.{ap, ◌∙◌}
use Rattle.mesh_text.proofs.front.Goals as goal

pub returns : goal.returns
returns c =
    let a = c.args in
    ap (λ n. take n a.t.now) c.run-n.ensures.0 ∙ run_take (in_class a.class) a.t.now
