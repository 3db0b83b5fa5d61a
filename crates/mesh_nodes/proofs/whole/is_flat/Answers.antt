-- `mesh_nodes::whole::is_flat` meets its contract.
use mathlib.Core.Path.{ap, ◌∙◌}
use mathlib.Core.Bool.{◌&&◌}
use Rattle.mesh_text.specs.Rows.{line}
use Rattle.mesh_text.specs.Tests.{whole_b}
use Rattle.mesh_nodes.proofs.Rows.{flat-of}
use Rattle.mesh_nodes.proofs.whole.is_flat.Goals as goal

pub returns : goal.returns
returns c =
    let t = c.args.t.now in
    ap (λ b. b && (c.is_whole-y.result && c.is_zero-z.result)) c.is_whole-x.ensures
    ∙ ap (λ b. whole_b c.first.result.now && (b && c.is_zero-z.result)) c.is_whole-y.ensures
    ∙ ap (λ b. whole_b c.first.result.now && (whole_b c.first-2.result.now && b)) c.is_zero-z.ensures
    ∙ flat-of (line t) _ _ _ _ _ _ c.rest-t1.ensures.0 c.rest-t2.ensures.0 c.rest-t3.ensures.0
    c.first.ensures c.first-2.ensures c.first-3.ensures
