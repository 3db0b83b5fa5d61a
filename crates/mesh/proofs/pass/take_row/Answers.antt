-- `mesh::pass::take_row` meets its contract, by the kind and the type.
use mathlib.Core.Path.{sym, ap, ◌∙◌}
use native.Mathlib.Omega.{arith}
use lib.ListN.{drop}
use Rattle.mesh_text.specs.Rows.{line}
use Rattle.mesh_form.specs.Walk.{kind_number}
use Rattle.mesh_form.specs.Values.{size_of_type}
use Rattle.mesh_nodes.specs.Nodes.{nodes_in}
use Rattle.batch.proofs.Tallies.{moved_none, moved-passed}
use Rattle.mesh.proofs.Gathers.{row_other, row-passed, row-taken}
use Rattle.mesh.proofs.pass.take_row.Goals as goal

pub returns-in-Node : goal.returns-in-Node
returns-in-Node c =
    let a = c.args in
    row_other a.m.limit (nodes_in a.m.t.now) (line (drop a.item.at a.m.t.now)) a.s _ _ a.s _
    (λ e. absurd (omega (arith, e, ap kind_number c.in-Node.is))) (moved_none a.s _)

pub returns-in-None : goal.returns-in-None
returns-in-None c =
    let a = c.args in
    row-passed a.m.limit (nodes_in a.m.t.now) (line (drop a.item.at a.m.t.now)) a.s _ _ c.one_passed.result _
    (ap kind_number c.in-Element.is) (sym (c.in-None.ensures.size ∙ ap size_of_type c.type_at.ensures))
    (moved-passed a.s c.one_passed.result _ c.one_passed.ensures)

pub returns-in-Some : goal.returns-in-Some
returns-in-Some c =
    let a = c.args in
    let e = c.in-Some.ensures.size ∙ ap size_of_type c.type_at.ensures in
    row-taken a.m.limit (nodes_in a.m.t.now) (line (drop a.item.at a.m.t.now)) a.s _ _ c.take_ours.result _
    (ap kind_number c.in-Element.is) (λ z. absurd (omega (arith, e, z, c.in-Some.ensures.ours))) c.take_ours.ensures
