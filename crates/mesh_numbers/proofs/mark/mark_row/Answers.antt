-- `mesh_numbers::mark::mark_row` meets its contract: no number, or one. Assumes nothing.
use mathlib.Core.Path.{sym, ap, ◌∙◌}
use mathlib.Core.Bool.{◌||◌}
use mathlib.Core.List.{[], ◌∷◌}
use native.Mathlib.Omega.{arith}
use lib.ListN.{drop}
use Rattle.mesh_text.specs.Rows.{line}
use Rattle.mesh_form.specs.Walk.{items_of, kind_number}
use Rattle.mesh_numbers.specs.Numbers.{gather, node_number}
use Rattle.mesh_numbers.proofs.Passes.{other_row, node_row, marks-nil, marks-one}
use Rattle.mesh_numbers.proofs.mark.mark_row.Goals as goal

pub returns-in-Element : goal.returns-in-Element
returns-in-Element c =
    let a = c.args in
    let row = line (drop a.item.at a.t.now) in
    marks-nil a.w.base a.w.lim a.flags.now a.p (gather node_number (items_of (kind_number a.item.kind) row))
    (ap (λ k. gather node_number (items_of (kind_number k) row)) c.in-Element.is ∙ other_row 2 row (λ e. absurd (omega arith)))

pub returns-in-Node : goal.returns-in-Node
returns-in-Node c =
    let n = c.number_at-n in
    let m = c.mark_one-again.ensures in
    let a = c.args in
    let row = line (drop a.item.at a.t.now) in
    marks-one a.w.base a.w.lim a.flags.now a.p (gather node_number (items_of (kind_number a.item.kind) row)) n.result _ _
    (node_row _ row (ap kind_number c.in-Node.is) ∙ ap (λ x. x ∷ []) (sym n.ensures))
    (ap (λ b. a.p.found || b) m.0)
    c.lesser-above.ensures
    m.1
