-- `mesh_numbers::look::look_row` meets its contract: no numbers, or the first of nine. Assumes nothing.
use mathlib.Core.Path.{◌≡◌, sym, ap, ◌∙◌, subst}
use Prim.Native.Nat.{ℕ}
use native.Mathlib.Omega.{arith}
use lib.ListN.{take, drop}
use Rattle.std.proofs.lemmas.List.{length-take-le}
use Rattle.mesh_text.specs.Rows.{line}
use Rattle.mesh_form.specs.Values.{type_of, size_of_type}
use Rattle.mesh_form.specs.Walk.{items_of, kind_number}
use Rattle.mesh_form.proofs.Said.{nine-enough}
use Rattle.mesh_numbers.specs.Numbers.{gather, wanted_by}
use Rattle.mesh_numbers.specs.Windows.{Looks}
use Rattle.mesh_numbers.proofs.Passes.{unwanted-row, wanted-row, wanted-size, looks-nil}
use Rattle.mesh_numbers.proofs.look.look_row.Goals as goal

pub returns-in-Node : goal.returns-in-Node
returns-in-Node c =
    let a = c.args in
    let row = line (drop a.item.at a.t.now) in
    looks-nil a.w.base a.w.lim a.flags.now a.p _
    (ap (λ k. gather wanted_by (items_of (kind_number k) row)) c.in-Node.is ∙ unwanted-row 1 row (λ e. absurd (omega arith)))

pub slice_bounds-names-end : goal.slice_bounds-names-end
slice_bounds-names-end c = nine-enough _ _ _ _ c.in-Some.ensures.size c.nine_at-names.ensures

pub slice_bounds-look_among-end : goal.slice_bounds-look_among-end
slice_bounds-look_among-end c =
    sym (length-take-le {A = ℕ} c.in-Some.size c.nine_at-names.result (nine-enough _ _ _ _ c.in-Some.ensures.size c.nine_at-names.ensures))

pub returns-in-None : goal.returns-in-None
returns-in-None c =
    let a = c.args in
    let row = line (drop a.item.at a.t.now) in
    let size : 0 ≡ size_of_type (type_of row) = c.in-None.ensures.size ∙ ap size_of_type c.type_at.ensures in
    looks-nil a.w.base a.w.lim a.flags.now a.p _ (wanted-row _ row (ap kind_number c.in-Element.is) ∙ wanted-size row 0 size)

pub returns-in-Some : goal.returns-in-Some
returns-in-Some c =
    let a = c.args in
    let row = line (drop a.item.at a.t.now) in
    let size : c.in-Some.size ≡ size_of_type (type_of row) = c.in-Some.ensures.size ∙ ap size_of_type c.type_at.ensures in
    subst (λ l. Looks a.w.base a.w.lim a.flags.now a.p l c.look_among.result)
    (ap (take c.in-Some.size) c.nine_at-names.ensures
    ∙ sym (wanted-row _ row (ap kind_number c.in-Element.is) ∙ wanted-size row c.in-Some.size size))
    c.look_among.ensures
