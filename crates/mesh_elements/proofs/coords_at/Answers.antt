-- `mesh_elements::coords_at` meets its contract: the loop keeps that the first numbers are the coordinates.
use mathlib.Core.Path.{◌≡◌, ap, ◌∙◌, subst}
use Prim.Native.Nat.{◌*◌}
use mir.Syntax.{w64}
use mir.Facts.{to_z-of_z}
use native.Mathlib.Omega.{arith}
use borrow.Author.Rules.{rules}
use lib.ListN.{take, drop, get_or}
use Rattle.algebra.specs.Fill.{list_to}
use Rattle.mesh_text.specs.Rows.{line}
use Rattle.mesh_text.specs.Tests.{clipped}
use Rattle.mesh_form.specs.Values.{type_of, size_of_type}
use Rattle.mesh_nodes.specs.Nodes.{row_of, nodes_in}
use Rattle.mesh_elements.specs.Rows.{coord_of}
use Rattle.mesh_elements.proofs.Coords.{coord-x, coord-y, name-is, fill-two, listed-sized, listed-few, listed-small}
use Rattle.mesh_elements.proofs.coords_at.Goals as goal

pub offset_bounds-names-j : goal.offset_bounds-names-j
offset_bounds-names-j c =
    record { fits = omega (arith, listed-small c.type_at.result c.order_of-order.result.now c.order_of-order.ensures c.loop-k.k (omega arith)) }

pub bounds-names-j : goal.bounds-names-j
bounds-names-j c = listed-small c.type_at.result c.order_of-order.result.now c.order_of-order.ensures c.loop-k.k (omega arith)

pub bounds-out-k : goal.bounds-out-k
bounds-out-k c = omega (arith, listed-few c.type_at.result c.order_of-order.result.now c.order_of-order.ensures)

pub bounds-out-k-in-loop-k : goal.bounds-out-k-in-loop-k
bounds-out-k-in-loop-k c = omega (arith, listed-few c.type_at.result c.order_of-order.result.now c.order_of-order.ensures)

pub loop-k-preserved : goal.loop-k-preserved
loop-k-preserved c =
    let a = c.args in
    let t = a.t.now in
    let r = line (drop a.at t) in
    let k = c.loop-k.k in
    let v = clipped 4294967295 in
    let n = name-is r _ _ _ k c.nine_at-names.ensures c.type_at.ensures (ap (λ l. get_or l k 0) c.order_of-order.ensures) in
    let e = c.find-p.ensures ∙ ap (λ m. row_of m (nodes_in t)) n in
    fill-two k c.loop-k.invariant (omega (arith, listed-few c.type_at.result c.order_of-order.result.now c.order_of-order.ensures))
    (to_z-of_z {w = w64} (search rules) ∙ c.x_at.ensures ∙ coord-x v (nodes_in t) r k _ e)
    (to_z-of_z {w = w64} (search rules) ∙ c.y_at.ensures ∙ coord-y v (nodes_in t) r k _ e)

pub returns : goal.returns
returns c =
    let a = c.args in
    let f = coord_of (clipped 4294967295) (nodes_in a.t.now) (line (drop a.at a.t.now)) in
    let o = c.order_of-order in
    let n : c.loop-k.k ≡ size_of_type (type_of (line (drop a.at a.t.now))) =
    omega (arith, listed-sized c.type_at.result o.result.now o.ensures) ∙ ap size_of_type c.type_at.ensures in
    subst (λ m. take (2 * m) c.loop-k.out ≡ list_to (2 * m) f) n c.loop-k.invariant.front
