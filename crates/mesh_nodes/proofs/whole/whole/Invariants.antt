-- `mesh_nodes::whole::whole` meets its contract: the loop keeps that the rows left give the answer.
use mathlib.Core.Path.{◌≡◌}
use Rattle.mesh_form.specs.Walk.{items_from, items_in, node_rows}
use Rattle.mesh_nodes.specs.Nodes.{flats_b}
use Rattle.mesh_nodes.proofs.whole.whole.Given as goal

abbrev pub invariant-loop-item : goal.invariant-loop-item
invariant-loop-item l =
    (l.item-iterator.t.now ≡ l.t) × (flats_b (node_rows (items_in l.t)) ≡ flats_b (node_rows (items_from l.t l.item-iterator.c)))
