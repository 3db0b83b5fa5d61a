-- `mesh_nodes::find::scan` meets its contract: the loop keeps that the rows left give the row.
use mathlib.Core.Path.{◌≡◌}
use Rattle.mesh_form.specs.Walk.{items_from, items_in, node_rows}
use Rattle.mesh_nodes.specs.Nodes.{row_of}
use Rattle.mesh_nodes.proofs.find.scan.Given as goal

abbrev pub invariant-loop-item : goal.invariant-loop-item
invariant-loop-item l =
    (l.item-iterator.t.now ≡ l.t) × (row_of l.n (node_rows (items_in l.t)) ≡ row_of l.n (node_rows (items_from l.t l.item-iterator.c)))
