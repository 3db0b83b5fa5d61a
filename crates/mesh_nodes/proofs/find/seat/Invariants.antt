-- `mesh_nodes::find::seat` meets its contract: the rows left are rows of the text.
use mathlib.Core.Path.{◌≡◌}
use mathlib.Core.List.{Memᴰ}
use Rattle.mesh_form.specs.Mesh.{Row}
use Rattle.mesh_form.specs.Walk.{items_from, node_rows}
use Rattle.mesh_nodes.specs.Nodes.{nodes_in, Seats}
use Rattle.mesh_nodes.proofs.find.seat.Given as goal

abbrev pub invariant-loop-item : goal.invariant-loop-item
invariant-loop-item l =
    Seats l.t l.places
    × ((l.item-iterator.t.now ≡ l.t) × ((r : Row) → Memᴰ r (node_rows (items_from l.t l.item-iterator.c)) → Memᴰ r (nodes_in l.t)))
