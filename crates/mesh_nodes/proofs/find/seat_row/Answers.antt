-- `mesh_nodes::find::seat_row` meets its contract: the place that is stored is that of a node row.
use mathlib.Core.Path.{ap}
use Prim.Native.Nat.{ℕ}
use lib.ListN.{length-set}
use Rattle.mesh_form.specs.Walk.{kind_number}
use Rattle.mesh_nodes.proofs.Rows.{all_set}
use Rattle.mesh_nodes.proofs.find.seat_row.Goals as goal

pub returns-then-k-places : goal.returns-then-k-places
returns-then-k-places c =
    let a = c.args in
    (all_set c.lower-k.result a.item.at c.requires.0 (c.requires.1 (ap kind_number c.in-Node.is)), length-set {A = ℕ} a.places.now _ _)
