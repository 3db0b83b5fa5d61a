-- `mesh_nodes::want::want` meets its contract.
use Prim.Native.Nat.{◌≤◌}
use lib.ListN.{length}
use Rattle.mesh_nodes.proofs.want.want.Given as goal

abbrev pub invariant-loop-item : goal.invariant-loop-item
invariant-loop-item l = l.have ≤ length l.initial.numbers
