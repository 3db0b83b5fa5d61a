-- `mesh_nodes::want::want_names` meets its contract.
use Prim.Native.Nat.{◌≤◌}
use lib.ListN.{length}
use Rattle.mesh_nodes.proofs.want.want_names.Given as goal

abbrev pub invariant-loop-name : goal.invariant-loop-name
invariant-loop-name l = l.n ≤ length l.initial.numbers
