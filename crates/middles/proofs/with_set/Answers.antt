-- `middles::with_set` meets its contract: node by node. Assumes nothing.
use mathlib.Core.Path.{refl}
use native.Mathlib.Omega.{arith}
use Rattle.middles.specs.Middles.{replacing}
use Rattle.middles.proofs.Nodes.{both}
use Rattle.middles.proofs.with_set.Goals as goal

pub returns : goal.returns
unfolding replacing
returns c =
    both {n = c.node_at-a.result} (omega arith) (omega arith) c.node_at-a.ensures
    (both {n = c.node_at-b.result} (omega arith) (omega arith) c.node_at-b.ensures
    (both {n = c.node_at-c.result} (omega arith) (omega arith) c.node_at-c.ensures
    (both {n = c.new_node-d.result} (omega arith) (omega arith) c.new_node-d.ensures
    (both {n = c.new_node-e.result} (omega arith) (omega arith) c.new_node-e.ensures
    (both {n = c.new_node-f.result} (omega arith) (omega arith) c.new_node-f.ensures refl)))))
