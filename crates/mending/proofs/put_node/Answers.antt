-- `mending::put_node` meets its contract: its two numbers, one behind the other. Assumes nothing.
use mathlib.Core.Path.{◌≡◌}
use mir.Syntax.{w32}
use mir.Val.{to_z, of_z}
use borrow.Author.Rules.{rules}
use Rattle.mending.proofs.Writes.{node-written}
use Rattle.mending.proofs.put_node.Goals as goal

pub returns : goal.returns
returns c =
    let a = c.args in
    let x : to_z w32 (of_z w32 a.v.x) ≡ a.v.x = search rules in
    let y : to_z w32 (of_z w32 a.v.y) ≡ a.v.y = search rules in
    node-written a.block.now a.k a.i c.requires.0 c.requires.1 x y c.put_i32.ensures c.put_i32-2.ensures
