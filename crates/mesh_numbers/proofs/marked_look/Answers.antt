-- `mesh_numbers::marked_look` meets its contract: marks, and then look-ups. Assumes nothing.
use Rattle.mesh_numbers.specs.Numbers.{numbers, wanted}
use Rattle.mesh_numbers.proofs.Passes.{marked-looks}
use Rattle.mesh_numbers.proofs.marked_look.Goals as goal

pub returns : goal.returns
returns c =
    let a = c.args in
    marked-looks a.base a.flags.now (numbers a.t.now) _ (wanted a.t.now) c.mark.result c.look.result c.mark.ensures c.look.ensures
