-- `either::quarter` meets its contract: the quarter of the shape, of its values. Assumes nothing.
use Rattle.forms.specs.Cuttings.{four_of}
use Rattle.sheet_cells.proofs.Shapes.{room-triangle, room-quad, cut-quad}
use Rattle.sheet_cells.proofs.either.quarter.Goals as goal

pub quarter-requires : goal.quarter-requires
quarter-requires c =
    let a = c.args in
    (c.requires.0, room-triangle a.triangle a.c c.if-triangle.true c.six.ensures c.requires.1)

pub quarter-requires-2 : goal.quarter-requires-2
quarter-requires-2 c =
    let a = c.args in
    (c.requires.0, room-quad a.triangle a.c c.if-triangle.false c.requires.1)

pub returns : goal.returns
returns c =
    let a = c.args in
    cut-quad a.triangle a.c (four_of a.i) c.quarter-2.result c.if-triangle.false c.quarter-2.ensures
