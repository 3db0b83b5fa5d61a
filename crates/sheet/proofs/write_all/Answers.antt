-- `write_all` meets its contract: the header, and the cutting behind it. Assumes nothing.
use Rattle.sheet.proofs.Elements.{values-inside, element-room}
use Rattle.sheet.proofs.Writes.{wrote-sheet}
use Rattle.sheet.proofs.write_all.Goals as goal

pub values-c-requires : goal.values-c-requires
values-c-requires c = let a = c.args in (c.requires.0, values-inside a.kind a.limit a.coords.now c.requires)

pub cell-requires : goal.cell-requires
cell-requires c =
    let a = c.args in
    element-room a.kind a.limit a.coords.now c.requires c.values-c.result c.values-c.ensures

pub returns : goal.returns
returns c =
    let a = c.args in
    wrote-sheet a.kind a.limit a.coords.now c.values-c.result c.requires.0 c.values-c.ensures c.word-at.ensures c.cell.ensures
