-- `quarter` meets its contract: there is room for a sum by each row of the table. Assumes nothing.
use mathlib.Core.Path.{◌∙◌, ap}
use lib.Dec.{lit<}
use Rattle.forms.specs.Cells.{quarter}
use Rattle.cells.proofs.Quarters.{table-room}
use Rattle.quad_cuts.proofs.quarter.Goals as goal

pub by_rows-requires : goal.by_rows-requires
by_rows-requires c = (lit< tt, (lit< tt, (lit< tt, table-room 64 72057594037927936 c.table.result c.args.c c.table.ensures.sums c.requires.1 (lit< tt))))

pub returns : goal.returns
returns c = c.by_rows.ensures ∙ ap (λ t. quarter t c.args.c) c.table.ensures.rule
