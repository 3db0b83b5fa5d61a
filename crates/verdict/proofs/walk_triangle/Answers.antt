-- `walk_triangle` meets its contract: an accepted triangle has room for the walk. Assumes nothing.
use Rattle.verdict.proofs.Answers.{triangle-room, triangle-walked}
use Rattle.verdict.proofs.walk_triangle.Goals as goal

pub walk_cell-requires : goal.walk_cell-requires
walk_cell-requires c = triangle-room c.args.limit c.args.coords.now c.requires.0 c.requires.1 c.values-c.ensures

pub returns : goal.returns
returns c = triangle-walked c.args.limit c.args.coords.now c.values-c.ensures c.walk_cell.ensures
