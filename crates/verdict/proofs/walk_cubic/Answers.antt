-- `walk_cubic` meets its contract: an accepted element has room for the walk. Assumes nothing.
use Rattle.verdict.proofs.Answers.{cubic-room, cubic-walked}
use Rattle.verdict.proofs.walk_cubic.Goals as goal

pub walk_cell-requires : goal.walk_cell-requires
walk_cell-requires c = cubic-room c.args.limit c.args.coords.now c.requires.0 c.requires.1 c.values-c.ensures

pub returns : goal.returns
returns c = cubic-walked c.args.limit c.args.coords.now c.values-c.ensures c.walk_cell.ensures
