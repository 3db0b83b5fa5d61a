-- `walk_quad` meets its contract: an accepted quad has room for the walk. Assumes nothing.
use Rattle.verdict.proofs.Answers.{quad-room}
use Rattle.verdict.proofs.walk_quad.Goals as goal

pub walk_u-requires : goal.walk_u-requires
walk_u-requires c =
    let a = c.args in
    quad-room a.limit a.eight a.coords.now c.requires.0 c.requires.1 c.values-c.ensures
