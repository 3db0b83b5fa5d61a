-- `merge` meets its contract: field by field. Assumes nothing.
use Rattle.steps.proofs.Fields.{walk-≡}
use Rattle.steps.proofs.merge.Goals as goal

pub returns : goal.returns
returns c = walk-≡ c.better-best.ensures c.max-deep.ensures
