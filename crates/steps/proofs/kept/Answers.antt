-- `kept` meets its contract: field by field; the walk's bad point is the better of it and none. Assumes nothing.
use native.Mathlib.Nat as N
use Rattle.steps.proofs.Fields.{walk-≡, stays}
use Rattle.steps.proofs.kept.Goals as goal

pub returns : goal.returns
returns c = rw (N.add-zero) (walk-≡ (stays c.args.w.best c.requires.plain) c.max-deep.ensures)
