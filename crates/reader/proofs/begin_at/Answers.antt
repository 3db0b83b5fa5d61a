-- `reader::begin_at` meets its contract: by the check's code.
use mathlib.Core.Logic.{inr}
use mathlib.Core.Path.{refl}
use Rattle.block.proofs.Answers.{checks-counted}
use Rattle.reader.proofs.begin_at.Goals as goal

pub returns-then-checked-eq0 : goal.returns-then-checked-eq0
returns-then-checked-eq0 c = inr (record { counted = checks-counted c.args.s.now c.check_block-checked.result c.check_block-checked.ensures c.if-checked-eq0.true; first = refl })
