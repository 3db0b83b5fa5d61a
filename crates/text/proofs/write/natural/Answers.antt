-- `text::write::natural` meets its contract: one digit, or as `digits` has it. Assumes nothing.
use mathlib.Core.Path.{sym}
use Rattle.text.proofs.Wrote.{wrote_as}
use Rattle.text.proofs.Decimals.{decimal-one}
use Rattle.text.proofs.write.natural.Goals as goal

pub returns-then-n-lt10 : goal.returns-then-n-lt10
returns-then-n-lt10 c =
    wrote_as c.put.ensures (sym (decimal-one c.args.n c.if-n-lt10.true))
