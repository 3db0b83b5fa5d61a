-- `text::write::digits` meets its contract: the last digit behind the others. Assumes nothing.
use mathlib.Core.Path.{sym}
use Rattle.text.proofs.Wrote.{wrote-more, wrote_as}
use Rattle.text.proofs.Decimals.{decimal-one, decimal-more}
use Rattle.text.proofs.write.+digits.Goals as goal

pub returns-then-n-lt10 : goal.returns-then-n-lt10
returns-then-n-lt10 t c = wrote_as c.put.ensures (sym (decimal-one c.args.n c.if-n-lt10.true))

pub returns : goal.returns
returns t c = wrote_as (wrote-more c.digits-end.ensures c.put-2.ensures) (sym (decimal-more c.args.n c.if-n-lt10.false))
