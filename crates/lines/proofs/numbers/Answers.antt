-- `lines::numbers` meets its contract: a number behind those before.
use mathlib.Core.Path.{sym}
use native.Mathlib.Omega.{arith}
use Rattle.text.proofs.Wrote.{wrote-more, wrote_as}
use Rattle.lines.proofs.Spaced.{spaced-front}
use Rattle.lines.proofs.numbers.Goals as goal

pub loop-n-preserved : goal.loop-n-preserved
loop-n-preserved c =
    wrote_as (wrote-more c.loop-n.invariant c.number-at.ensures) (sym (spaced-front c.args.values.now c.loop-n.n-index (omega arith)))
