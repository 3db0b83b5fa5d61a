-- `lines::word_line` meets its contract: its pieces stand one behind the other.
use mathlib.Core.Path.{ap}
use mathlib.Core.List.{◌++◌}
use Rattle.text.proofs.Wrote.{wrote-more, wrote_as}
use Rattle.lines.proofs.Spaced.{spaced-line}
use Rattle.lines.proofs.word_line.Goals as goal

pub returns : goal.returns
returns c =
    wrote_as (wrote-more c.word-first.ensures (wrote-more c.numbers-last.ensures c.put.ensures))
    (ap (λ t. c.args.word.now ++ t) (spaced-line c.args.values.now))
