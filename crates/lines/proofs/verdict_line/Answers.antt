-- `lines::verdict_line` meets its contract: its pieces stand one behind the other, and each number has at most ten digits.
use native.Mathlib.Omega.{arith}
use mathlib.Core.List.{[], ◌∷◌}
use Rattle.text.proofs.Wrote.{wrote-more, wrote_as}
use Rattle.lines.specs.Names.{name_of}
use Rattle.lines.specs.Words.{ending}
use Rattle.lines.proofs.Spaced.{spaced-after}
use Rattle.lines.proofs.Lengths.{name-short, verdict-line-short}
use Rattle.lines.proofs.verdict_line.Goals as goal

pub returns-clause-line : goal.returns-clause-line
returns-clause-line c =
    let v = c.args.v in
    wrote-more c.natural-a.ensures
    (wrote-more c.number-b.ensures (wrote-more c.put-c.ensures (wrote-more c.name-d.ensures
    (wrote_as (wrote-more c.numbers-e.ensures c.line_end.ensures)
    (spaced-after (v.level ∷ v.i ∷ v.j ∷ v.cells ∷ []) (ending c.args.signed))))))

pub returns-clause-short : goal.returns-clause-short
returns-clause-short c =
    let v = c.args.v in
    verdict-line-short c.args.id c.args.kind (name_of v.word) v.level v.i v.j v.cells c.args.signed
    (omega arith) (omega arith) (name-short v.word)
    (omega arith) (omega arith) (omega arith) (omega arith)
