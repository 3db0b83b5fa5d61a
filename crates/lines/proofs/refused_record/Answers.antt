-- `lines::refused_record` meets its contract: its pieces stand one behind the other, and each number has at most ten digits.
use native.Mathlib.Omega.{arith}
use Rattle.text.proofs.Wrote.{wrote-more}
use Rattle.lines.proofs.Lengths.{refused-record-short}
use Rattle.lines.proofs.refused_record.Goals as goal

pub returns-clause-line : goal.returns-clause-line
returns-clause-line c =
    wrote-more c.natural-a.ensures
    (wrote-more c.number-b.ensures (wrote-more c.word-c.ensures (wrote-more c.number-d.ensures c.put.ensures)))

pub returns-clause-short : goal.returns-clause-short
returns-clause-short c =
    let a = c.args in
    let short = refused-record-short a.id a.kind a.code (omega (arith, c.ranges.id)) (omega (arith, c.ranges.kind)) (omega (arith, c.ranges.code)) in
    omega (arith, short)
