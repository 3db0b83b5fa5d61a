-- `reader::read_by_steps` meets its contract: a refused opening is refused with its code, and another one begins at record 0.
use Rattle.block.proofs.Answers.{fetches-refused, fetch-block}
use Rattle.reader.proofs.Walked.{opens-begins, opens-refused}
use Rattle.reader.proofs.read_by_steps.Goals as goal

pub returns-then-c-ne0 : goal.returns-then-c-ne0
returns-then-c-ne0 c =
    let l = c.args.bytes.now in
    let r = c.begin_at-b.result in
    fetches-refused l c.args.k r.checked.code r.checked.number c.coded.result c.coded.ensures
    (fetch-block l c.args.k (record { code = r.checked.code; number = r.checked.number })
    (opens-refused l r.checked r.at c.begin_at-b.ensures c.if-c-ne0.true).refused.refused)

pub fetch_by_steps-requires : goal.fetch_by_steps-requires
fetch_by_steps-requires c =
    let r = c.begin_at-b.result in
    let b = opens-begins c.args.bytes.now r.checked r.at c.begin_at-b.ensures c.if-c-ne0.false in
    (b.counted.accepted, b.first)
