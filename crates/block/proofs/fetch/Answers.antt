-- `block::fetch` meets its contract: the check's refusal, then 12, then the record.
use mathlib.Core.Logic.{inr}
use mathlib.Core.Path.{ap, ◌∙◌}
use native.Mathlib.Omega.{arith}
use Rattle.std.proofs.lemmas.Result.{err_from_is_err_and}
use Rattle.faults.specs.declared.refusal.Refusal.TheVariants.{Absent}
use Rattle.record.specs.declared.Record.{Record}
use Rattle.block.specs.Faults.{block_codes}
use Rattle.block.specs.Calls.{fetched}
use Rattle.block.proofs.Header.{header-size}
use Rattle.block.proofs.Walk.{block-some, accepted-header}
use Rattle.block.proofs.Answers.{err-refused, ok-counted, fetches-told, fetch-block, fetch-beyond, fetch-accepted, stored-within}
use Rattle.block.proofs.fetch.Goals as goal

pub returns-in_err-count : goal.returns-in_err-count
returns-in_err-count c =
    let l = c.args.bytes.now in
    let p = err_from_is_err_and c.from_residual.result c.from_residual.ensures.1 in
    rw (p.1, p.2) (fetches-told l c.args.k _ (fetch-block l c.args.k _ (err-refused (block_codes l) l _ c.in_err-count.ensures)))

pub returns-then-count-k : goal.returns-then-count-k
returns-then-count-k c =
    let l = c.args.bytes.now in
    let p = ok-counted (block_codes l) l (block-some l) c.in_ok-count.count c.in_ok-count.ensures in
    rw c.from.ensures (fetches-told l c.args.k (record { refusal = Absent; number = 0 }) (fetch-beyond l c.args.k p.0 (rw p.1 at c.if-count-k.true)))

pub returns : goal.returns
returns c =
    let l = c.args.bytes.now in
    let p = ok-counted (block_codes l) l (block-some l) c.in_ok-count.count c.in_ok-count.ensures in
    inr (record {
      accepted = fetch-accepted l c.args.k p.0 (rw p.1 at c.if-count-k.false);
      answer = ap (λ (r : Record). fetched 0 0 r) (c.record_at.ensures ∙ stored-within l c.args.k
          (omega (arith, header-size l (accepted-header l p.0), p.1, c.if-count-k.false)));
    })
