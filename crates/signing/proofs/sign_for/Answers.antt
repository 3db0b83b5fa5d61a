-- `signing::sign_for` meets its contract: the block's codes, 12, and then 24 or the two bytes of the verdict. Assumes nothing.
use mathlib.Core.List.{List}
use mathlib.Core.Path.{◌≡◌, sym, ap, ◌∙◌}
use Prim.Native.Nat.{ℕ, ◌<◌}
use native.Mathlib.Omega.{arith}
use Rattle.std.proofs.lemmas.Result.{err_from_is_err_and}
use Rattle.endian.specs.Numbers.{Bytes}
use Rattle.element.specs.Kinds.{kind_of}
use Rattle.element.specs.Refusals.{Accepted, verdict_codes}
use Rattle.judge.specs.Verdict.{Answer}
use Rattle.judge.proofs.Faithful.{element-faithful}
use Rattle.judge.proofs.Unique.{judges-unique}
use Rattle.verdict.specs.declared.Judged.{Judged}
use Rattle.verdict.specs.Calls.{HasVerdict, VerdictOf}
use Rattle.record.specs.declared.Record.{Record}
use Rattle.record.specs.Record.{used}
use Rattle.signs.specs.Signs.{element, sign_of, limit_of}
use Rattle.signs.proofs.Verdicts.{sign-told, level-told}
use Rattle.block.specs.Block.{count_of, record_at}
use Rattle.block.specs.Calls.{stored_record}
use Rattle.block.proofs.Header.{header-size}
use Rattle.block.proofs.Walk.{accepted-form, accepted-header}
use Rattle.block.proofs.Answers.{err-refused, ok-counted, stored-within}
use Rattle.block.proofs.Blocks.{form-formed}
use Rattle.signing.specs.Orders.{of_version}
use Rattle.signing.proofs.Orders.{version-accepted, version-some, sign-block, sign-beyond, sign-open, sign-accepted}
use Rattle.signing.proofs.Signed.{zero-open, open-zero, judged-of}
use Rattle.signing.proofs.sign_for.Goals as goal

-- the verdict on a record that was read is that of record k
judged : (l : List ℕ) (k n : ℕ) (q : Record) (j : Judged) → Bytes l → Accepted (of_version 2 l) → k < count_of l → q ≡ stored_record l k
    → n ≡ limit_of q
    → VerdictOf q.kind n (used q) j
    → let r = record_at l k in HasVerdict (verdict_codes r.kind (limit_of r) (used r)) (element r) (limit_of r) j
judged l k n q j p a h e m v =
    let b = version-accepted 2 l a in
    judged-of (form-formed l p (accepted-form l b.1) k h)
    (e ∙ stored-within l k (omega (arith, header-size l (accepted-header l b.1), h))) m v

pub returns-in_err-count : goal.returns-in_err-count
returns-in_err-count c =
    let l = c.args.bytes.now in
    let p = err_from_is_err_and c.from_residual.result c.from_residual.ensures.1 in
    rw (p.1, p.2) (record { refused = sign-block l c.args.k _ (err-refused (of_version 2 l) l _ c.in_err-count.ensures) })

pub returns-then-count-k : goal.returns-then-count-k
returns-then-count-k c =
    let l = c.args.bytes.now in
    let n = ok-counted (of_version 2 l) l (version-some 2 l) c.in_ok-count.count c.in_ok-count.ensures in
    rw c.from.ensures (record { refused = sign-beyond l c.args.k n.0 (omega (arith, c.if-count-k.true, n.1)) })

pub returns-then-signed-eq0 : goal.returns-then-signed-eq0
returns-then-signed-eq0 c =
    let l = c.args.bytes.now in
    let n = ok-counted (of_version 2 l) l (version-some 2 l) c.in_ok-count.count c.in_ok-count.ensures in
    let below : c.args.k < count_of l = omega (arith, c.if-count-k.false, n.1) in
    let has = judged l c.args.k c.limit_of-limit.result c.record_at-r.result c.judge-v.result
    (record { each = λ n. omega (arith, c.type_inv.bytes n) }) n.0 below c.record_at-r.ensures c.limit_of-limit.ensures c.judge-v.ensures in
    let byte : c.sign_of-signed.result ≡ sign_of has.answer.word = c.sign_of-signed.ensures ∙ sign-told has in
    record {
      refused = sign-open l c.args.k n.0 below
          (record { verdict = has.answer; judged = has.judges; undecides = zero-open has.answer.word (sym byte ∙ c.if-signed-eq0.true) });
    }

pub returns : goal.returns
returns c =
    let l = c.args.bytes.now in
    let n = ok-counted (of_version 2 l) l (version-some 2 l) c.in_ok-count.count c.in_ok-count.ensures in
    let below : c.args.k < count_of l = omega (arith, c.if-count-k.false, n.1) in
    let has = judged l c.args.k c.limit_of-limit.result c.record_at-r.result c.judge-v.result
    (record { each = λ n. omega (arith, c.type_inv.bytes n) }) n.0 below c.record_at-r.ensures c.limit_of-limit.ensures c.judge-v.ensures in
    let byte : c.sign_of-signed.result ≡ sign_of has.answer.word = c.sign_of-signed.ensures ∙ sign-told has in
    let settled : ¬ (sign_of has.answer.word ≡ 0) = λ e. c.if-signed-eq0.false (byte ∙ e) in
    let r = record_at l c.args.k in
    record {
      accepted = sign-accepted l c.args.k n.0 below
          (λ u. settled (open-zero has.answer.word
          (ap (λ (x : Answer). x.word) (judges-unique (element r) (element-faithful (kind_of r.kind) (used r)) (limit_of r) has.answer u.verdict
          has.judges u.judged) ∙ u.undecides)));
      verdict = has.answer;
      judged = has.judges;
      signed = byte;
      level = level-told has;
    }
