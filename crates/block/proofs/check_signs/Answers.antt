-- `block::check_signs` meets its contract: the loop keeps that no record before the record `from` differs from its sign. Assumes nothing.
use mathlib.Core.Bool.{Bool}
use mathlib.Core.List.{List}
use mathlib.Core.Logic.{inl}
use mathlib.Core.Path.{◌≡◌, refl, sym, ◌∙◌, subst}
use Prim.Native.Nat.{ℕ, ◌<◌}
use native.Mathlib.Omega.{arith}
use Rattle.element.specs.Refusals.{Accepted}
use Rattle.endian.specs.Numbers.{Bytes}
use Rattle.faults.specs.declared.refusal.Refusal.TheVariants.{Sign}
use Rattle.record.specs.declared.Record.{Record}
use Rattle.record.specs.Record.{WellFormed}
use Rattle.signs.specs.Calls.{Tells, Telling}
use Rattle.block.specs.Block.{version_of, count_of, record_at}
use Rattle.block.specs.Faults.{form_codes, sign_at, block_codes}
use Rattle.block.specs.Calls.{stored_record}
use Rattle.block.proofs.Header.{header-size}
use Rattle.block.proofs.Walk.{Passed, passed-more, form-header, unsigned-passed, signs-refused, signs-accepted}
use Rattle.block.proofs.Answers.{stored-within, refused-err, counted-ok}
use Rattle.block.proofs.Blocks.{form-formed}
use Rattle.block.proofs.check_signs.Goals as goal

tells : (l : List ℕ) (k : ℕ) (r : Record) {b : Bool} → Bytes l → Accepted (form_codes l) → k < count_of l → r ≡ stored_record l k
    → Telling r b
    → Tells (record_at l k) b
tells l k r {b} p a h e t =
    let g : r ≡ record_at l k = e ∙ stored-within l k (omega (arith, header-size l (form-header l a), h)) in
    subst (λ (r : Record). Tells r b) g (t (version_of l) (subst (WellFormed (version_of l)) (sym g) (form-formed l p a k h)))

pub returns-then-differs : goal.returns-then-differs
returns-then-differs c =
    let l = c.args.bytes.now in
    let n = c.in-Some.ensures in
    let below : c.in-Some.k < count_of l = rw (← c.requires.read) n.1 in
    let t = tells l c.in-Some.k c.record_at-r.result (record { each = λ n. omega (arith, c.type_inv.bytes n) }) c.requires.formed below
    c.record_at-r.ensures c.differs.ensures in
    refused-err (block_codes l) l (record { refusal = Sign; number = c.in-Some.k })
    (signs-refused l c.in-Some.k c.requires.formed below (unsigned-passed l c.in-Some.k c.args.count c.loop-k.invariant.1 n.0)
    (inl (t.yes c.if-differs.true, refl)))

pub loop-k-preserved : goal.loop-k-preserved
loop-k-preserved c =
    let l = c.args.bytes.now in
    let n = c.in-Some.ensures in
    let below : c.in-Some.k < count_of l = rw (← c.requires.read) n.1 in
    let t = tells l c.in-Some.k c.record_at-r.result (record { each = λ n. omega (arith, c.type_inv.bytes n) }) c.requires.formed below
    c.record_at-r.ensures c.differs.ensures in (
      omega (arith, n.1),
      passed-more (sign_at l) (unsigned-passed l c.in-Some.k c.args.count c.loop-k.invariant.1 n.0) (t.no c.if-differs.false, tt),
    )

pub returns : goal.returns
returns c =
    let l = c.args.bytes.now in
    counted-ok (block_codes l) l _
    (signs-accepted l c.requires.formed
    (subst (Passed (sign_at l)) c.requires.read (unsigned-passed l c.args.count c.args.count c.loop-k.invariant.1 c.in_default.ensures)))
    c.requires.read
