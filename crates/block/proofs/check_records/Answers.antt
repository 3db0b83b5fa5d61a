-- `block::check_records` meets its contract: the loop keeps that no record before record k has a fault.
use mathlib.Core.Path.{◌≡◌, ap, ◌∙◌, subst}
use Prim.Native.Nat.{ℕ}
use mathlib.Core.List.{List}
use native.Mathlib.Omega.{arith}
use Rattle.element.specs.Refusals.{Coded}
use Rattle.endian.specs.Numbers.{number, part}
use Rattle.record.specs.Faults.{record_codes}
use Rattle.record.proofs.Refusals.{coded-ok, coded-err}
use Rattle.block.specs.Block.{version_of, place}
use Rattle.block.specs.Faults.{lowest, codes_at, form_codes}
use Rattle.block.proofs.Walk.{Passed, passed-more, low-more, walk_refused, walk-accepted}
use Rattle.block.proofs.Answers.{refused-err, counted-ok}
use Rattle.block.proofs.check_records.Goals as goal

-- the test of record k is that of its order
of-record : (l : List ℕ) (v at k low : ℕ) {n : ℕ} → v ≡ version_of l → at ≡ place k → low ≡ lowest l k
    → Coded (record_codes v l at low) n
    → Coded (codes_at l k) n
of-record l v at k low {n} e f g q =
    subst (λ (w : ℕ). Coded (record_codes w l (place k) (lowest l k)) n) e
    (subst (λ (m : ℕ). Coded (record_codes v l (place k) m) n) g (subst (λ (a : ℕ). Coded (record_codes v l a low) n) f q))

pub returns-in-Err : goal.returns-in-Err
returns-in-Err c =
    let l = c.args.bytes.now in
    let i = c.loop-k.invariant in
    refused-err (form_codes l) l _
    (walk_refused l c.loop-k.k _ c.requires.headed (rw (← c.requires.read.1) c.loop-k-test.true) i.2
    (coded-err _ (of-record l c.args.version c.loop-k.at c.loop-k.k c.loop-k.low c.requires.read.0 i.0 i.1 c.in-Err.ensures)))

pub loop-k-preserved : goal.loop-k-preserved
loop-k-preserved c =
    let l = c.args.bytes.now in
    let i = c.loop-k.invariant in (
      omega (arith, i.0),
      rw c.from-low.ensures (low-more l c.loop-k.k c.get_u32-id.result (c.get_u32-id.ensures ∙ ap (λ (i : ℕ). number (part i 4 l)) i.0)),
      passed-more (codes_at l) i.2
          (coded-ok (of-record l c.args.version c.loop-k.at c.loop-k.k c.loop-k.low c.requires.read.0 i.0 i.1 c.in_default.ensures) tt),
    )

pub returns : goal.returns
returns c =
    let l = c.args.bytes.now in
    counted-ok (form_codes l) l _ (walk-accepted l c.requires.headed (subst (Passed (codes_at l)) (let e : c.loop-k.k ≡ c.args.count = omega arith in e ∙ c.requires.read.1) c.loop-k.invariant.2)) c.requires.read.1
