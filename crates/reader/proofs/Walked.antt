-- What the steps of a reader come to.
--   step-over, step-found, over-test, found-test : a step, by its test
--   over-beyond   : and where it is the end, a fetch answers 12
--   opens-checks  : an opening answers what the check does
--   opens-begins, opens-refused : an opening, by the check's code
--   opens-unique, steps-unique : the answers of an opening and of a step are determined by the bytes and the place
--   refused-ends  : the step of a reader of a refused block is the end
--   reader-steps  : over a block the steps give record 0, 1, 2, ..
--   reader-ends   : and then the end, and the end again
--   step-fetches  : each step gives the record that a fetch answers, with code 0
-- Assumes nothing.
use Rattle.std.specs.Prelude.{Option, Some, None}
use Rattle.std.proofs.lemmas.Option.{none-some, same_Some}
use mathlib.Core.Path.{◌≡◌, refl, sym, ap, ◌∙◌}
use mathlib.Core.Bool.{true, false}
use mathlib.Core.List.{List}
use mathlib.Core.Logic.{inl, inr}
use Prim.Native.Nat.{ℕ, suc, ◌+◌, ◌≤◌, ◌<◌}
use native.Mathlib.Omega.{arith}
use native.Mathlib.Decide.{dec_le}
use borrow.Author.Tests.{lt-ltb, le-ltb}
use lib.Dec.{ltb}
use lib.ListN.{length}
use Rattle.element.specs.Refusals.{Refused, Accepted}
use Rattle.element.proofs.Refusals.{refused-accepted}
use Rattle.record.specs.declared.Record.{Record}
use Rattle.record.specs.Record.{read_record}
use Rattle.block.specs.declared.Checked.{Checked}
use Rattle.block.specs.declared.Fetched.{Fetched}
use Rattle.block.specs.Block.{place, record_of, Holds}
use Rattle.block.specs.Faults.{block_codes, fetch_codes}
use Rattle.block.specs.Calls.{Checks, fetched, Fetches}
use Rattle.block.proofs.Header.{header-size}
use Rattle.block.proofs.Walk.{block-some, accepted-header}
use Rattle.block.proofs.Answers.{checks-unique, fetch-beyond}
use Rattle.block.proofs.Blocks.{block-length, held-record}
use Rattle.block.proofs.Demands.{fetched-record}
use Rattle.reader.specs.declared.Found.{Found}
use Rattle.reader.specs.Steps.{over_at, found_at, step_at, Steps, NoWalk, Begins, Opens}

-- ---- a step
module _ (l : List ℕ) (at : ℕ) where
  pub step-over : length l < at + 80 → step_at l at ≡ over_at at
  step-over h = let e : ltb (length l) (at + 80) ≡ true = lt-ltb (length l) (at + 80) h in rw e refl

  pub step-found : at + 80 ≤ length l → step_at l at ≡ found_at l at
  step-found h = let e : ltb (length l) (at + 80) ≡ false = le-ltb (length l) (at + 80) h in rw e refl

  pub over-test : (step_at l at).next ≡ None → length l < at + 80
  over-test e = by-test (dec_le (at + 80) (length l))
    where
      by-test : Dec (at + 80 ≤ length l) → length l < at + 80
      by-test (yes h) = absurd (none-some (read_record l at) (sym e ∙ ap (λ (f : Found). f.next) (step-found h)))
      by-test (no h) = omega arith

  pub found-test : (r : Record) → (step_at l at).next ≡ Some r → (at + 80 ≤ length l) × (r ≡ read_record l at)
  found-test r e = by-test (dec_le (at + 80) (length l))
    where
      by-test : Dec (at + 80 ≤ length l) → (at + 80 ≤ length l) × (r ≡ read_record l at)
      by-test (yes h) = (h, same_Some _ _ (sym e ∙ ap (λ (f : Found). f.next) (step-found h)))
      by-test (no h) = absurd (none-some _ (sym (ap (λ (f : Found). f.next) (step-over (omega arith))) ∙ e))

  -- where a step of a block is the end, no record k from there on is there
  pub over-beyond : (j k : ℕ) → Accepted (block_codes l) → at ≡ place j → j ≤ k → (step_at l at).next ≡ None
      → Refused (fetch_codes l k) (record { code = 12; number = 0 })
  over-beyond j k a e h t = fetch-beyond l k a (omega (arith, over-test t, e, h, header-size l (accepted-header l a)))

-- ---- the call of a step
pub steps-unique : {l : List ℕ} {at : ℕ} {n m : Option Record} {p q : ℕ} → Steps l at n p → Steps l at m q → (n ≡ m) × (p ≡ q)
steps-unique s t = (s.found ∙ sym t.found, s.moved ∙ sym t.moved)

-- ---- an opening
module _ (l : List ℕ) where
  pub opens-checks : (c : Checked) (at : ℕ) → Opens l c at → Checks l c
  opens-checks c at (inl p) = inl p.refused
  opens-checks c at (inr p) = inr p.counted

  pub opens-begins : (c : Checked) (at : ℕ) → Opens l c at → c.code ≡ 0 → Begins l c at
  opens-begins c at (inl p) e = absurd (block-some l (record { code = c.code; number = c.number }) p.refused.refused e)
  opens-begins c at (inr p) e = p

  pub opens-refused : (c : Checked) (at : ℕ) → Opens l c at → ¬ (c.code ≡ 0) → NoWalk l c at
  opens-refused c at (inl p) h = p
  opens-refused c at (inr p) h = absurd (h (ap (λ (r : Checked). r.code) p.counted.answer))

  pub opens-unique : (c d : Checked) (at to : ℕ) → Opens l c at → Opens l d to → (c ≡ d) × (at ≡ to)
  opens-unique c d at to (inl p) (inl q) = (checks-unique l c d (inl p.refused) (inl q.refused), p.behind ∙ sym q.behind)
  opens-unique c d at to (inl p) (inr q) =
      absurd (refused-accepted (block_codes l) (record { code = c.code; number = c.number }) p.refused.refused q.counted.accepted)
  opens-unique c d at to (inr p) (inl q) =
      absurd (refused-accepted (block_codes l) (record { code = d.code; number = d.number }) q.refused.refused p.counted.accepted)
  opens-unique c d at to (inr p) (inr q) = (checks-unique l c d (inr p.counted) (inr q.counted), p.first ∙ sym q.first)

  pub refused-ends : (c : Checked) (at : ℕ) → NoWalk l c at → step_at l at ≡ over_at at
  refused-ends c at p = step-over l at (omega (arith, p.behind))

-- ---- over a block
module _ {v : ℕ} {l : List ℕ} {rs : List Record} (h : Holds v l rs) where
  found : Record → ℕ → Found
  found r n = record { next = Some r; at = n }

  pub reader-steps : (k : ℕ) → k < length rs
      → step_at l (place k) ≡ record { next = Some (record_of rs k); at = place (suc k) }
  unfolding found
  reader-steps k i =
      step-found l (place k) (omega (arith, block-length h))
      ∙ ap (λ (r : Record). found r (place k + 80)) (held-record h k i)
      ∙ ap (found (record_of rs k)) (let e : place k + 80 ≡ place (suc k) = omega arith in e)

  -- the place stays, so that the next step is the end again
  pub reader-ends : step_at l (place (length rs)) ≡ over_at (place (length rs))
  reader-ends = step-over l (place (length rs)) (omega (arith, block-length h))

  pub step-fetches : (k : ℕ) → k < length rs → (r : Fetched) → Fetches l k r
      → ((step_at l (place k)).next ≡ Some (record_of rs k)) × (r ≡ fetched 0 0 (record_of rs k))
  step-fetches k i r f = (ap (λ (f : Found). f.next) (reader-steps k i), fetched-record h k i r f)
