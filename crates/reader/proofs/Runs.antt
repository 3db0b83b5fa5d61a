-- What a run of a reader gives, over the contracts of `open_reader` and `step_reader`.
--   open-unique, step-unique : each of the two contracts allows one answer
--   run-fetches  : over a block that is accepted, the step behind k steps answers what a fetch of record k does, for every k
--   run-records  : over the block of the records rs, it answers record k of them
--   run_ends     : and behind the last one the end, again and again
--   run-refused  : over bytes that are refused, every step answers the end
-- Assumes nothing.
use Rattle.std.specs.Prelude.{Option}
use mathlib.Core.Path.{◌≡◌, refl, sym, ap, ◌∙◌, subst}
use mathlib.Core.List.{List}
use mathlib.Core.Logic.{inl, inr}
use Prim.Native.Nat.{ℕ, zero, suc, ◌+◌, ◌*◌, ◌≤◌, ◌<◌}
use native.Mathlib.Nat as N
use native.Mathlib.Omega.{arith}
use native.Mathlib.Decide.{dec_le}
use denote.Ref.{Bor}
use lib.ListN.{length}
use Rattle.element.specs.Refusals.{Accepted}
use Rattle.record.specs.declared.Record.{Record}
use Rattle.record.specs.Record.{blank}
use Rattle.block.specs.declared.Checked.{Checked}
use Rattle.block.specs.declared.Fetched.{Fetched}
use Rattle.block.specs.Block.{count_of, place, record_at, record_of, Holds}
use Rattle.block.specs.Faults.{block_codes}
use Rattle.block.specs.Calls.{fetched, Fetches}
use Rattle.block.proofs.Header.{header-size}
use Rattle.block.proofs.Walk.{accepted-header}
use Rattle.block.proofs.Answers.{fetch-accepted, fetch-beyond, fetches-unique}
use Rattle.block.proofs.Blocks.{block-count, held-record, holds-accepted}
use Rattle.block.proofs.Demands.{checked-block}
use Rattle.reader.specs.declared.Found.{Found}
use Rattle.reader.specs.declared.Opened.{Opened}
use Rattle.reader.specs.declared.Reader.{Reader}
use Rattle.reader.specs.declared.Stepped.{Stepped}
use Rattle.reader.specs.Steps.{over_at, found_at, step_at, Steps}
use Rattle.reader.specs.Runs.{OpensReader, StepsReader, Ran, none, more, record_next, over_next, fetch_of}
use Rattle.reader.proofs.Walked.{step-over, step-found, steps-unique, opens-checks, opens-unique, opens-begins, opens-refused, refused-ends}

pub open-unique : (s : Bor (List ℕ)) (o o' : Opened) → OpensReader s o → OpensReader s o' → o ≡ o'
open-unique s o o' p q =
    let (c, n) = opens-unique s.now o.checked o'.checked o.reader.place o'.reader.place p.0 q.0 in
    λ i. record { checked = c i; reader = record { slice = (p.1 ∙ sym q.1) i; place = n i } }

pub step-unique : (r : Reader) (q q' : Stepped) → StepsReader r q → StepsReader r q' → q ≡ q'
step-unique r q q' p t =
    let (f, n) = steps-unique p.0 t.0 in
    λ i. record { next = f i; reader = record { slice = (p.1 ∙ sym t.1) i; place = n i } }

-- a reader holds the slice that it was opened over
run-slice : (s : Bor (List ℕ)) (o : Opened) → OpensReader s o → (k : ℕ) (r : Reader) → Ran o k r → r.slice ≡ s
run-slice s o p zero r none = p.1
run-slice s o p (suc k) r (more {r = r'} ran q t) = t.1 ∙ run-slice s o p k r' ran

-- what a step promises, over those bytes
step_of : (s : Bor (List ℕ)) (r : Reader) (q : Stepped) → r.slice ≡ s → StepsReader r q → Steps s.now r.place q.next q.reader.place
step_of s r q e t = subst (λ (x : Bor (List ℕ)). Steps x.now r.place q.next q.reader.place) e t.0

-- ---- a block that is accepted, of n records
-- behind k steps a reader stands at record k, or behind the last one
record Stands (n k p : ℕ) : Type 0 where
  before : k ≤ n → p ≡ place k
  behind : n ≤ k → p ≡ place n

module _ (l : List ℕ) (a : Accepted (block_codes l)) where
  size : length l ≡ 9 + 80 * count_of l
  size = header-size l (accepted-header l a)

  finds : (k p : ℕ) → Stands (count_of l) k p → k < count_of l → step_at l p ≡ found_at l (place k)
  finds k p h i = ap (step_at l) (h.before (N.le_of_lt i)) ∙ step-found l (place k) (omega (arith, size))

  ends : (k p : ℕ) → Stands (count_of l) k p → count_of l ≤ k → step_at l p ≡ over_at (place (count_of l))
  ends k p h i = ap (step_at l) (h.behind i) ∙ step-over l (place (count_of l)) (omega (arith, size))

  stands-more : (k p : ℕ) (n : Option Record) (p' : ℕ) → Stands (count_of l) k p → Steps l p n p' → Stands (count_of l) (suc k) p'
  stands-more k p n p' h t = go (dec_le (suc k) (count_of l))
    where
      go : Dec (k < count_of l) → Stands (count_of l) (suc k) p'
      go (yes i) =
          let e : p' ≡ place k + 80 = t.moved ∙ ap (λ (f : Found). f.at) (finds k p h i) in
          record { before = λ j. omega arith; behind = λ j. omega arith }
      go (no i) =
          let e : p' ≡ place (count_of l) = t.moved ∙ ap (λ (f : Found). f.at) (ends k p h (omega arith)) in
          record { before = λ j. absurd (omega arith); behind = λ j. e }

  step_gives : (k p : ℕ) (n : Option Record) (p' : ℕ) → Stands (count_of l) k p → Steps l p n p' → (f : Fetched) → Fetches l k f → f ≡ fetch_of n
  step_gives k p n p' h t f g = go (dec_le (suc k) (count_of l))
    where
      go : Dec (k < count_of l) → f ≡ fetch_of n
      go (yes i) =
          fetches-unique l k f (fetched 0 0 (record_at l k)) g (inr (record { accepted = fetch-accepted l k a i; answer = refl }))
          ∙ ap fetch_of (sym (t.found ∙ ap (λ (f : Found). f.next) (finds k p h i)))
      go (no i) =
          fetches-unique l k f (fetched 12 0 blank) g (inl (record { refused = fetch-beyond l k a (omega arith); no_record = refl }))
          ∙ ap fetch_of (sym (t.found ∙ ap (λ (f : Found). f.next) (ends k p h (omega arith))))

module _ (s : Bor (List ℕ)) (o : Opened) (p : OpensReader s o) where
  run-stands : Accepted (block_codes s.now) → o.checked.code ≡ 0 → (k : ℕ) (r : Reader) → Ran o k r → Stands (count_of s.now) k r.place
  run-stands a e zero r none =
      let b : o.reader.place ≡ place 0 = (opens-begins s.now o.checked o.reader.place p.0 e).first in
      record { before = λ i. b; behind = λ i. omega arith }
  run-stands a e (suc k) r (more {r = r'} ran q t) =
      stands-more s.now a k r'.place q.next q.reader.place (run-stands a e k r' ran)
      (step_of s r' q (run-slice s o p k r' ran) t)

  pub run-fetches : o.checked.code ≡ 0
      → (k : ℕ) (r : Reader)
      → Ran o k r
      → (q : Stepped)
      → StepsReader r q
      → (f : Fetched)
      → Fetches s.now k f
      → f ≡ fetch_of q.next
  run-fetches e k r ran q t f g =
      let a = (opens-begins s.now o.checked o.reader.place p.0 e).counted.accepted in
      step_gives s.now a k r.place q.next q.reader.place (run-stands a e k r ran) (step_of s r q (run-slice s o p k r ran) t) f g

  -- ---- over the block of the records rs
  module _ {v : ℕ} {rs : List Record} (h : Holds v s.now rs) (k : ℕ) (r : Reader) (ran : Ran o k r) (q : Stepped) (t : StepsReader r q) where
    stood : Stands (count_of s.now) k r.place
    stood = run-stands (holds-accepted h) (ap (λ (c : Checked). c.code) (checked-block h o.checked (opens-checks s.now o.checked o.reader.place p.0))) k r ran

    given : Steps s.now r.place q.next q.reader.place
    given = step_of s r q (run-slice s o p k r ran) t

    pub run-records : k < length rs → q.next ≡ record_next (record_of rs k)
    run-records i =
        given.found ∙ ap (λ (f : Found). f.next) (finds s.now (holds-accepted h) k r.place stood (rw (block-count h) i))
        ∙ ap record_next (held-record h k i)

    pub run_ends : length rs ≤ k → q.next ≡ over_next
    run_ends i = given.found ∙ ap (λ (f : Found). f.next) (ends s.now (holds-accepted h) k r.place stood (rw (block-count h) i))

  -- ---- over bytes that are refused
  refused-stands : ¬ (o.checked.code ≡ 0) → (k : ℕ) (r : Reader) → Ran o k r → r.place ≡ o.reader.place
  refused-stands e zero r none = refl
  refused-stands e (suc k) r (more {r = r'} ran q t) =
      let i = refused-stands e k r' ran in
      (step_of s r' q (run-slice s o p k r' ran) t).moved ∙ ap (λ (n : ℕ). (step_at s.now n).at) i
      ∙ ap (λ (f : Found). f.at) (refused-ends s.now o.checked o.reader.place (opens-refused s.now o.checked o.reader.place p.0 e))

  pub run-refused : ¬ (o.checked.code ≡ 0) → (k : ℕ) (r : Reader) → Ran o k r → (q : Stepped) → StepsReader r q → q.next ≡ over_next
  run-refused e k r ran q t =
      (step_of s r q (run-slice s o p k r ran) t).found ∙ ap (λ (n : ℕ). (step_at s.now n).next) (refused-stands e k r ran)
      ∙ ap (λ (f : Found). f.next) (refused-ends s.now o.checked o.reader.place (opens-refused s.now o.checked o.reader.place p.0 e))
