-- What the contracts of `check_block` and `fetch_record` come to: one outcome each.
--   by-none, by-counted, by-unique : the answer of a check with any order of codes
--   told         : the fault that a check's refusal names
--   err-refused, refused-err, ok-counted, counted-ok : the result of a check, refused or with a count
--   checks-none, checks-refused, checks-counted : the answer of `check_block`, by its code
--   checks-unique  : it is determined by the bytes
--   fetch-block, fetch-beyond, fetch-accepted, accepted-block, fetch-some : the order of `fetch_record`
--   fetches-refused, fetches-none, fetches-is : the answer of a fetch, by its code
--   fetches-told   : a fetch that answers the refusal of a fault
--   fetches-unique : so is that of `fetch_record`
--   stored-within  : the record k of bytes that are long enough
-- Assumes nothing.
use Rattle.std.proofs.Common.{Ok, Err}
use mathlib.Core.Path.{◌≡◌, refl, sym, ap, ◌∙◌, subst}
use mathlib.Core.List.{List}
use mathlib.Core.Logic.{inl, inr, ⊎_elim}
use mathlib.Core.Bool.{false}
use Prim.Native.Nat.{ℕ, ◌+◌, ◌≤◌, ◌<◌}
use native.Mathlib.Nat as N
use borrow.Author.Tests.{le-ltb}
use lib.Dec.{ltb}
use lib.ListN.{length}
use Rattle.element.specs.Refusals.{Codes, Refused, Accepted}
use Rattle.element.proofs.Refusals.{refused-unique, refused-accepted, refused-some, refused-then, past-then, accepted-then, then-accepted, then-refused}
use Rattle.faults.specs.Refusal.{number_of}
use Rattle.record.specs.Record.{blank}
use Rattle.faults.proofs.Refusals.{number-some}
use Rattle.block.specs.declared.Checked.{Checked}
use Rattle.block.specs.declared.Fetched.{Fetched}
use Rattle.block.specs.declared.Refused as answer
use Rattle.block.specs.Block.{count_of, place, record_at}
use Rattle.block.specs.Faults.{Fault, naming, block_codes, beyond_codes, fetch_codes}
use Rattle.block.specs.Calls.{as_checked, as_fetched, NoCount, Counted, ChecksBy, Checks, fetched, IsRecord, Fetches, stored_record}
use Rattle.block.proofs.Orders.{of-refused}
use Rattle.block.proofs.Walk.{block-some}

-- the answer that names a fault
abbrev refusal : Fault → Checked
refusal f = record { code = f.code; number = f.number; count = 0 }

abbrev pub told : answer.Refused → Fault
told e = record { code = number_of e.refusal; number = e.number }

-- a check with the order o, none of whose faults has the code 0
module _ (o : Codes Fault) (l : List ℕ) where
  pub by-none : (r : Checked) → ChecksBy o l r → ¬ (r.code ≡ 0) → NoCount o r
  by-none r (inl p) h = p
  by-none r (inr p) h = absurd (h (ap (λ (r : Checked). r.code) p.answer))

  pub by-counted : ((f : Fault) → Refused o f → ¬ (f.code ≡ 0)) → (r : Checked) → ChecksBy o l r → r.code ≡ 0 → Counted o l r
  by-counted some r (inl p) h = absurd (some (record { code = r.code; number = r.number }) p.refused h)
  by-counted some r (inr p) h = p

  named : (r : Checked) → NoCount o r → r ≡ refusal (record { code = r.code; number = r.number })
  named r p = ap (λ (n : ℕ). record { code = r.code; number = r.number; count = n }) p.no_count

  pub by-unique : (r s : Checked) → ChecksBy o l r → ChecksBy o l s → r ≡ s
  by-unique r s (inl p) (inl q) =
      named r p
      ∙ ap refusal (refused-unique o (record { code = r.code; number = r.number }) (record { code = s.code; number = s.number })
      p.refused q.refused)
      ∙ sym (named s q)
  by-unique r s (inl p) (inr q) = absurd (refused-accepted o (record { code = r.code; number = r.number }) p.refused q.accepted)
  by-unique r s (inr p) (inl q) = absurd (refused-accepted o (record { code = s.code; number = s.number }) q.refused p.accepted)
  by-unique r s (inr p) (inr q) = p.answer ∙ sym q.answer

  -- ---- its result
  pub err-refused : (e : answer.Refused) → ChecksBy o l (as_checked (Err e)) → Refused o (told e)
  err-refused e q = (by-none (as_checked (Err e)) q (number-some e.refusal)).refused

  pub refused-err : (e : answer.Refused) → Refused o (told e) → ChecksBy o l (as_checked (Err e))
  refused-err e r = inl (record { refused = r; no_count = refl })

  pub ok-counted : ((f : Fault) → Refused o f → ¬ (f.code ≡ 0)) → (n : ℕ) → ChecksBy o l (as_checked (Ok n)) → Accepted o × (n ≡ count_of l)
  ok-counted some n q =
      let p = by-counted some (as_checked (Ok n)) q refl in
      (p.accepted, ap (λ (r : Checked). r.count) p.answer)

  pub counted-ok : (n : ℕ) → Accepted o → n ≡ count_of l → ChecksBy o l (as_checked (Ok n))
  counted-ok n a e = inr (record { accepted = a; answer = ap (λ (n : ℕ). record { code = 0; number = 0; count = n }) e })

module _ (l : List ℕ) where
  pub checks-none : (r : Checked) → Checks l r → ¬ (r.code ≡ 0) → NoCount (block_codes l) r
  checks-none = by-none (block_codes l) l

  pub checks-refused : (r : Checked) → Checks l r → ¬ (r.code ≡ 0) → Refused (block_codes l) (record { code = r.code; number = r.number })
  checks-refused r c h = (checks-none r c h).refused

  pub checks-counted : (r : Checked) → Checks l r → r.code ≡ 0 → Counted (block_codes l) l r
  checks-counted = by-counted (block_codes l) l (block-some l)

  pub checks-unique : (r s : Checked) → Checks l r → Checks l s → r ≡ s
  checks-unique = by-unique (block_codes l) l

-- ---- fetch: the block's codes, then 12
module _ (l : List ℕ) (k : ℕ) where
  pub fetch-block : (f : Fault) → Refused (block_codes l) f → Refused (fetch_codes l k) f
  fetch-block f r = refused-then (block_codes l) (naming 0 (beyond_codes l k)) f r

  pub fetch-beyond : Accepted (block_codes l) → count_of l ≤ k → Refused (fetch_codes l k) (record { code = 12; number = 0 })
  fetch-beyond a h = past-then (block_codes l) (naming 0 (beyond_codes l k)) (record { code = 12; number = 0 }) a (inl (h, refl))

  pub fetch-accepted : Accepted (block_codes l) → k < count_of l → Accepted (fetch_codes l k)
  fetch-accepted a h = accepted-then (block_codes l) (naming 0 (beyond_codes l k)) a ((λ q. N.not-le_of_lt h q), tt)

  pub accepted-block : Accepted (fetch_codes l k) → Accepted (block_codes l) × (k < count_of l)
  accepted-block a =
      let t = then-accepted (block_codes l) (naming 0 (beyond_codes l k)) a in
      (t.0, N.lt_of_not-le t.1.0)

  pub fetch-some : (f : Fault) → Refused (fetch_codes l k) f → ¬ (f.code ≡ 0)
  fetch-some f r =
      ⊎_elim (λ q. block-some l f q) (λ q. refused-some (beyond_codes l k) f.code tt (of-refused 0 (beyond_codes l k) f q)) (then-refused (block_codes l) (naming 0 (beyond_codes l k)) f r)

  pub fetches-refused : (c n : ℕ) (r : Fetched) → r ≡ fetched c n blank → Refused (fetch_codes l k) (record { code = c; number = n }) → Fetches l k r
  fetches-refused c n r e q = subst (Fetches l k) (sym e) (inl (record { refused = q; no_record = refl }))

  pub fetches-told : (e : answer.Refused) → Refused (fetch_codes l k) (told e) → Fetches l k (as_fetched (Err e))
  fetches-told e q = inl (record { refused = q; no_record = refl })

  pub fetches-none : (r : Fetched) → Fetches l k r → ¬ (r.code ≡ 0) → Refused (fetch_codes l k) (record { code = r.code; number = r.number })
  fetches-none r (inl p) h = p.refused
  fetches-none r (inr p) h = absurd (h (ap (λ (r : Fetched). r.code) p.answer))

  pub fetches-is : (r : Fetched) → Fetches l k r → r.code ≡ 0 → IsRecord l k r
  fetches-is r (inl p) h = absurd (fetch-some (record { code = r.code; number = r.number }) p.refused h)
  fetches-is r (inr p) h = p

  pub fetches-unique : (r s : Fetched) → Fetches l k r → Fetches l k s → r ≡ s
  fetches-unique r s (inl p) (inl q) =
      p.no_record
      ∙ ap (λ (f : Fault). fetched f.code f.number blank)
      (refused-unique (fetch_codes l k) (record { code = r.code; number = r.number }) (record { code = s.code; number = s.number }) p.refused
      q.refused)
      ∙ sym q.no_record
  fetches-unique r s (inl p) (inr q) = absurd (refused-accepted (fetch_codes l k) (record { code = r.code; number = r.number }) p.refused q.accepted)
  fetches-unique r s (inr p) (inl q) = absurd (refused-accepted (fetch_codes l k) (record { code = s.code; number = s.number }) q.refused p.accepted)
  fetches-unique r s (inr p) (inr q) = p.answer ∙ sym q.answer

pub stored-within : (l : List ℕ) (k : ℕ) → place k + 80 ≤ length l → stored_record l k ≡ record_at l k
stored-within l k h = let e : ltb (length l) (place k + 80) ≡ false = le-ltb (length l) (place k + 80) h in rw e refl
