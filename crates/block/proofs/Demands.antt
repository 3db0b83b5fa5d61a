-- What the calls answer over a block, and wrong programs that their contracts shut out.
--   checked-block   : a block is accepted, with the count of its records: a check that refuses everything is shut out
--   checked-only    : and bytes that are accepted are a block
--   count-beyond    : a count above 800 is code 8, however long the bytes are: a product that wraps is shut out
--   collapsed-record : the first record with a fault that has two corners at one place, and none that counts before that, is named with 21,
--                     whatever its id and its sign and whatever stands behind it
--   checked-apart   : in a block that is accepted the corners of every record differ
--   fetched-record, fetched-none : record k of a block, and none where k is not below the count
--   fetched-zero    : a fetch from a block of version 1 answers 0 and 0 for the two bytes
--   fetched-rises   : two records differ: a fetch that gives record 0 each time is shut out
-- Assumes nothing.
use mathlib.Core.Path.{◌≡◌, refl, sym, ap, ◌∙◌}
use mathlib.Core.List.{List}
use mathlib.Core.Logic.{inl, inr}
use Prim.Native.Nat.{ℕ, zero, suc, ◌≤◌, ◌<◌}
use native.Mathlib.Nat as N
use native.Mathlib.Omega.{arith}
use native.Mathlib.Decide.{dec_le}
use lib.ListN.{length}
use Rattle.element.specs.Kinds.{NotStored, kind_of}
use Rattle.element.specs.Corners.{Collapsed}
use Rattle.element.specs.Refusals.{Accepted, Outside}
use Rattle.endian.specs.Numbers.{Bytes}
use Rattle.record.specs.declared.Record.{Record}
use Rattle.record.specs.Record.{used, blank}
use Rattle.record.specs.Faults.{TooHigh, NotZero}
use Rattle.record.proofs.Signs.{zero-signs}
use Rattle.record.proofs.Order.{corners-first, passed_apart}
use Rattle.block.specs.declared.Checked.{Checked}
use Rattle.block.specs.declared.Fetched.{Fetched}
use Rattle.block.specs.Block.{record_of, Holds, version_of, count_of, place, record_at, records_in}
use Rattle.block.specs.Faults.{NotBlock, OtherVersion, header_codes, lowest, codes_at}
use Rattle.block.specs.Calls.{Checks, fetched, Fetches}
use Rattle.block.proofs.Walk.{Passed, header_refused, form-refused, walk_refused, accepted-at}
use Rattle.block.proofs.Answers.{checks-unique, checks-counted, fetch-beyond, fetch-accepted, fetches-unique}
use Rattle.block.proofs.Blocks.{block-count, held-record, holds-accepted, accepted-holds}

pub checked-only : (l : List ℕ) (r : Checked) → Bytes l → Checks l r → r.code ≡ 0 → Holds (version_of l) l (records_in l)
checked-only l r p c e = accepted-holds l p (checks-counted l r c e).accepted

pub count-beyond : (l : List ℕ) (r : Checked) → ¬ NotBlock l
    → ¬ OtherVersion 1 2 l
    → 800 < count_of l
    → Checks l r
    → r ≡ record { code = 8; number = 0; count = 0 }
count-beyond l r a b h c =
    checks-unique l r (record { code = 8; number = 0; count = 0 }) c
    (inl (record { refused = form-refused l (record { code = 8; number = 0 }) (header_refused l 8 (inr (a, inr (b, inl (inl h, refl))))); no_count = refl }))

-- ---- corners at one place (02, Ask 9: "a block that holds one is refused at that record")
module _ (l : List ℕ) (r : Checked) (c : Checks l r) (k : ℕ) (i : k < count_of l) where
  abbrev here : Record
  here = record_at l k

  pub collapsed-record : Accepted (header_codes l) → Passed (codes_at l) k
      → ¬ NotStored here.kind
      → ¬ TooHigh (version_of l) here
      → ¬ NotZero (version_of l) here
      → ¬ Outside (kind_of here.kind) (used here)
      → Collapsed (kind_of here.kind) (used here)
      → r ≡ record { code = 21; number = k; count = 0 }
  collapsed-record a p d e f g h =
      checks-unique l r (record { code = 21; number = k; count = 0 }) c
      (inl (record {
        refused = form-refused l (record { code = 21; number = k })
            (walk_refused l k 21 a i p (corners-first (version_of l) l (place k) (lowest l k) d e f g h));
        no_count = refl;
      }))

  pub checked-apart : r.code ≡ 0 → ¬ Collapsed (kind_of here.kind) (used here)
  checked-apart e = passed_apart (version_of l) l (place k) (lowest l k) (accepted-at l (checks-counted l r c e).accepted k i)

module _ {v : ℕ} {l : List ℕ} {rs : List Record} (h : Holds v l rs) where
  pub checked-block : (r : Checked) → Checks l r → r ≡ record { code = 0; number = 0; count = length rs }
  checked-block r c =
      checks-unique l r (record { code = 0; number = 0; count = length rs }) c
      (inr (record { accepted = holds-accepted h; answer = ap (λ (n : ℕ). record { code = 0; number = 0; count = n }) (sym (block-count h)) }))

  pub fetched-record : (k : ℕ) → k < length rs → (r : Fetched) → Fetches l k r → r ≡ fetched 0 0 (record_of rs k)
  fetched-record k i r f =
      fetches-unique l k r (fetched 0 0 (record_of rs k)) f
      (inr (record {
        accepted = fetch-accepted l k (holds-accepted h) (rw (block-count h) i);
        answer = ap (λ (q : Record). fetched 0 0 q) (sym (held-record h k i));
      }))

  pub fetched-none : (k : ℕ) → length rs ≤ k → (r : Fetched) → Fetches l k r → r ≡ fetched 12 0 blank
  fetched-none k i r f =
      fetches-unique l k r (fetched 12 0 blank) f
      (inl (record { refused = fetch-beyond l k (holds-accepted h) (rw (block-count h) i); no_record = refl }))

  rise-all : (j k : ℕ) → j < k → k < length rs → (record_of rs j).id < (record_of rs k).id
  rise-all j zero q i = absurd (N.not-suc-le-zero q)
  rise-all j (suc k) q i = go (dec_le (suc j) k) (λ p. rise-all j k p (omega arith))
    where
      go : Dec (j < k) → (j < k → (record_of rs j).id < (record_of rs k).id) → (record_of rs j).id < (record_of rs (suc k)).id
      go (yes p) f = N.lt_trans (f p) (h.rise k i)
      go (no p) f = rw (let e : j ≡ k = omega arith in e) (h.rise k i)

  pub fetched-rises : (j k : ℕ) → j < k → k < length rs → (r s : Fetched) → Fetches l j r → Fetches l k s → r.id < s.id
  fetched-rises j k q i r s f g = rw (fetched-record j (N.lt_trans q i) r f, fetched-record k i s g) (rise-all j k q i)

pub fetched-zero : {l : List ℕ} {rs : List Record} → Holds 1 l rs → (k : ℕ) (r : Fetched) → Fetches l k r → (r.signed ≡ 0) × (r.level ≡ 0)
fetched-zero {rs = rs} h k r f = go (dec_le (suc k) (length rs))
  where
    go : Dec (k < length rs) → (r.signed ≡ 0) × (r.level ≡ 0)
    go (yes i) =
        let e = fetched-record h k i r f in
        let z = zero-signs (record_of rs k).signed (record_of rs k).level (h.formed k i).sign_known in
        (ap (λ (q : Fetched). q.signed) e ∙ z.0, ap (λ (q : Fetched). q.level) e ∙ z.1)
    go (no i) =
        let e = fetched-none h k (N.le_of_suc-le-suc (N.lt_of_not-le i)) r f in
        (ap (λ (q : Fetched). q.signed) e, ap (λ (q : Fetched). q.level) e)
