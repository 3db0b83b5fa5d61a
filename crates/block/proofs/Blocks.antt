-- A block's bytes: what is written is read, and what is read is what was written.
--   records-more, records-length, block-length, block-count, block-version : how long a block is, its count and its version
--   before, parted, before-length : a block, parted at record k
--   held-record    : the record k that is read from a block is its record k
--   stored-record  : also without a check
--   holds-accepted : a block has no fault
--   form-formed    : the records of bytes without a fault, signs aside, are well-formed
--   accepted-holds : bytes without a fault are the block of the records that are read from them
--   one-version, one-reading : two lists of records with the same bytes are the same list, in the same version
-- Each once, over the version.
-- Assumes nothing.
use mathlib.Core.Path.{◌≡◌, refl, sym, ap, ap₂, ◌∙◌, subst}
use mathlib.Core.List.{List, [], ◌∷◌, ◌++◌, append_assoc}
use mathlib.Core.Logic.{◌⊎◌, inl, inr}
use Prim.Native.Nat.{ℕ, zero, suc, ◌+◌, ◌*◌, ◌^◌, ◌≤◌, ◌<◌}
use native.Mathlib.Nat as N
use native.Mathlib.Omega.{arith}
use lib.Dec.{lit<}
use lib.ListN.{length, take, drop, length-append, length-drop, take-append-drop}
use lib.Seq.{split_at, get_or-take, ext_get_or, take-add, length-take-le, take_all}
use Rattle.element.specs.Refusals.{Accepted}
use Rattle.endian.specs.Numbers.{Bytes, bytes, number, part}
use Rattle.endian.proofs.Numbers.{number-bytes, bytes-number}
use Rattle.endian.proofs.Places.{length_part, bytes-part}
use Rattle.record.specs.declared.Record.{Record}
use Rattle.record.specs.Record.{WellFormed, record_bytes, blank}
use Rattle.record.specs.Faults.{record_codes}
use Rattle.record.proofs.Order.{passed-above}
use Rattle.record.proofs.Codec.{part-more, record-length, read-written, written_read, stored-formed, formed-stored}
use Rattle.signs.specs.Signs.{Differs}
use Rattle.block.specs.Block.{Version, header, records_bytes, block_bytes, record_of, Holds, version_of, count_of, place, record_at, records_from, records_in}
use Rattle.block.specs.Faults.{header_codes, lowest, codes_at, form_codes, block_codes}
use Rattle.block.specs.Calls.{stored_record}
use Rattle.block.proofs.Header.{not-other, header-marked, header-long, header-version, header-few, header-size}
use Rattle.block.proofs.Answers.{stored-within}
use Rattle.block.proofs.Walk.{walk-accepted, form-header, form-at, signs-accepted, accepted-form, accepted-header, accepted-at, accepted-kept}

-- ---- written
pub records-more : (rs qs : List Record) → records_bytes (rs ++ qs) ≡ records_bytes rs ++ records_bytes qs
records-more [] qs = refl
records-more (r ∷ rs) qs =
    ap (λ (s : List ℕ). record_bytes r ++ s) (records-more rs qs) ∙ sym (append_assoc (record_bytes r) (records_bytes rs) (records_bytes qs))

abbrev pub Formed : ℕ → List Record → Type 0
Formed v rs = (k : ℕ) → k < length rs → WellFormed v (record_of rs k)

pub records-length : {v : ℕ} (rs : List Record) → Formed v rs → length (records_bytes rs) ≡ 80 * length rs
records-length [] f = refl
records-length (r ∷ rs) f =
    length-append (record_bytes r) (records_bytes rs)
    ∙ omega (arith, record-length r (f 0 (omega arith)), records-length rs (λ k h. f (suc k) (omega arith)))

pub block-length : {v : ℕ} {l : List ℕ} {rs : List Record} → Holds v l rs → length l ≡ 9 + 80 * length rs
block-length {v} {l} {rs} h = ap length h.written ∙ omega (arith, records-length rs h.formed)

count-written : (v : ℕ) (rs : List Record) → length rs ≤ 800 → count_of (block_bytes v rs) ≡ length rs
count-written v rs h = number-bytes 4 (length rs) (N.lt_of_le_of_lt h (lit< tt))

pub block-count : {v : ℕ} {l : List ℕ} {rs : List Record} → Holds v l rs → count_of l ≡ length rs
block-count {v} {l} {rs} h = ap count_of h.written ∙ count-written v rs h.few

pub block-version : {v : ℕ} {l : List ℕ} {rs : List Record} → Holds v l rs → version_of l ≡ v
block-version {v} {l} {rs} h = ap version_of h.written ∙ number-bytes 2 v (small h.version)
  where
    small : Version v → v < 256 ^ 2
    small (inl e) = rw e (lit< tt)
    small (inr e) = rw e (lit< tt)

-- a block, parted at record k
abbrev pub before : ℕ → List Record → ℕ → List ℕ
before v rs k = header v (length rs) ++ records_bytes (take k rs)

pub parted : (v : ℕ) (rs : List Record) (k : ℕ) → k < length rs
    → block_bytes v rs ≡ before v rs k ++ (record_bytes (record_of rs k) ++ records_bytes (drop (suc k) rs))
parted v rs k h =
    ap (λ (s : List ℕ). header v (length rs) ++ s)
    (ap records_bytes (split_at rs k blank h) ∙ records-more (take k rs) (record_of rs k ∷ drop (suc k) rs))
    ∙ sym (append_assoc (header v (length rs)) (records_bytes (take k rs)) (record_bytes (record_of rs k) ++ records_bytes (drop (suc k) rs)))

pub before-length : (v : ℕ) (rs : List Record) (k : ℕ) → Formed v rs → k < length rs → length (before v rs k) ≡ place k
before-length v rs k f h =
    let n = length-take-le k rs (omega arith) in
    omega (arith, n, records-length (take k rs) (λ j i. subst (WellFormed v) (sym (get_or-take k rs j blank (omega arith))) (f j (omega arith))))

pub held-record : {v : ℕ} {l : List ℕ} {rs : List Record} → Holds v l rs → (k : ℕ) → k < length rs → record_at l k ≡ record_of rs k
held-record {v} {l} {rs} h k i =
    ap (λ (s : List ℕ). record_at s k) (h.written ∙ parted v rs k i)
    ∙ read-written (before v rs k) (record_of rs k) (records_bytes (drop (suc k) rs)) (place k) (h.formed k i) (before-length v rs k h.formed i)

pub stored-record : {v : ℕ} {l : List ℕ} {rs : List Record} → Holds v l rs → (k : ℕ) → k < length rs → stored_record l k ≡ record_of rs k
stored-record {l = l} h k i = stored-within l k (omega (arith, block-length h)) ∙ held-record h k i

-- ---- a block has no fault
header-accepted : {v : ℕ} {l : List ℕ} {rs : List Record} → Holds v l rs → Accepted (header_codes l)
header-accepted {v} {l} {rs} h = (block, (not-other l (rw (block-version h) h.version), (size, tt)))
  where
    block : (length l < 9) ⊎ ¬ (take 3 l ≡ 67 ∷ 69 ∷ 76 ∷ []) → ⊥
    block (inl i) = absurd (omega (arith, i, block-length h))
    block (inr f) = f (ap (take 3) h.written)

    size : (800 < count_of l) ⊎ ¬ (length l ≡ 9 + 80 * count_of l) → ⊥
    size (inl i) = absurd (omega (arith, i, block-count h, h.few))
    size (inr f) = f (block-length h ∙ ap (λ (n : ℕ). 9 + 80 * n) (sym (block-count h)))

lowest-held : {v : ℕ} {l : List ℕ} {rs : List Record} → Holds v l rs → (k : ℕ) → k < length rs → lowest l k ≤ (record_of rs k).id
lowest-held h zero i = omega arith
lowest-held {l = l} {rs = rs} h (suc k) i =
    subst (λ (r : Record). suc r.id ≤ (record_of rs (suc k)).id) (sym (held-record h k (omega arith))) (h.rise k i)

pub holds-accepted : {v : ℕ} {l : List ℕ} {rs : List Record} → Holds v l rs → Accepted (block_codes l)
holds-accepted {v} {l} {rs} h =
    signs-accepted l (walk-accepted l (header-accepted h) (record { all = λ k i. at k (rw (block-count h) at i) }))
    (record { all = λ k i. let j = rw (block-count h) at i in (subst (λ (r : Record). ¬ Differs r) (sym (held-record h k j)) (h.kept k j), tt) })
  where
    at : (k : ℕ) → k < length rs → Accepted (codes_at l k)
    at k i =
        subst (λ (w : ℕ). Accepted (record_codes w l (place k) (lowest l k))) (sym (block-version h))
        (formed-stored v l (place k) (lowest l k) (record_of rs k) (h.formed k i) (held-record h k i) (lowest-held h k i))

-- ---- read: n records from record k on
from-length : (n k : ℕ) (l : List ℕ) → length (records_from n k l) ≡ n
from-length zero k l = refl
from-length (suc n) k l = ap suc (from-length n (suc k) l)

from_at : (n k i : ℕ) (l : List ℕ) → i < n → record_of (records_from n k l) i ≡ record_at l (k + i)
from_at zero k i l h = absurd (N.not-suc-le-zero h)
from_at (suc n) k zero l h = ap (record_at l) (let e : k ≡ k + 0 = omega arith in e)
from_at (suc n) k (suc i) l h = from_at n (suc k) i l (N.le_of_suc-le-suc h) ∙ ap (record_at l) (let e : suc k + i ≡ k + suc i = omega arith in e)

in-at : (l : List ℕ) (k : ℕ) → k < count_of l → record_of (records_from (count_of l) 0 l) k ≡ record_at l k
in-at l k h = from_at (count_of l) 0 k l h ∙ ap (record_at l) (let e : 0 + k ≡ k = omega arith in e)

from_bytes : (n k : ℕ) (l : List ℕ) → Bytes l → place (k + n) ≤ length l
    → records_bytes (records_from n k l) ≡ part (place k) (80 * n) l
from_bytes zero k l p h = sym (none (drop (place k) l))
  where
    none : (d : List ℕ) → take 0 d ≡ []
    none [] = refl
    none (b ∷ d) = refl
from_bytes (suc n) k l p h =
    ap₂ (λ (s t : List ℕ). s ++ t) (written_read l (place k) p (omega arith))
    (from_bytes n (suc k) l p (omega arith)
    ∙ ap (λ (i : ℕ). part i (80 * n) l) (let e : place (suc k) ≡ place k + 80 = omega arith in e))
    ∙ sym (part-more (place k) 80 (80 * n) l)
    ∙ ap (λ (i : ℕ). part (place k) i l) (let e : 80 + 80 * n ≡ 80 * suc n = omega arith in e)

pub form-formed : (l : List ℕ) → Bytes l → Accepted (form_codes l) → (k : ℕ) → k < count_of l → WellFormed (version_of l) (record_at l k)
form-formed l p a k h =
    stored-formed (version_of l) l (place k) (lowest l k) p (omega (arith, header-size l (form-header l a))) (form-at l a k h)

-- the header, written again
header_read : (l : List ℕ) → Bytes l → Accepted (header_codes l) → header (version_of l) (count_of l) ≡ take 9 l
header_read l p a =
    ap₂ (λ (s t : List ℕ). s ++ t) (sym (header-marked l a))
    (ap₂ (λ (s t : List ℕ). s ++ t) (again 3 2 (omega (arith, header-long l a)))
    (again 5 4 (omega (arith, header-long l a)))
    ∙ sym (part-more 3 2 4 l))
    ∙ sym (take-add 3 6 l)
  where
    again : (at n : ℕ) → at + n ≤ length l → bytes n (number (part at n l)) ≡ part at n l
    again at n h = ap (λ (w : ℕ). bytes w (number (part at n l))) (sym (length_part at n l h)) ∙ bytes-number (part at n l) (bytes-part at n p)

pub accepted-holds : (l : List ℕ) → Bytes l → Accepted (block_codes l) → Holds (version_of l) l (records_in l)
accepted-holds l p a =
    let b = accepted-header l a in
    let n = from-length (count_of l) 0 l in
    let long = header-size l b in
    record {
      version = header-version l b;
      written = sym (ap₂ (λ (c : ℕ) (s : List ℕ). header (version_of l) c ++ s) n
          (from_bytes (count_of l) 0 l p (omega arith))
          ∙ ap₂ (λ (s t : List ℕ). s ++ t) (header_read l p b) (take_all (80 * count_of l) (drop 9 l) (simp length-drop (omega arith)))
          ∙ take-append-drop 9 l);
      few = rw n (header-few l b);
      formed = λ k i. let j = rw n at i in
          subst (WellFormed (version_of l)) (sym (in-at l k j)) (form-formed l p (accepted-form l a) k j);
      rise = λ k i. let j = rw n at i in
          let m = passed-above (version_of l) l (place (suc k)) (lowest l (suc k)) (accepted-at l a (suc k) j) in
          rw (in-at l k (omega arith), in-at l (suc k) j) (N.le_of_suc-le-suc (N.lt_of_not-le m));
      kept = λ k i. let j = rw n at i in subst (λ (r : Record). ¬ Differs r) (sym (in-at l k j)) (accepted-kept l a k j);
    }

-- ---- one reading
pub one-version : {v w : ℕ} {l : List ℕ} {rs qs : List Record} → Holds v l rs → Holds w l qs → v ≡ w
one-version h g = sym (block-version h) ∙ block-version g

pub one-reading : {v w : ℕ} {l : List ℕ} {rs qs : List Record} → Holds v l rs → Holds w l qs → rs ≡ qs
one-reading {rs = rs} {qs = qs} h g =
    let n : length rs ≡ length qs = sym (block-count h) ∙ block-count g in
    ext_get_or blank rs qs n (λ k i. sym (held-record h k i) ∙ held-record g k (rw n at i))
