-- What the calls come to over a block: there and back, a sign once and again, and what is read afterwards (02, Ask 4).
--   newer-holds, older-holds : the records of a block that is converted are the same
--   there_back, back-there   : converted and converted back, the bytes are the same; the second call is accepted
--   unsigned-converts : every block of version 2 without a signed record is converted
--   all-converts    : every block of version 1 is
--   sign-holds      : after a sign the block is a block, of the same records but one
--   sign-checks     : so it is accepted, with the same count
--   sign_reads      : record k reads as before, with the word and the level of its verdict
--   sign-others     : and every other record as before
--   sign-again      : signed again, nothing changes
--   signed-signs    : the sign of a record that is signed already is accepted, and changes nothing
-- Assumes nothing.
use mathlib.Core.Path.{◌≡◌, refl, sym, ap, ap₂, ◌∙◌, subst}
use mathlib.Core.List.{List}
use mathlib.Core.Logic.{◌⊎◌, inl, inr}
use Prim.Native.Nat.{ℕ, ◌<◌}
use native.Mathlib.Omega.{arith}
use lib.ListN.{length, set, length-set}
use Rattle.algebra.proofs.Truth.{not-not}
use Rattle.element.specs.Refusals.{Accepted}
use Rattle.endian.specs.Numbers.{Bytes}
use Rattle.judge.specs.Verdict.{Answer, Judges}
use Rattle.record.specs.declared.Record.{Record}
use Rattle.record.proofs.Signs.{zero-signs}
use Rattle.signs.specs.Signs.{element, sign_of, limit_of, Open}
use Rattle.signs.proofs.Kept.{limit-signed, signed-agrees, signed-settled}
use Rattle.block.specs.declared.Checked.{Checked}
use Rattle.block.specs.declared.Fetched.{Fetched}
use Rattle.block.specs.Block.{record_of, Holds, version_of, count_of, record_at, records_in}
use Rattle.block.specs.Faults.{each, version_codes}
use Rattle.block.specs.Calls.{Checks, fetched, Fetches}
use Rattle.block.specs.Changes.{with_version, with_sign, signed_as}
use Rattle.block.proofs.Walk.{each-passed, each-accepted, accepted-header}
use Rattle.block.proofs.Blocks.{block-count, block-version, held-record, holds-accepted, accepted-holds}
use Rattle.block.proofs.Demands.{checked-block, fetched-record}
use Rattle.block.proofs.Changes.{version-holds, version-back, replaced-this, replaced-other, sign-bytes, sign_same, replaced-holds}
use Rattle.signing.specs.declared.Changed.{Changed}
use Rattle.signing.specs.Orders.{signed_at, newer_codes, older_codes, sign_codes}
use Rattle.signing.specs.Calls.{IsConverted, Newer, Older, IsSigned, Signs}
use Rattle.signing.proofs.Orders.{of-version, version-accepted, older-accepted, older-sound, sign-accepted, sign-sound}
use Rattle.signing.proofs.Signed.{zero-open, signed-formed, signed-kept}
use Rattle.signing.proofs.Outcomes.{newer-is, older-is, accepted-success}

abbrev good : Changed
good = record { code = 0; number = 0 }

-- ---- over a block of version v
module _ {v : ℕ} {l : List ℕ} {rs : List Record} (h : Holds v l rs) where
  held-version : Accepted (version_codes v v l)
  held-version = ((accepted-header l (holds-accepted h)).0, ((λ f. other (block-version h) f), tt))
    where
      other : version_of l ≡ v → (version_of l < v) ⊎ (v < version_of l) → ⊥
      other e (inl q) = absurd (omega arith)
      other e (inr q) = absurd (omega arith)

  abbrev Unsigned : Type 0
  Unsigned = (k : ℕ) → k < length rs → (record_of rs k).signed ≡ 0

  unsigned-accepted : Unsigned → Accepted (each (signed_at l) (count_of l) 0)
  unsigned-accepted u =
      each-passed (signed_at l) (count_of l) 0
      (record {
        all = λ k i. let j : k < length rs = rw (← (block-count h)) (let j : k < count_of l = omega arith in j) in
            ((λ f. f (ap (λ (r : Record). r.signed) (held-record h k j) ∙ u k j)), tt);
      })

  accepted-unsigned : Accepted (each (signed_at l) (count_of l) 0) → Unsigned
  accepted-unsigned a k i =
      let t = each-accepted (signed_at l) (count_of l) 0 k (omega arith) (omega (arith, block-count h)) a in
      sym (ap (λ (r : Record). r.signed) (held-record h k i)) ∙ not-not (record_at l k).signed 0 t.0

one-unsigned : {l : List ℕ} {rs : List Record} → Holds 1 l rs → (k : ℕ) → k < length rs → (record_of rs k).signed ≡ 0
one-unsigned {rs = rs} h k i = (zero-signs (record_of rs k).signed (record_of rs k).level (h.formed k i).sign_known).0

-- ---- what is converted
-- "All of version 1 converts to version 2"
pub all-converts : {l : List ℕ} {rs : List Record} → Holds 1 l rs → (r : Changed) (a : List ℕ) → Newer l r a → (r ≡ good) × (a ≡ with_version l 2)
all-converts {l} h r a n =
    let d = accepted-success (newer_codes l) l (IsConverted (newer_codes l) 2 l) (of-version 1 l (held-version h) (holds-accepted h)) r a n in
    (d.answer, d.written)

pub unsigned-converts : {l : List ℕ} {rs : List Record} → Holds 2 l rs → ((k : ℕ) → k < length rs → (record_of rs k).signed ≡ 0)
    → (r : Changed) (a : List ℕ)
    → Older l r a
    → (r ≡ good) × (a ≡ with_version l 1)
unsigned-converts {l} h u r a o =
    let t = older-accepted l (of-version 2 l (held-version h) (holds-accepted h)) (unsigned-accepted h u) in
    let d = accepted-success (older_codes l) l (IsConverted (older_codes l) 1 l) t r a o in
    (d.answer, d.written)

-- ---- there and back
module _ {l : List ℕ} {r : Changed} {a : List ℕ} (p : Bytes l) where
  newer-of : IsConverted (newer_codes l) 2 l r a → Holds 1 l (records_in l)
  newer-of c =
      let t = version-accepted 1 l c.accepted in
      subst (λ (v : ℕ). Holds v l (records_in l)) t.0 (accepted-holds l p t.1)

  older-of : IsConverted (older_codes l) 1 l r a → Holds 2 l (records_in l)
  older-of c =
      let t = older-sound l c.accepted in
      subst (λ (v : ℕ). Holds v l (records_in l)) t.0 (accepted-holds l p t.1)

  pub newer-holds : IsConverted (newer_codes l) 2 l r a → Holds 2 a (records_in l)
  newer-holds c =
      let h = newer-of c in
      subst (λ (s : List ℕ). Holds 2 s (records_in l)) (sym c.written) (version-holds h 2 (inr refl) (one-unsigned h))

  pub older-holds : IsConverted (older_codes l) 1 l r a → Holds 1 a (records_in l)
  older-holds c =
      let h = older-of c in
      subst (λ (s : List ℕ). Holds 1 s (records_in l)) (sym c.written)
      (version-holds h 1 (inl refl) (accepted-unsigned h (older-sound l c.accepted).2))

  -- "and back, the same bytes returning"
  pub there_back : Newer l r a → r.code ≡ 0 → (s : Changed) (b : List ℕ) → Older a s b → (s ≡ record { code = 0; number = 0 }) × (b ≡ l)
  there_back n e s b o =
      let c = newer-is l r a n e in
      let d = unsigned-converts (newer-holds c) (one-unsigned (newer-of c)) s b o in
      (d.0, d.1 ∙ ap (λ (x : List ℕ). with_version x 1) c.written ∙ version-back (newer-of c) 2)

  pub back-there : Older l r a → r.code ≡ 0 → (s : Changed) (b : List ℕ) → Newer a s b → (s ≡ record { code = 0; number = 0 }) × (b ≡ l)
  back-there n e s b o =
      let c = older-is l r a n e in
      let d = all-converts (older-holds c) s b o in
      (d.0, d.1 ∙ ap (λ (x : List ℕ). with_version x 2) c.written ∙ version-back (older-of c) 1)

-- ---- a record that is signed already
module _ {l : List ℕ} {rs : List Record} (h : Holds 2 l rs) (k : ℕ) (i : k < length rs) (s : ¬ ((record_of rs k).signed ≡ 0)) where
  abbrev this : Record
  this = record_of rs k

  at_level : (a : Answer) → Judges (element (record_at l k)) (limit_of (record_at l k)) a → Judges (element this) this.level a
  at_level a j =
      subst (λ (n : ℕ). Judges (element this) n a) (limit-signed this s)
      (subst (λ (x : Record). Judges (element x) (limit_of x) a) (held-record h k i) j)

  decided : ¬ Open (record_at l k)
  decided o = signed-settled this s (h.kept k i) o.verdict (at_level o.verdict o.judged) o.undecides

  -- "one signed already at its signed level, so nothing changes"
  pub signed-signs : (r : Changed) (a : List ℕ) → Signs l k r a → (r ≡ record { code = 0; number = 0 }) × (a ≡ l)
  signed-signs r a c =
      let t = sign-accepted l k (of-version 2 l (held-version h) (holds-accepted h)) (rw (block-count h) i) decided in
      let d = accepted-success (sign_codes l k) l (IsSigned l k) t r a c in
      let g = signed-agrees this s (h.kept k i) d.verdict (at_level d.verdict d.judged) in
      (d.answer, d.written ∙ ap₂ (λ (x y : ℕ). with_sign l k x y) g.word g.level ∙ sign_same h k i)

-- ---- a sign
module _ {l : List ℕ} {k : ℕ} {r : Changed} {a : List ℕ} (p : Bytes l) (q : IsSigned l k r a) where
  abbrev old : List Record
  old = records_in l

  abbrev new : Record
  new = signed_as (record_of old k) (sign_of q.verdict.word) q.verdict.level

  before-sign : Holds 2 l old
  before-sign =
      let t = sign-sound l k q.accepted in
      subst (λ (v : ℕ). Holds v l old) t.0 (accepted-holds l p t.1)

  below : k < length old
  below = rw (← (block-count before-sign)) (sign-sound l k q.accepted).2

  judged : Judges (element (record_of old k)) (limit_of (record_of old k)) q.verdict
  judged = subst (λ (x : Record). Judges (element x) (limit_of x) q.verdict) (held-record before-sign k below) q.judged

  pub sign-settles : ¬ (sign_of q.verdict.word ≡ 0)
  sign-settles e =
      (sign-sound l k q.accepted).3 (record { verdict = q.verdict; judged = q.judged; undecides = zero-open q.verdict.word e })

  -- "after it the block is accepted"
  pub sign-holds : Holds 2 a (set old k new)
  sign-holds =
      replaced-holds before-sign k below new refl
      (signed-formed (record_of old k) (before-sign.formed k below) q.verdict judged sign-settles)
      (signed-kept (record_of old k) (before-sign.formed k below) q.verdict judged sign-settles)
      (q.written ∙ ap (λ (x : List ℕ). with_sign x k (sign_of q.verdict.word) q.verdict.level) before-sign.written
      ∙ sign-bytes 2 old k before-sign.formed below (sign_of q.verdict.word) q.verdict.level)

  pub sign-checks : (c d : Checked) → Checks l c → Checks a d → d ≡ c
  sign-checks c d x y =
      checked-block sign-holds d y ∙ ap (λ (n : ℕ). record { code = 0; number = 0; count = n }) (length-set old k new) ∙ sym (checked-block before-sign c x)

  inside : k < length (set old k new)
  inside = rw (length-set old k new) below

  pub sign_reads : (f g : Fetched) → Fetches l k f → Fetches a k g
      → g ≡ record { code = 0; number = 0; id = f.id; kind = f.kind; limit = f.limit; signed = sign_of q.verdict.word; level = q.verdict.level; coords = f.coords }
  sign_reads f g x y =
      fetched-record sign-holds k inside g y ∙ ap (fetched 0 0) (replaced-this old k below new)
      ∙ ap (λ (z : Fetched). record { code = 0; number = 0; id = z.id; kind = z.kind; limit = z.limit; signed = sign_of q.verdict.word; level = q.verdict.level; coords = z.coords })
      (sym (fetched-record before-sign k below f x))

  -- "every other record reads as before"
  pub sign-others : (m : ℕ) → ¬ (m ≡ k) → m < length (records_in l) → (f g : Fetched) → Fetches l m f → Fetches a m g → g ≡ f
  sign-others m n b f g x y =
      fetched-record sign-holds m (rw (length-set old k new) b) g y ∙ ap (fetched 0 0) (replaced-other old k below new m n)
      ∙ sym (fetched-record before-sign m b f x)

  pub sign-again : (s : Changed) (b : List ℕ) → Signs a k s b → (s ≡ record { code = 0; number = 0 }) × (b ≡ a)
  sign-again s b c =
      signed-signs sign-holds k inside
      (λ e. sign-settles (sym (ap (λ (x : Record). x.signed) (replaced-this old k below new)) ∙ e)) s b c
