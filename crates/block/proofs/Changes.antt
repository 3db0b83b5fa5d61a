-- Blocks that differ in a byte or two: what they hold.
--   version-bytes   : the bytes with another version are the block of the same records in that version
--   version-holds   : which is a block where no record is signed
--   version-back    : and with the version that it had they are the same again
--   replaced-this, replaced-other : the records of a list of which record k is another
--   over-behind     : bytes written behind the front of a list
--   replaced-by     : what makes of record k's bytes, wherever they stand, those of another record leaves the block of such a list
--   replaced-bytes  : and so do bytes written into record k
--   replaced-holds  : which is a block, where the new record may stand there
--   sign-bytes, limit-bytes : the two bytes of the sign, and the byte of the level limit
--   sign_same       : the two bytes that stand there, written again
--   limit-holds     : a block with another level limit of a signed record, up to the kind's greatest, is a block
-- Each once, over the version. Assumes nothing.
use mathlib.Core.Path.{◌≡◌, refl, sym, ap, ap₂, ◌∙◌, subst}
use mathlib.Core.List.{List, [], ◌∷◌, ◌++◌, append_assoc}
use Prim.Native.Nat.{ℕ, suc, ◌+◌, ◌≤◌, ◌<◌}
use native.Mathlib.Nat as N
use native.Mathlib.Decide.{dec_le}
use native.Mathlib.Omega.{arith}
use lib.ListN.{length, set, take, drop, length-set}
use lib.Seq.{take-append-add, drop-append-add, set_split, set-get_or, get_or-set_same, get_or-set_other}
use Rattle.element.specs.Kinds.{kind_of}
use Rattle.element.specs.Refusals.{AboveLevel}
use Rattle.endian.specs.Numbers.{over}
use Rattle.record.specs.declared.Record.{Record}
use Rattle.record.specs.Record.{WellFormed, record_bytes, blank}
use Rattle.record.proofs.Signs.{formed-unsigned}
use Rattle.signs.specs.Signs.{Differs}
use Rattle.block.specs.Block.{Version, header, records_bytes, block_bytes, record_of, Holds, place}
use Rattle.block.specs.Changes.{with_version, with_sign, with_limit, signed_as, limited_to}
use Rattle.block.proofs.Blocks.{Formed, records-more, before, parted, before-length}

-- ---- another version
module _ {v : ℕ} {l : List ℕ} {rs : List Record} (h : Holds v l rs) (w : ℕ) where
  pub version-bytes : with_version l w ≡ block_bytes w rs
  version-bytes = ap (λ (s : List ℕ). with_version s w) h.written

  pub version-holds : Version w → ((k : ℕ) → k < length rs → (record_of rs k).signed ≡ 0) → Holds w (with_version l w) rs
  version-holds p u =
      record {
        version = p;
        written = version-bytes;
        few = h.few;
        formed = λ k i. formed-unsigned v w (record_of rs k) (u k i) (h.formed k i);
        rise = h.rise;
        kept = h.kept;
      }

  pub version-back : with_version (with_version l w) v ≡ l
  version-back = ap (λ (s : List ℕ). with_version s v) version-bytes ∙ sym h.written

-- ---- another record k
module _ (rs : List Record) (k : ℕ) (h : k < length rs) (q : Record) where
  pub replaced-this : record_of (set rs k q) k ≡ q
  replaced-this = get_or-set_same rs k q blank h

  pub replaced-other : (m : ℕ) → ¬ (m ≡ k) → record_of (set rs k q) m ≡ record_of rs m
  replaced-other m f = get_or-set_other rs k m q blank f

  -- what holds of the new record, and of those that stood there, holds of all
  every : (P : ℕ → Record → Type 0) → P k q → ((m : ℕ) → m < length rs → P m (record_of rs m))
      → (m : ℕ)
      → m < length rs
      → P m (record_of (set rs k q) m)
  every P p f m b = go (dec_le m k) (dec_le k m)
    where
      other : ¬ (m ≡ k) → P m (record_of (set rs k q) m)
      other n = subst (P m) (sym (replaced-other m n)) (f m b)

      go : Dec (m ≤ k) → Dec (k ≤ m) → P m (record_of (set rs k q) m)
      go (yes x) (yes y) = subst (λ (c : ℕ). P c (record_of (set rs k q) c)) (N.le_antisymm y x) (subst (P k) (sym replaced-this) p)
      go (yes x) (no y) = other (λ e. y (omega arith))
      go (no x) y = other (λ e. x (omega arith))

pub over-behind : (b t w : List ℕ) (n at : ℕ) → length b ≡ at → over (b ++ t) (at + n) w ≡ b ++ over t n w
over-behind b t w n at e =
    ap (λ (m : ℕ). over (b ++ t) (m + n) w) (sym e)
    ∙ ap₂ (λ (x y : List ℕ). x ++ (w ++ y)) (take-append-add b t n)
    (ap (λ (m : ℕ). drop m (b ++ t)) (let q : length b + n + length w ≡ length b + (n + length w) = omega arith in q)
    ∙ drop-append-add b t (n + length w))
    ∙ append_assoc b (take n t) (w ++ drop (n + length w) t)

module _ (v : ℕ) (rs : List Record) (k : ℕ) (f : Formed v rs) (h : k < length rs) where
  pub replaced-by : (q : Record) (F : List ℕ → List ℕ)
      → ((b t : List ℕ) → length b ≡ place k → F (b ++ (record_bytes (record_of rs k) ++ t)) ≡ b ++ (record_bytes q ++ t))
      → F (block_bytes v rs) ≡ block_bytes v (set rs k q)
  replaced-by q F e =
      let tail = records_bytes (drop (suc k) rs) in
      ap F (parted v rs k h)
      ∙ e (before v rs k) tail (before-length v rs k f h)
      ∙ append_assoc (header v (length rs)) (records_bytes (take k rs)) (record_bytes q ++ tail)
      ∙ ap (λ (l : List ℕ). header v (length rs) ++ l)
      (sym (records-more (take k rs) (q ∷ drop (suc k) rs)) ∙ ap records_bytes (sym (set_split rs k q h)))
      ∙ ap (λ (n : ℕ). header v n ++ records_bytes (set rs k q)) (sym (length-set rs k q))

  pub replaced-bytes : (q : Record) (n : ℕ) (w : List ℕ)
      → ((t : List ℕ) → over (record_bytes (record_of rs k) ++ t) n w ≡ record_bytes q ++ t)
      → over (block_bytes v rs) (place k + n) w ≡ block_bytes v (set rs k q)
  replaced-bytes q n w e =
      replaced-by q (λ l. over l (place k + n) w)
      (λ b t i. over-behind b (record_bytes (record_of rs k) ++ t) w n (place k) i ∙ ap (λ (s : List ℕ). b ++ s) (e t))

  pub sign-bytes : (s d : ℕ) → with_sign (block_bytes v rs) k s d ≡ block_bytes v (set rs k (signed_as (record_of rs k) s d))
  sign-bytes s d = replaced-bytes (signed_as (record_of rs k) s d) 6 (s ∷ d ∷ []) (λ t. refl)

  pub limit-bytes : (m : ℕ) → with_limit (block_bytes v rs) k m ≡ block_bytes v (set rs k (limited_to (record_of rs k) m))
  limit-bytes m = replaced-bytes (limited_to (record_of rs k) m) 5 (m ∷ []) (λ t. refl)

module _ {v : ℕ} {l : List ℕ} {rs : List Record} (h : Holds v l rs) (k : ℕ) (i : k < length rs) where
  pub replaced-holds : (q : Record) → q.id ≡ (record_of rs k).id → WellFormed v q → ¬ Differs q
      → {a : List ℕ}
      → a ≡ block_bytes v (set rs k q)
      → Holds v a (set rs k q)
  replaced-holds q e w d {a} b =
      let c = length-set rs k q in
      let same = every rs k i q (λ m r. r.id ≡ (record_of rs m).id) e (λ m j. refl) in
      record {
        version = h.version;
        written = b;
        few = rw c h.few;
        formed = λ m j. every rs k i q (λ m r. WellFormed v r) w h.formed m (rw c at j);
        rise = λ m j. let j : suc m < length rs = rw c at j in rw (same m (omega arith), same (suc m) j) (h.rise m j);
        kept = λ m j. every rs k i q (λ m r. ¬ Differs r) d h.kept m (rw c at j);
      }

  pub sign_same : with_sign l k (record_of rs k).signed (record_of rs k).level ≡ l
  sign_same =
      let r = record_of rs k in
      ap (λ (s : List ℕ). with_sign s k r.signed r.level) h.written
      ∙ sign-bytes v rs k h.formed i r.signed r.level
      ∙ ap (block_bytes v) (set-get_or rs k blank)
      ∙ sym h.written

  -- the sign of a record says nothing of its stored limit
  pub limit-holds : ¬ ((record_of rs k).signed ≡ 0) → (m : ℕ) → ¬ AboveLevel (kind_of (record_of rs k).kind) m
      → Holds v (with_limit l k m) (set rs k (limited_to (record_of rs k) m))
  limit-holds s m b =
      let r = record_of rs k in
      let w = h.formed k i in
      replaced-holds (limited_to r m) refl
      (record {
        id_fits = w.id_fits;
        kind_known = w.kind_known;
        level_allowed = b;
        nine_pairs = w.nine_pairs;
        inside = w.inside;
        corners_differ = w.corners_differ;
        rest_zero = w.rest_zero;
        sign_level = w.sign_level;
        sign_known = w.sign_known;
      })
      (λ d. h.kept k i (record { signed = d.signed; verdict = d.verdict; judged = d.judged; other = λ g. d.other (record { word = g.word; level = g.level }) }))
      (ap (λ (x : List ℕ). with_limit x k m) h.written ∙ limit-bytes v rs k h.formed i m)
