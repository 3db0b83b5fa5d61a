-- What is appended is read back.
--   last-record, more-length : a list with one record more
--   new-formed     : a record that is accepted is well-formed; its used coordinates are those given
--   block-over     : bytes written behind a block, and another count
--   appended-bytes, appended-holds : an accepted append leaves the block of the old records and the new one, in the same version
--   appended-rest  : and all bytes behind it
--   built-holds    : after a start and any run of accepted appends the first `used` bytes are the block of the records appended
--   built-checks, built-fetches : so a check gives their number, and a fetch of k exactly the k-th of them
-- Assumes nothing.
use mathlib.Core.Path.{◌≡◌, refl, sym, ap, ap₂, ◌∙◌, subst}
use mathlib.Core.List.{List, [], ◌∷◌, ◌++◌, append-nil, append_assoc}
use mathlib.Core.Logic.{inl, ⊎_elim}
use Prim.Native.Nat.{ℕ, suc, ◌+◌, ◌-◌, ◌*◌, ◌^◌, ◌≤◌, ◌<◌}
use native.Mathlib.Nat as N
use native.Mathlib.Numerals.{add-one}
use native.Mathlib.Omega.{arith}
use native.Mathlib.Decide.{dec_le}
use lib.IntN.{ℤ}
use lib.ListN.{length, take, drop, length-append, get_or-append}
use lib.Seq.{take_at, drop_at, length-take-le, get_or-append_seam}
use Rattle.algebra.proofs.Truth.{not-not}
use Rattle.endian.specs.Numbers.{over}
use Rattle.record.specs.declared.Record.{Record}
use Rattle.record.specs.Record.{used, WellFormed, record_bytes, blank}
use Rattle.record.proofs.Known.{known_small}
use Rattle.record.proofs.Codec.{record-length}
use Rattle.signs.specs.Signs.{Differs}
use Rattle.signs.proofs.Kept.{unsigned-kept}
use Rattle.block.specs.declared.Checked.{Checked}
use Rattle.block.specs.declared.Fetched.{Fetched}
use Rattle.block.specs.Block.{header, records_bytes, block_bytes, record_of, Holds}
use Rattle.block.specs.Faults.{lowest}
use Rattle.block.specs.Calls.{Checks, fetched, Fetches}
use Rattle.block.proofs.Blocks.{records-more, records-length, block-length, block-count, held-record}
use Rattle.block.proofs.Demands.{checked-block, fetched-record}
use Rattle.append.specs.declared.Appended.{Appended}
use Rattle.append.specs.Append.{new_record}
use Rattle.append.specs.Calls.{IsStarted, with_count, IsAppended, Built, begun, grown}
use Rattle.append.proofs.Padded.{padded-length, padded-used, padded-rest}
use Rattle.append.proofs.Orders.{RoomSound, append-within, append-sound}
use Rattle.append.proofs.Outcomes.{started-is, appended-is}

-- ---- the record
module _ {l : List ℕ} {room id n level : ℕ} {xs : List ℤ} (s : RoomSound l room id n level xs) where
  given : length xs ≡ 2 * n
  given = not-not (length xs) (2 * n) s.element.1.1.0

  -- "a record of kind 6 or 8 comes back with its unused pairs zero" is rest_zero
  pub new-formed : (v : ℕ) → id < 256 ^ 4 → WellFormed v (new_record id n level xs)
  new-formed v h =
      record {
        id_fits = h;
        kind_known = s.element.0;
        level_allowed = s.element.1.0;
        nine_pairs = padded-length xs (omega (arith, given, known_small n s.element.0));
        inside = rw (padded-used xs (2 * n) given) s.element.1.1.1.0;
        corners_differ = rw (padded-used xs (2 * n) given) s.element.1.1.1.1.0;
        rest_zero = λ k. padded-rest xs (2 * n) k given;
        sign_level = λ s. s.0.0 refl;
        sign_known = ⊎_elim N.not-suc-le-zero (λ s. s.1 refl);
      }

  pub new-used : used (new_record id n level xs) ≡ xs
  new-used = padded-used xs (2 * n) given

-- ---- lists
pub last-record : (rs : List Record) (r : Record) → record_of (rs ++ (r ∷ [])) (length rs) ≡ r
last-record rs r = get_or-append_seam rs r [] blank

old-record : (rs : List Record) (r : Record) (k : ℕ) → k < length rs → record_of (rs ++ (r ∷ [])) k ≡ record_of rs k
old-record rs r k h = get_or-append rs (r ∷ []) blank k h

pub more-length : (rs : List Record) (r : Record) → length (rs ++ (r ∷ [])) ≡ suc (length rs)
more-length rs r = length-append rs (r ∷ []) ∙ add-one (length rs)

-- ---- the bytes
block_more : (v : ℕ) (rs : List Record) (r : Record) → block_bytes v (rs ++ (r ∷ [])) ≡ header v (suc (length rs)) ++ (records_bytes rs ++ record_bytes r)
block_more v rs r =
    ap₂ (λ (n : ℕ) (s : List ℕ). header v n ++ s) (more-length rs r)
    (records-more rs (r ∷ []) ∙ ap (λ (s : List ℕ). records_bytes rs ++ s) (append-nil (record_bytes r)))

-- the block's bytes, with others behind them and another count
pub block-over : (v : ℕ) (b : List ℕ) (used : ℕ) (rs : List Record) (w : List ℕ) (n : ℕ) → take used b ≡ block_bytes v rs
    → with_count (over b used w) n ≡ (header v n ++ (records_bytes rs ++ w)) ++ drop (used + length w) b
block-over v b used rs w n e =
    let rest = drop (used + length w) b in
    ap (λ (s : List ℕ). with_count (s ++ (w ++ rest)) n) e
    ∙ ap (λ (s : List ℕ). header v n ++ s) (sym (append_assoc (records_bytes rs) w rest))
    ∙ sym (append_assoc (header v n) (records_bytes rs ++ w) rest)

written_is : (v : ℕ) (b : List ℕ) (used : ℕ) (rs : List Record) (r : Record) → take used b ≡ block_bytes v rs → length (record_bytes r) ≡ 80
    → with_count (over b used (record_bytes r)) (suc (length rs)) ≡ block_bytes v (rs ++ (r ∷ [])) ++ drop (used + 80) b
written_is v b used rs r e n =
    block-over v b used rs (record_bytes r) (suc (length rs)) e
    ∙ ap₂ (λ (s : List ℕ) (i : ℕ). s ++ drop (used + i) b) (sym (block_more v rs r)) n

-- ---- an accepted append
module _ {v : ℕ} {b : List ℕ} {used id n level : ℕ} {xs : List ℤ} {r : Appended} {a : List ℕ} {rs : List Record}
    (h : Holds v (take used b) rs) (fits : id < 256 ^ 4) (p : IsAppended b used id n level xs r a) where
  abbrev new : Record
  new = new_record id n level xs

  sound : RoomSound (take used b) (length b - used) id n level xs
  sound = append-sound b used id n level xs p.accepted

  abbrev all : List Record
  all = rs ++ (new ∷ [])

  formed : WellFormed v new
  formed = new-formed sound v fits

  pub appended-bytes : a ≡ block_bytes v all ++ drop (used + 80) b
  appended-bytes =
      p.written ∙ ap (λ (m : ℕ). with_count (over b used (record_bytes new)) (suc m)) (block-count h)
      ∙ written_is v b used rs new h.written (record-length new formed)

  old-length : used ≡ 9 + 80 * length rs
  old-length = sym (length-take-le used b (append-within b used id n level xs p.accepted)) ∙ block-length h

  all-length : length (block_bytes v all) ≡ used + 80
  all-length =
      ap length (block_more v rs new)
      ∙ omega (arith, length-append (records_bytes rs) (record_bytes new), records-length rs h.formed, record-length new formed, old-length)

  all-few : length all ≤ 800
  all-few = omega (arith, more-length rs new, N.lt_of_not-le sound.other.1.0, block-count h)

  -- what holds of the old records, and of the new one, holds of all
  every : (P : Record → Type 0) → P new → ((k : ℕ) → k < length rs → P (record_of rs k)) → (k : ℕ) → k < length all → P (record_of all k)
  every P p q k i = go (dec_le (suc k) (length rs))
    where
      go : Dec (k < length rs) → P (record_of all k)
      go (yes j) = subst P (sym (old-record rs new k j)) (q k j)
      go (no j) =
          let e : length rs ≡ k = omega (arith, more-length rs new) in
          subst (λ (m : ℕ). P (record_of all m)) e (subst P (sym (last-record rs new)) p)

  -- the last id of the old records is below the new one
  above : (k : ℕ) → suc k ≡ length rs → (record_of rs k).id < id
  above k e =
      let l = take used b in
      let low = N.le_of_suc-le-suc (N.lt_of_not-le sound.other.0) in
      subst (λ (q : Record). q.id < id) (held-record h k (omega arith)) (subst (λ (m : ℕ). lowest l m ≤ id) (block-count h ∙ sym e) low)

  all-rise : (k : ℕ) → suc k < length all → (record_of all k).id < (record_of all (suc k)).id
  all-rise k i = go (dec_le (suc (suc k)) (length rs))
    where
      go : Dec (suc k < length rs) → (record_of all k).id < (record_of all (suc k)).id
      go (yes j) = rw (old-record rs new k (omega arith), old-record rs new (suc k) j) (h.rise k j)
      go (no j) =
          let e : suc k ≡ length rs = omega (arith, more-length rs new) in
          rw (old-record rs new k (omega arith), ap (record_of all) e ∙ last-record rs new) (above k e)

  pub appended-holds : Holds v (take (used + 80) a) all
  appended-holds =
      record {
        version = h.version;
        written = ap (take (used + 80)) appended-bytes ∙ take_at (block_bytes v all) (drop (used + 80) b) (used + 80) all-length;
        few = all-few;
        formed = every (WellFormed v) formed h.formed;
        rise = all-rise;
        kept = every (λ (q : Record). ¬ Differs q) (unsigned-kept new refl) h.kept;
      }

  pub appended-rest : drop (used + 80) a ≡ drop (used + 80) b
  appended-rest = ap (drop (used + 80)) appended-bytes ∙ drop_at (block_bytes v all) (drop (used + 80) b) (used + 80) all-length

-- ---- a run of calls
empty_holds : (b a : List ℕ) (r : Appended) → IsStarted b r a → Holds 1 (take r.used a) []
empty_holds b a r p =
    record {
      version = inl refl;
      written = ap₂ (λ (m : ℕ) (s : List ℕ). take m s) (ap (λ (r : Appended). r.used) p.answer) p.written;
      few = omega arith;
      formed = λ k i. absurd (N.not-suc-le-zero i);
      rise = λ k i. absurd (N.not-suc-le-zero i);
      kept = λ k i. absurd (N.not-suc-le-zero i);
    }

pub built-holds : {b : List ℕ} {m : ℕ} {rs : List Record} → Built b m rs → Holds 1 (take m b) rs
built-holds (begun b a r p e) = empty_holds b a r (started-is b r a p e)
built-holds (grown b m rs id n level xs r a p fits q e) =
    let s = appended-is b m id n level xs r a q e in
    subst (λ (k : ℕ). Holds 1 (take k a) (rs ++ (new_record id n level xs ∷ []))) (sym (ap (λ (r : Appended). r.used) s.answer))
    (appended-holds (built-holds p) fits s)

module _ {b : List ℕ} {m : ℕ} {rs : List Record} (p : Built b m rs) where
  pub built-checks : (r : Checked) → Checks (take m b) r → r ≡ record { code = 0; number = 0; count = length rs }
  built-checks r c = checked-block (built-holds p) r c

  pub built-fetches : (k : ℕ) → k < length rs → (r : Fetched) → Fetches (take m b) k r → r ≡ fetched 0 0 (record_of rs k)
  built-fetches k i r f = fetched-record (built-holds p) k i r f
