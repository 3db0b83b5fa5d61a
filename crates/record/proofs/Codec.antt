-- A record's bytes: what is written is read, and what is read is what was written.
--   part-drop, part-more, part-first : parts of a list of bytes
--   numbers-length, numbers_more, numbers-at, numbers-read : signed numbers in four bytes each
--   record-length  : a well-formed record is written in 80 bytes
--   read-written   : and is read back from them, whatever stands before and behind
--   written_read   : and bytes are the writing of the record that is read from them
--   stored-formed  : a stored record without a fault is well-formed
--   formed-stored  : a well-formed record that is read has no fault
-- The writing is the same in every version; which records are well-formed is not.
-- Assumes nothing.
use mathlib.Core.Path.{◌≡◌, refl, sym, ap, ap₂, ◌∙◌, subst}
use mathlib.Core.List.{List, [], ◌∷◌, ◌++◌, append_assoc, append-nil}
use mathlib.Core.Logic.{inl, inr, ⊎_elim}
use Prim.Native.Nat.{ℕ, zero, suc, ◌+◌, ◌-◌, ◌*◌, ◌^◌, ◌≤◌, ◌<◌}
use native.Mathlib.Nat as N
use native.Mathlib.Numerals.{add-one}
use native.Mathlib.Omega.{arith}
use native.Mathlib.Decide.{dec_le}
use lib.Dec.{lit<}
use lib.IntN.{ℤ, pos}
use lib.ListN.{length, get_or, take, drop}
use lib.Seq.{get_or-drop, get_or-take, drop-drop, drop-cons, take-add, drop_at, ext_get_or}
use lib.Signed.{mag}
use Rattle.algebra.specs.Fill.{list_to}
use Rattle.algebra.proofs.Fill.{length-list_to, get_d-list_to}
use Rattle.element.specs.Kinds.{kind_of}
use Rattle.element.specs.Refusals.{Accepted, Beyond}
use Rattle.element.proofs.Ranges.{inside-each, held_at}
use Rattle.endian.specs.Numbers.{Bytes, bytes, number, signed_bytes, signed_number, part}
use Rattle.endian.proofs.Numbers.{number-bytes, bytes-number, number_small}
use Rattle.endian.proofs.Complement.{signed-bytes, bytes_signed}
use Rattle.endian.proofs.Places.{length_part, bytes-part}
use Rattle.record.specs.declared.Record.{Record}
use Rattle.record.specs.Record.{used, unused, WellFormed, numbers_bytes, record_bytes, read_coords, read_record}
use Rattle.record.specs.Faults.{record_codes}
use Rattle.record.proofs.Order.{passed-inside, passed_apart}
use Rattle.record.proofs.Known.{each-zero}

-- ---- parts
pub part-drop : (a at n : ℕ) (l : List ℕ) → part (a + at) n l ≡ part at n (drop a l)
part-drop a at n l = ap (take n) (sym (drop-drop at a l))

pub part-more : (at m n : ℕ) (l : List ℕ) → part at (m + n) l ≡ part at m l ++ part (at + m) n l
part-more at m n l = take-add m n (drop at l) ∙ ap (λ (s : List ℕ). part at m l ++ take n s) (drop-drop m at l)

pub part-first : (at n : ℕ) (l : List ℕ) → at < length l → part at (suc n) l ≡ get_or l at 0 ∷ part (at + 1) n l
part-first at n l h = rw (drop-cons l at 0 h, add-one at) refl

-- ---- signed numbers
pub numbers-length : (zs : List ℤ) → length (numbers_bytes zs) ≡ 4 * length zs
numbers-length [] = refl
numbers-length (z ∷ zs) = omega (arith, numbers-length zs)

pub numbers_more : (ys zs : List ℤ) → numbers_bytes (ys ++ zs) ≡ numbers_bytes ys ++ numbers_bytes zs
numbers_more [] zs = refl
numbers_more (y ∷ ys) zs =
    ap (λ (s : List ℕ). signed_bytes 4 y ++ s) (numbers_more ys zs) ∙ sym (append_assoc (signed_bytes 4 y) (numbers_bytes ys) (numbers_bytes zs))

numbers-at : (zs : List ℤ) (k : ℕ) (rest : List ℕ) → k < length zs → part (4 * k) 4 (numbers_bytes zs ++ rest) ≡ signed_bytes 4 (get_or zs k (pos 0))
numbers-at [] k rest h = absurd (N.not-suc-le-zero h)
numbers-at (z ∷ zs) zero rest h = refl
numbers-at (z ∷ zs) (suc k) rest h =
    ap (λ (i : ℕ). part i 4 (numbers_bytes (z ∷ zs) ++ rest)) (let e : 4 * suc k ≡ 4 + 4 * k = omega arith in e)
    ∙ part-drop 4 (4 * k) 4 (numbers_bytes (z ∷ zs) ++ rest)
    ∙ numbers-at zs k rest (N.le_of_suc-le-suc h)

-- n numbers from the place `at` on
pub numbers-read : (n at : ℕ) (l : List ℕ) → Bytes l → at + 4 * n ≤ length l
    → numbers_bytes (list_to n (λ k. signed_number (part (at + 4 * k) 4 l))) ≡ part at (4 * n) l
numbers-read zero at l p h = sym (none (drop at l))
  where
    none : (d : List ℕ) → take 0 d ≡ []
    none [] = refl
    none (b ∷ d) = refl
numbers-read (suc n) at l p h =
    let f : ℕ → ℤ = λ k. signed_number (part (at + 4 * k) 4 l) in
    let q = part (at + 4 * n) 4 l in
    let e : signed_bytes 4 (signed_number q) ≡ q =
    ap (λ (w : ℕ). signed_bytes w (signed_number q)) (sym (length_part (at + 4 * n) 4 l (omega arith))) ∙ bytes_signed q (bytes-part (at + 4 * n) 4 p) in
    numbers_more (list_to n f) (f n ∷ [])
    ∙ ap₂ (λ (s t : List ℕ). s ++ t) (numbers-read n at l p (omega arith)) (append-nil (signed_bytes 4 (f n)) ∙ e)
    ∙ sym (part-more at (4 * n) 4 l)
    ∙ ap (λ (i : ℕ). part at i l) (let e : 4 * n + 4 ≡ 4 * suc n = omega arith in e)

-- ---- a coordinate fits four bytes
coord-small : {v : ℕ} (r : Record) → WellFormed v r → (k : ℕ) → mag (get_or r.coords k (pos 0)) < 128 * 256 ^ 3
coord-small r w k = go (dec_le (suc k) (2 * r.kind))
  where
    go : Dec (k < 2 * r.kind) → mag (get_or r.coords k (pos 0)) < 128 * 256 ^ 3
    go (yes h) = rw (get_or-take (2 * r.kind) r.coords k (pos 0) h) at (held_at (kind_of r.kind) (used r) w.inside k)
    go (no h) =
        let n = 2 * r.kind in
        let e : get_or r.coords k (pos 0) ≡ pos 0 =
        ap (λ (i : ℕ). get_or r.coords i (pos 0)) (let e : k ≡ n + (k - n) = omega arith in e)
        ∙ sym (get_or-drop n r.coords (k - n) (pos 0)) ∙ w.rest_zero (k - n) in
        rw e (lit< tt)

pub record-length : {v : ℕ} (r : Record) → WellFormed v r → length (record_bytes r) ≡ 80
record-length r w = omega (arith, numbers-length r.coords, w.nine_pairs)

-- ---- what is written is read
abbrev made : ℕ → ℕ → ℕ → ℕ → ℕ → List ℤ → Record
made i k m s d zs = record { id = i; kind = k; limit = m; signed = s; level = d; coords = zs }

list_to-same : (n : ℕ) (f g : ℕ → ℤ) → ((k : ℕ) → f k ≡ g k) → list_to n f ≡ list_to n g
list_to-same zero f g h = refl
list_to-same (suc n) f g h = ap₂ (λ (l : List ℤ) (z : ℤ). l ++ (z ∷ [])) (list_to-same n f g h) (h n)

-- from a place on is from the front of what begins there
read-drop : (l : List ℕ) (at : ℕ) → read_record l at ≡ read_record (drop at l) 0
read-drop l at =
    ap₂ (λ (i : ℕ) (zs : List ℤ). made i (get_or l (at + 4) 0) (get_or l (at + 5) 0) (get_or l (at + 6) 0) (get_or l (at + 7) 0) zs)
    (ap number (ap (λ (i : ℕ). part i 4 l) (let e : at ≡ at + 0 = omega arith in e) ∙ part-drop at 0 4 l))
    (list_to-same 18 _ _ (λ k. ap signed_number (ap (λ (i : ℕ). part i 4 l) (let e : at + 8 + 4 * k ≡ at + (0 + 8 + 4 * k) = omega arith in e)
    ∙ part-drop at (0 + 8 + 4 * k) 4 l)))
    ∙ ap₂ (λ (k m : ℕ). made (number (part 0 4 (drop at l))) k m (get_or l (at + 6) 0) (get_or l (at + 7) 0) (read_coords (drop at l) 0))
    (sym (get_or-drop at l 4 0)) (sym (get_or-drop at l 5 0))
    ∙ ap₂ (λ (s d : ℕ). made (number (part 0 4 (drop at l))) (get_or (drop at l) 4 0) (get_or (drop at l) 5 0) s d (read_coords (drop at l) 0))
    (sym (get_or-drop at l 6 0)) (sym (get_or-drop at l 7 0))

read-front : {v : ℕ} (r : Record) (rest : List ℕ) → WellFormed v r → read_record (record_bytes r ++ rest) 0 ≡ r
read-front r rest w = ap₂ (λ (i : ℕ) (zs : List ℤ). made i r.kind r.limit r.signed r.level zs) (number-bytes 4 r.id w.id_fits) coords
  where
    l : List ℕ
    l = record_bytes r ++ rest

    f : ℕ → ℤ
    f k = signed_number (part (0 + 8 + 4 * k) 4 l)

    here : (k : ℕ) → k < 18 → f k ≡ get_or r.coords k (pos 0)
    here k h =
        ap signed_number (part-drop 8 (4 * k) 4 l ∙ numbers-at r.coords k rest (omega (arith, w.nine_pairs)))
        ∙ signed-bytes 3 (get_or r.coords k (pos 0)) (coord-small r w k)

    coords : read_coords l 0 ≡ r.coords
    coords =
        let n = length-list_to 18 f in
        ext_get_or (pos 0) (list_to 18 f) r.coords (n ∙ sym w.nine_pairs) (λ k h. get_d-list_to 18 f k (rw n at h) ∙ here k (rw n at h))

pub read-written : {v : ℕ} (before : List ℕ) (r : Record) (rest : List ℕ) (at : ℕ) → WellFormed v r → length before ≡ at
    → read_record (before ++ (record_bytes r ++ rest)) at ≡ r
read-written before r rest at w e =
    read-drop (before ++ (record_bytes r ++ rest)) at
    ∙ ap (λ (l : List ℕ). read_record l 0) (drop_at before (record_bytes r ++ rest) at e)
    ∙ read-front r rest w

-- ---- what is read is what was written
pub written_read : (l : List ℕ) (at : ℕ) → Bytes l → at + 80 ≤ length l → record_bytes (read_record l at) ≡ part at 80 l
written_read l at p h =
    ap₂ (λ (s t : List ℕ). s ++ (get_or l (at + 4) 0 ∷ get_or l (at + 5) 0 ∷ get_or l (at + 6) 0 ∷ get_or l (at + 7) 0 ∷ t)) four
    (numbers-read 18 (at + 8) l p (omega arith))
    ∙ ap (λ (s : List ℕ). part at 4 l ++ s) (sym eight)
    ∙ sym (part-more at 4 76 l)
  where
    four : bytes 4 (number (part at 4 l)) ≡ part at 4 l
    four =
        let q = part at 4 l in
        ap (λ (w : ℕ). bytes w (number q)) (sym (length_part at 4 l (omega arith))) ∙ bytes-number q (bytes-part at 4 p)

    one : (i j n : ℕ) → i + 1 ≡ j → i < length l → part i (suc n) l ≡ get_or l i 0 ∷ part j n l
    one i j n e h = part-first i n l h ∙ ap (λ (k : ℕ). get_or l i 0 ∷ part k n l) e

    eight : part (at + 4) 76 l ≡ get_or l (at + 4) 0 ∷ get_or l (at + 5) 0 ∷ get_or l (at + 6) 0 ∷ get_or l (at + 7) 0 ∷ part (at + 8) 72 l
    eight =
        one (at + 4) (at + 5) 75 (omega arith) (omega arith)
        ∙ ap (λ (s : List ℕ). get_or l (at + 4) 0 ∷ s) (one (at + 5) (at + 6) 74 (omega arith) (omega arith)
        ∙ ap (λ (s : List ℕ). get_or l (at + 5) 0 ∷ s) (one (at + 6) (at + 7) 73 (omega arith) (omega arith)
        ∙ ap (λ (s : List ℕ). get_or l (at + 6) 0 ∷ s) (one (at + 7) (at + 8) 72 (omega arith) (omega arith))))

-- ---- no fault
module _ (v : ℕ) (l : List ℕ) (at low : ℕ) where
  pub stored-formed : Bytes l → at + 80 ≤ length l → Accepted (record_codes v l at low) → WellFormed v (read_record l at)
  stored-formed p h a =
      record {
        id_fits = subst (λ (n : ℕ). number (part at 4 l) < 256 ^ n) (length_part at 4 l (omega arith)) (number_small (part at 4 l) (bytes-part at 4 p));
        kind_known = a.0;
        level_allowed = λ b. a.1.0 (inl b);
        nine_pairs = length-list_to 18 (λ k. signed_number (part (at + 8 + 4 * k) 4 l));
        inside = passed-inside v l at low a;
        corners_differ = passed_apart v l at low a;
        rest_zero = each-zero {l = unused (read_record l at)} (inside-each (λ b. a.1.1.0 (inr b)));
        sign_level = λ b. a.1.0 (inr b);
        sign_known = λ b. a.1.1.0 (inl b);
      }

  pub formed-stored : (r : Record) → WellFormed v r → read_record l at ≡ r → low ≤ r.id → Accepted (record_codes v l at low)
  formed-stored r w e h = fits (subst (WellFormed v) (sym e) w) (subst (λ (x : Record). low ≤ x.id) (sym e) h)
    where
      zeros : WellFormed v (read_record l at) → ¬ Beyond 0 (unused (read_record l at))
      zeros w (k, i, f) = absurd (N.not-suc-le-zero (rw (w.rest_zero k) at f))

      fits : WellFormed v (read_record l at) → low ≤ (read_record l at).id → Accepted (record_codes v l at low)
      fits w h =
          (w.kind_known, (⊎_elim w.level_allowed w.sign_level, (⊎_elim w.sign_known (zeros w), (w.inside, (w.corners_differ, ((λ f. N.not-le_of_lt f h), tt))))))
