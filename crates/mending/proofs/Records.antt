-- The record and the block in which middle nodes are replaced.
--   used-long       : a triangle has twelve coordinates
--   used-mended, unused-mended : its coordinates are the triangle's with the nodes replaced, and what stands behind them stays
--   mended-none     : with nothing replaced it is the record
--   mended-formed   : it may stand where the record stands
--   record-mended   : the bytes of the record, wherever they stand, become its bytes
--   mended-bytes    : and so the block becomes the block with it
-- Of six-node triangles, over the version. Assumes nothing.
use mathlib.Core.Path.{◌≡◌, refl, sym, ◌∙◌, ap, ap₂, subst}
use mathlib.Core.Bool.{Bool, true, false, cond}
use mathlib.Core.List.{List, [], ◌∷◌, ◌++◌}
use mathlib.Core.Logic.{inl, inr}
use Prim.Native.Nat.{ℕ, ◌+◌, ◌*◌, ◌<◌}
use native.Mathlib.Nat as N
use native.Mathlib.Omega.{arith}
use lib.Dec.{eqb}
use lib.IntN.{ℤ}
use lib.ListN.{length, set, take, drop, length-append, length-drop, take-append-drop}
use lib.Seq.{length-take-le, take_at, drop_at}
use Rattle.element.specs.Kinds.{kind_of}
use Rattle.element.specs.Plane.{Vec}
use Rattle.element.proofs.Numbers.{kind-six}
use Rattle.element.proofs.Sums.{numbers}
use Rattle.element.proofs.Origin.{numbers-all}
use Rattle.endian.specs.Numbers.{over}
use Rattle.middles.specs.declared.Replaced.{Replaced}
use Rattle.middles.specs.Middles.{M01, M12, M02, middle_of, replacing}
use Rattle.middles.specs.Sets.{set_of, none, size}
use Rattle.middles.proofs.Triangles.{replaced-length, replaced-none, replaced-inside, replaced-apart}
use Rattle.record.specs.declared.Record.{Record}
use Rattle.record.specs.Record.{used, unused, HighSign, WrongSign, WellFormed, numbers_bytes, record_bytes}
use Rattle.block.specs.Block.{block_bytes, record_of, Holds, place}
use Rattle.block.specs.Changes.{with_sign}
use Rattle.block.proofs.Blocks.{held-record}
use Rattle.block.proofs.Changes.{over-behind, replaced-by}
use Rattle.mending.specs.Changes.{with_node, with_middle, without_sign, mended_bytes, mended_record}

-- ---- the record
module _ {v : ℕ} (r : Record) (w : WellFormed v r) (six : r.kind ≡ 6) (s : Replaced) where
  pub used-long : length (used r) ≡ 12
  used-long = let n = w.nine_pairs in length-take-le (2 * r.kind) r.coords (omega arith) ∙ omega arith

  fits : length (replacing (used r) s) ≡ 2 * r.kind
  fits = replaced-length (used r) s ∙ omega arith

  pub used-mended : used (mended_record r s) ≡ replacing (used r) s
  used-mended = take_at (replacing (used r) s) (unused r) (2 * r.kind) fits

  pub unused-mended : unused (mended_record r s) ≡ unused r
  unused-mended = drop_at (replacing (used r) s) (unused r) (2 * r.kind) fits

  pub mended-none : s ≡ none → mended_record r s ≡ r
  mended-none e =
      ap (mended_record r) e
      ∙ ap (λ (zs : List ℤ). record { id = r.id; kind = r.kind; limit = r.limit; signed = r.signed; level = r.level; coords = zs })
      (ap (λ (zs : List ℤ). zs ++ unused r) (replaced-none (used r) used-long) ∙ take-append-drop (2 * r.kind) r.coords)

  level-right : (b : Bool) → ¬ HighSign v (kind_of r.kind) (cond b r.signed 0) (cond b r.level 0)
  level-right true h = w.sign_level h
  level-right false h = h.0.0 refl

  sign-right : (b : Bool) → ¬ WrongSign v (cond b r.signed 0) (cond b r.level 0)
  sign-right true h = w.sign_known h
  sign-right false (inl h) = N.not-suc-le-zero h
  sign-right false (inr h) = h.1 refl

  pub mended-formed : WellFormed v (mended_record r s)
  mended-formed =
      record {
        id_fits = w.id_fits;
        kind_known = w.kind_known;
        level_allowed = w.level_allowed;
        nine_pairs = length-append (replacing (used r) s) (unused r)
            ∙ omega (arith, replaced-length (used r) s, length-drop (2 * r.kind) r.coords, w.nine_pairs);
        inside = rw (used-mended, kind-six r.kind six) (replaced-inside (used r) s used-long (rw (kind-six r.kind six) at w.inside));
        corners_differ = rw (used-mended, kind-six r.kind six)
            (replaced-apart (used r) s used-long (rw (kind-six r.kind six) at w.corners_differ));
        rest_zero = λ k. rw unused-mended (w.rest_zero k);
        sign_level = level-right (eqb (size s) 0);
        sign_known = sign-right (eqb (size s) 0);
      }

-- ---- its bytes: what the code writes, step by step
module _ (k : ℕ) (xs : List ℤ) (s : Replaced) where
  abbrev steps : List ℕ → List ℕ
  steps l = without_sign (with_middle (with_middle (with_middle l k xs s M01) k xs s M12) k xs s M02) k s

-- of a record whose coordinates are written out, the first 18 of cs
module _ (id limit signed level : ℕ) (cs : List ℤ) (k : ℕ) (b t : List ℕ) (at : length b ≡ place k) where
  abbrev all : List ℤ
  all = numbers cs 0 18

  abbrev xs : List ℤ
  xs = take 12 all

  abbrev made : ℕ → ℕ → List ℤ → Record
  made g d zs = record { id = id; kind = 6; limit = limit; signed = g; level = d; coords = zs }

  abbrev with : Bool → Bool → Bool → List ℤ
  with m n o = replacing xs (set_of m n o) ++ drop 12 all

  abbrev line : Bool → Bool → Bool → List ℕ
  line m n o = record_bytes (made signed level (with m n o)) ++ t

  abbrev point : Vec → List ℕ
  point v = numbers_bytes (v.x ∷ v.y ∷ [])

  -- bytes written into the record
  into : (n : ℕ) (w x y : List ℕ) → over x n w ≡ y → over (b ++ x) (place k + n) w ≡ b ++ y
  into n w x y e = over-behind b x w n (place k) at ∙ ap (λ (l : List ℕ). b ++ l) e

  start : b ++ (record_bytes (made signed level all) ++ t) ≡ b ++ line false false false
  unfolding replacing
  start = refl

  first : (m : Bool) → cond m (with_node (b ++ line false false false) k 3 (middle_of xs M01)) (b ++ line false false false) ≡ b ++ line m false false
  unfolding replacing
  first true = into 32 (point (middle_of xs M01)) (line false false false) (line true false false) refl
  first false = refl

  second : (m n : Bool) → cond n (with_node (b ++ line m false false) k 4 (middle_of xs M12)) (b ++ line m false false) ≡ b ++ line m n false
  unfolding replacing
  second m true = into 40 (point (middle_of xs M12)) (line m false false) (line m true false) refl
  second m false = refl

  third : (m n o : Bool) → cond o (with_node (b ++ line m n false) k 5 (middle_of xs M02)) (b ++ line m n false) ≡ b ++ line m n o
  unfolding replacing
  third m n true = into 48 (point (middle_of xs M02)) (line m n false) (line m n true) refl
  third m n false = refl

  last : (m n o c : Bool) → cond c (b ++ line m n o) (with_sign (b ++ line m n o) k 0 0)
      ≡ b ++ (record_bytes (made (cond c signed 0) (cond c level 0) (with m n o)) ++ t)
  last m n o true = refl
  last m n o false = into 6 (0 ∷ 0 ∷ []) (line m n o) (record_bytes (made 0 0 (with m n o)) ++ t) refl

  written : (m n o : Bool) → steps k xs (set_of m n o) (b ++ (record_bytes (made signed level all) ++ t))
      ≡ b ++ (record_bytes (mended_record (made signed level all) (set_of m n o)) ++ t)
  written m n o =
      let s = set_of m n o in
      ap (steps k xs s) start
      ∙ ap (λ (l : List ℕ). without_sign (with_middle (with_middle l k xs s M12) k xs s M02) k s) (first m)
      ∙ ap (λ (l : List ℕ). without_sign (with_middle l k xs s M02) k s) (second m n)
      ∙ ap (λ (l : List ℕ). without_sign l k s) (third m n o)
      ∙ last m n o (eqb (size s) 0)

pub record-mended : (r : Record) → r.kind ≡ 6 → length r.coords ≡ 18
    → (s : Replaced) (k : ℕ) (b t : List ℕ)
    → length b ≡ place k
    → steps k (used r) s (b ++ (record_bytes r ++ t)) ≡ b ++ (record_bytes (mended_record r s) ++ t)
record-mended r six long s k b t at =
    subst (λ (q : Record). steps k (used q) s (b ++ (record_bytes q ++ t)) ≡ b ++ (record_bytes (mended_record q s) ++ t))
    (λ i. record { id = r.id; kind = sym six i; limit = r.limit; signed = r.signed; level = r.level; coords = numbers-all 18 r.coords long i })
    (written r.id r.limit r.signed r.level r.coords k b t at s.m01 s.m12 s.m02)

-- ---- the block
module _ {v : ℕ} {l : List ℕ} {rs : List Record} (h : Holds v l rs) (k : ℕ) (i : k < length rs) (six : (record_of rs k).kind ≡ 6) (s : Replaced) where
  pub mended-bytes : mended_bytes l k s ≡ block_bytes v (set rs k (mended_record (record_of rs k) s))
  mended-bytes =
      let r = record_of rs k in
      ap₂ (λ (q : Record) (x : List ℕ). steps k (used q) s x) (held-record h k i) h.written
      ∙ replaced-by v rs k h.formed i (mended_record r s) (steps k (used r) s) (record-mended r six (h.formed k i).nine_pairs s k)
