-- Reading a cutting, step by step, as the code takes it. For every shape.
--   from_more      : the quarters from i on are quarter i and those from i + 1 on
--   reads-one      : what is behind a cutting is determined by the bytes
--   ended, kept, not-kept, other_byte, quartered : the checker of a cell, by the byte at its place
--   none_left, one_more, one-failed : the checker of the quarters from i on
-- Assumes nothing.
use mathlib.Core.Path.{◌≡◌, refl, sym, ◌∙◌, ap, subst}
use mathlib.Core.Bool.{true, false}
use mathlib.Core.Logic.{◌⊎◌, inl, inr}
use mathlib.Core.List.{List, [], ◌∷◌, ◌++◌}
use Prim.Native.Nat.{ℕ, zero, suc, ◌+◌, ◌-◌, ◌≤◌, ◌<◌, zero-le}
use native.Mathlib.Numerals.{add-one}
use native.Mathlib.Omega.{arith}
use lib.Dec.{T}
use lib.IntN.{ℤ}
use lib.ListN.{length, drop, get_or}
use lib.Seq.{drop-cons}
use Rattle.algebra.proofs.Truth.{true-T, T_false}
use Rattle.std.specs.Prelude.{Option, Some, None}
use Rattle.forms.specs.Cuttings.{Four, four_of, Cutting, keep, cut, depth, Fits}
use Rattle.forms.specs.Shapes.{Shape, pass, cut_to}
use Rattle.cuttings.specs.Bytes.{cutting_bytes}
use Rattle.cuttings.specs.Reads.{Reads, InTurn, quarters_from, Checked}
use Rattle.cuttings.proofs.Bytes.{bytes-unique, bytes_cut, bytes-keep, head-is, tail-is}

pub from_more : (i : ℕ) → i < 4 → quarters_from i ≡ four_of i ∷ quarters_from (i + 1)
from_more zero h = refl
from_more (suc zero) h = refl
from_more (suc (suc zero)) h = refl
from_more (suc (suc (suc zero))) h = refl
from_more (suc (suc (suc (suc i)))) h = absurd (omega arith)

-- the byte at a place and what is behind it
pub at_place : (l : List ℕ) (at : ℕ) → at < length l → drop at l ≡ get_or l at 0 ∷ drop (at + 1) l
at_place l at h = rw (add-one at, drop-cons l at 0) refl

past_end : (l : List ℕ) (at : ℕ) → length l ≤ at → drop at l ≡ []
past_end [] zero h = refl
past_end [] (suc at) h = refl
past_end (x ∷ l) zero h = absurd (omega arith)
past_end (x ∷ l) (suc at) h = past_end l at (omega arith)

module _ (S : Shape) where
  pub reads-one : {n : ℕ} {v : List ℤ} {l m r : List ℕ} → Reads S n v l m → Reads S n v l r → m ≡ r
  reads-one p q = (bytes-unique p.cutting q.cutting _ _ (sym p.bytes ∙ q.bytes)).1

  -- ---- a cell, by its byte
  nothing-reads : (n : ℕ) (v : List ℤ) (r : List ℕ) → ¬ Reads S n v [] r
  nothing-reads n v r p = go p.cutting p.bytes
    where
      go : (t : Cutting) → [] ≡ cutting_bytes t ++ r → ⊥
      go keep e = let z : ◌≡◌ {A = ℕ} 0 1 = cc (bytes-keep r) in omega arith
      go (cut a b c d) e = let z : ◌≡◌ {A = ℕ} 0 1 = cc (bytes_cut a b c d r) in omega arith

  zero-reads : (n : ℕ) (v : List ℤ) (l r : List ℕ) → Reads S n v (0 ∷ l) r → T (pass S v)
  zero-reads n v l r p = go p.cutting p.bytes p.fits
    where
      go : (t : Cutting) → 0 ∷ l ≡ cutting_bytes t ++ r → Fits (pass S) (cut_to S) v t → T (pass S v)
      go keep e f = f
      go (cut a b c d) e f = absurd (let z : ◌≡◌ {A = ℕ} 0 1 = head-is (e ∙ bytes_cut a b c d r) in omega arith)

  -- a byte that is neither 0, nor 1 with a cut left
  other-reads : (n : ℕ) (v : List ℤ) (x : ℕ) (l r : List ℕ) → ¬ (x ≡ 0) → ¬ (x ≡ 1) ⊎ (n ≡ 0) → ¬ Reads S n v (x ∷ l) r
  unfolding depth
  other-reads n v x l r h k p = go p.cutting p.bytes p.within
    where
      go : (t : Cutting) → x ∷ l ≡ cutting_bytes t ++ r → depth t ≤ n → ⊥
      go keep e w = h (head-is (e ∙ bytes-keep r))
      go (cut a b c d) e w = either k
        where
          either : ¬ (x ≡ 1) ⊎ (n ≡ 0) → ⊥
          either (inl f) = f (head-is (e ∙ bytes_cut a b c d r))
          either (inr z) = omega arith

  one-reads : (n : ℕ) (v : List ℤ) (l r : List ℕ) → Reads S n v (1 ∷ l) r → InTurn S (n - 1) v (quarters_from 0) l r
  unfolding depth
  one-reads n v l r p = go p.cutting p.bytes p.fits p.within
    where
      go : (t : Cutting) → 1 ∷ l ≡ cutting_bytes t ++ r → Fits (pass S) (cut_to S) v t → depth t ≤ n → InTurn S (n - 1) v (quarters_from 0) l r
      go keep e f w = absurd (let z : ◌≡◌ {A = ℕ} 1 0 = head-is (e ∙ bytes-keep r) in omega arith)
      go (cut a b c d) e (f, g, h, k) w = (
        cutting_bytes b ++ (cutting_bytes c ++ (cutting_bytes d ++ r)),
        record { cutting = a; fits = f; within = omega arith; bytes = tail-is (e ∙ bytes_cut a b c d r) },
        (
          cutting_bytes c ++ (cutting_bytes d ++ r),
          record { cutting = b; fits = g; within = omega arith; bytes = refl },
          (
            cutting_bytes d ++ r,
            record { cutting = c; fits = h; within = omega arith; bytes = refl },
            (r, record { cutting = d; fits = k; within = omega arith; bytes = refl }, refl),
          ),
        ),
      )

  reads-one-more : (n : ℕ) (v : List ℤ) (l r : List ℕ) → InTurn S n v (quarters_from 0) l r → Reads S (suc n) v (1 ∷ l) r
  unfolding depth
  reads-one-more n v l r (m1, p1, (m2, p2, (m3, p3, (m4, p4, e)))) =
      record {
        cutting = cut p1.cutting p2.cutting p3.cutting p4.cutting;
        fits = (p1.fits, p2.fits, p3.fits, p4.fits);
        within = omega (arith, p1.within, p2.within, p3.within, p4.within);
        bytes = ap (λ (x : List ℕ). 1 ∷ x) (p1.bytes
            ∙ ap (λ (x : List ℕ). cutting_bytes p1.cutting ++ x) (p2.bytes
            ∙ ap (λ (x : List ℕ). cutting_bytes p2.cutting ++ x) (p3.bytes
            ∙ ap (λ (x : List ℕ). cutting_bytes p3.cutting ++ x) (p4.bytes ∙ ap (λ (x : List ℕ). cutting_bytes p4.cutting ++ x) e))))
            ∙ sym (bytes_cut p1.cutting p2.cutting p3.cutting p4.cutting r);
      }

  -- ---- as the code takes it: the cell's bytes stand in l from the place `at` on
  module _ (n : ℕ) (v : List ℤ) (l : List ℕ) (at : ℕ) where
    abbrev Cell : List ℕ → Type 0
    Cell rest = Reads S n v (drop at l) rest

    pub ended : length l ≤ at → Checked Cell l None
    ended h rest p = nothing-reads n v rest (subst (λ (m : List ℕ). Reads S n v m rest) (past_end l at h) p)

    by_byte : {x : ℕ} → at < length l → get_or l at 0 ≡ x → drop at l ≡ x ∷ drop (at + 1) l
    by_byte h e = at_place l at h ∙ ap (λ (x : ℕ). x ∷ drop (at + 1) l) e

    pub kept : at < length l → get_or l at 0 ≡ 0 → pass S v ≡ true → Checked Cell l (Some (at + 1))
    unfolding depth
    kept h e t = (omega arith, record { cutting = keep; fits = true-T t; within = zero-le; bytes = by_byte h e ∙ sym (bytes-keep (drop (at + 1) l)) })

    pub not-kept : at < length l → get_or l at 0 ≡ 0 → pass S v ≡ false → Checked Cell l None
    not-kept h e t rest p = T_false (pass S v) t (zero-reads n v (drop (at + 1) l) rest (subst (λ (m : List ℕ). Reads S n v m rest) (by_byte h e) p))

    pub other_byte : at < length l → ¬ (get_or l at 0 ≡ 0) → ¬ (get_or l at 0 ≡ 1) ⊎ (n ≡ 0) → Checked Cell l None
    other_byte h f k rest p =
        other-reads n v (get_or l at 0) (drop (at + 1) l) rest f k (subst (λ (m : List ℕ). Reads S n v m rest) (at_place l at h) p)

    pub quartered : (r : Option ℕ) → at < length l → get_or l at 0 ≡ 1 → ¬ (n ≡ 0)
        → Checked (λ rest. InTurn S (n - 1) v (quarters_from 0) (drop (at + 1) l) rest) l r
        → Checked Cell l r
    quartered (Some b) h e k (w, p) =
        let f : n ≡ suc (n - 1) = omega arith in (
          w,
          subst (λ (m : List ℕ). Reads S n v m (drop b l)) (sym (by_byte h e))
              (subst (λ (m : ℕ). Reads S m v (1 ∷ drop (at + 1) l) (drop b l)) (sym f) (reads-one-more (n - 1) v (drop (at + 1) l) (drop b l) p)),
        )
    quartered None h e k p = λ rest q. p rest (one-reads n v (drop (at + 1) l) rest (subst (λ (m : List ℕ). Reads S n v m rest) (by_byte h e) q))

  -- ---- the quarters from i on
  module _ (n : ℕ) (v : List ℤ) (l : List ℕ) (at i : ℕ) where
    abbrev Rest : List ℕ → Type 0
    Rest rest = InTurn S n v (quarters_from i) (drop at l) rest

    pub none_left : i ≡ 4 → at ≤ length l → Checked Rest l (Some at)
    none_left e h = (h, rw e refl)

    -- what the checker of quarter i answered, by the arm of the code
    pub answered : (w : List ℤ) {r s : Option ℕ} → r ≡ s → Checked (λ rest. Reads S n w (drop at l) rest) l r → Checked (λ rest. Reads S n w (drop at l) rest) l s
    answered w e p = subst (λ (r : Option ℕ). Checked (λ rest. Reads S n w (drop at l) rest) l r) e p

    pub one-failed : {w : List ℤ} → i < 4 → w ≡ cut_to S (four_of i) v → Checked (λ rest. Reads S n w (drop at l) rest) l None → Checked Rest l None
    one-failed h e p rest q =
        let (m, r, s) = subst (λ (qs : List Four). InTurn S n v qs (drop at l) rest) (from_more i h) q in
        p m (subst (λ (w : List ℤ). Reads S n w (drop at l) m) (sym e) r)

    pub one_more : {w : List ℤ} (b : ℕ) (r : Option ℕ) → i < 4 → w ≡ cut_to S (four_of i) v
        → Checked (λ rest. Reads S n w (drop at l) rest) l (Some b)
        → Checked (λ rest. InTurn S n v (quarters_from (i + 1)) (drop b l) rest) l r
        → Checked Rest l r
    one_more b (Some d) h e (k, p) (j, q) = (
      j,
      subst (λ (qs : List Four). InTurn S n v qs (drop at l) (drop d l)) (sym (from_more i h))
          (drop b l, subst (λ (w : List ℤ). Reads S n w (drop at l) (drop b l)) e p, q),
    )
    one_more b None h e (k, p) q = λ rest u.
        let (m, r, s) = subst (λ (qs : List Four). InTurn S n v qs (drop at l) rest) (from_more i h) u in
        q rest (subst (λ (x : List ℕ). InTurn S n v (quarters_from (i + 1)) x rest)
        (reads-one r (subst (λ (w : List ℤ). Reads S n w (drop at l) (drop b l)) e p)) s)
