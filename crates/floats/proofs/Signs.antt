-- A size and a sign.
--   signed-size, signed_parts : its size is that; what has one value has one size, and one sign unless it is zero
--   signed-zero   : zero has no sign
--   signed-times  : a product
--   signed-cancel : a factor cancels
-- Assumes nothing.
use mathlib.Core.Path.{◌≡◌, refl, sym, ap, ◌∙◌}
use mathlib.Core.Logic.{◌⊎◌, inl, inr}
use mathlib.Core.Bool.{Bool, true, false}
use Prim.Native.Nat.{ℕ, zero, suc, ◌*◌, ◌<◌}
use native.Mathlib.Nat.{zero-mul, mul-pos, zero-lt-suc, eq_of_mul-eq-mul_right}
use native.Mathlib.Omega.{arith}
use lib.IntN.{pos, neg_ℤ, nat_abs, ◌*ℤ◌, pos-ne-negsuc}
use Rattle.algebra.proofs.Size.{size-neg}
use Rattle.floats.specs.Values.{signed}

pub signed-size : (s : Bool) (n : ℕ) → nat_abs (signed s n) ≡ n
signed-size false n = refl
signed-size true n = size-neg (pos n)

pub signed-zero : (s t : Bool) → signed s 0 ≡ signed t 0
signed-zero false false = refl
signed-zero false true = refl
signed-zero true false = refl
signed-zero true true = refl

-- a number above 0 is no number's negative
not-below : (a b : ℕ) → pos a ≡ neg_ℤ (pos b) → a ≡ 0
not-below a zero h = ap nat_abs h
not-below a (suc b) h = absurd (pos-ne-negsuc a b h)

pub signed_parts : (s t : Bool) (a b : ℕ) → signed s a ≡ signed t b → (a ≡ b) × ((s ≡ t) ⊎ (a ≡ 0))
signed_parts s t a b h = (same, go s t h)
  where
    same : a ≡ b
    same = sym (signed-size s a) ∙ ap nat_abs h ∙ signed-size t b

    go : (s t : Bool) → signed s a ≡ signed t b → (s ≡ t) ⊎ (a ≡ 0)
    go false false h = inl refl
    go true true h = inl refl
    go false true h = inr (not-below a b h)
    go true false h = inr (same ∙ not-below b a (sym h))

pub signed-times : (s : Bool) (k c : ℕ) → signed s k *ℤ pos c ≡ signed s (k * c)
signed-times false k c = refl
signed-times true zero c = ap pos (zero-mul c) ∙ ap (λ (n : ℕ). neg_ℤ (pos n)) (sym (zero-mul c))
signed-times true (suc k) c = refl

pub signed-cancel : (s t : Bool) (a b c : ℕ) → 0 < c → signed s (a * c) ≡ signed t (b * c) → signed s a ≡ signed t b
signed-cancel s t a b c p h =
    let (e, w) = signed_parts s t (a * c) (b * c) h in
    go (eq_of_mul-eq-mul_right c p a b e) w
  where
    nothing : (a : ℕ) → a * c ≡ 0 → a ≡ 0
    nothing zero z = refl
    nothing (suc a) z = absurd (let q = mul-pos (zero-lt-suc a) p in omega arith)

    go : a ≡ b → (s ≡ t) ⊎ (a * c ≡ 0) → signed s a ≡ signed t b
    go e (inl q) = ap (λ (u : Bool). signed u a) q ∙ ap (signed t) e
    go e (inr z) = let o = nothing a z in ap (signed s) o ∙ signed-zero s t ∙ ap (signed t) (sym o ∙ e)
