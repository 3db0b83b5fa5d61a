-- The size of a whole number, nat_abs, under negation, sums and products.
--   size-neg, size-+, size-*  : of a negation, a sum, a product
--   size-≤, size-≥, size_of   : a size is a pair of bounds
-- Assumes nothing.
use mathlib.Core.Path.{◌≡◌, refl}
use Prim.Native.Nat.{ℕ, zero, suc, ◌+◌, ◌*◌, ◌-◌, ◌<◌, ◌≤◌, suc-le-suc}
use native.Mathlib.Nat as N
use native.Mathlib.Omega.{arith}
use lib.Dec.{leb→le, le→leb}
use lib.IntN.{ℤ, pos, negsuc, neg_ℤ, nat_abs, sub_ℕ, ◌+ℤ◌, ◌*ℤ◌}
use lib.Signed.{◌≤ℤ◌, le_z_yes}
use Rattle.algebra.proofs.Order.{subℕ-ind, 0≤pos}

pub size-neg : (z : ℤ) → nat_abs (neg_ℤ z) ≡ nat_abs z
size-neg (pos zero) = refl
size-neg (pos (suc n)) = refl
size-neg (negsuc n) = refl

size-subℕ : (a b : ℕ) → nat_abs (sub_ℕ a b) ≤ a + b
size-subℕ a b = subℕ-ind a b (λ z. nat_abs z ≤ a + b) (λ l. omega arith) (λ l. omega arith)

pub size-+ : (a b : ℤ) → nat_abs (a +ℤ b) ≤ nat_abs a + nat_abs b
size-+ (pos a) (pos b) = N.le_refl (a + b)
size-+ (pos a) (negsuc b) = size-subℕ a (suc b)
size-+ (negsuc a) (pos b) = omega (arith, size-subℕ b (suc a))
size-+ (negsuc a) (negsuc b) = omega arith

pub size-* : (a b : ℤ) → nat_abs (a *ℤ b) ≡ nat_abs a * nat_abs b
size-* (pos a) (pos b) = refl
size-* (pos a) (negsuc b) = size-neg (pos (a * suc b))
size-* (negsuc a) (pos b) = size-neg (pos (suc a * b))
size-* (negsuc a) (negsuc b) = refl

pub size-≤ : (z : ℤ) (n : ℕ) → nat_abs z ≤ n → z ≤ℤ pos n
size-≤ (pos a) n h = le_z_yes (le→leb a n h)
size-≤ (negsuc a) n h = le_z_yes tt

pub size-≥ : (z : ℤ) (n : ℕ) → nat_abs z ≤ n → neg_ℤ (pos n) ≤ℤ z
size-≥ (pos a) zero h = 0≤pos a
size-≥ (pos a) (suc n) h = le_z_yes tt
size-≥ (negsuc a) zero h = absurd (N.not-suc-le-zero h)
size-≥ (negsuc a) (suc n) h = le_z_yes (le→leb a n (N.le_of_suc-le-suc h))

pub size_of : (z : ℤ) (n : ℕ) → neg_ℤ (pos n) ≤ℤ z → z ≤ℤ pos n → nat_abs z ≤ n
size_of (pos a) n h k = leb→le a n k.le
size_of (negsuc a) zero h k = absurd h.le
size_of (negsuc a) (suc n) h k = suc-le-suc (leb→le a n h.le)
