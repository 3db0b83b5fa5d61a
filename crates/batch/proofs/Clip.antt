-- A coordinate beyond 2^32 - 1 in size may be read as one of that size: no code notices, and what passes is what was written.
--   Clips m xs ys  == the numbers xs are ys, each clipped at m
--   clips-length, clips-more, clips-list : as many; one more; numbers that are given one by one
--   clips-unheld   : where one of ys is no i32 one of xs is none
--   clips-same     : where all are i32, they are the same
--   clips-stands   : so the clipped numbers stand for the others
-- Assumes nothing.
use mathlib.Core.Path.{◌≡◌, refl, ap, ap₂}
use mathlib.Core.List.{List, [], ◌∷◌, ◌++◌}
use Prim.Native.Nat.{ℕ, zero, suc, ◌≤◌, ◌<◌, min, zero-le, suc-le-suc}
use native.Mathlib.Nat as N
use native.Mathlib.Decide.{dec_le}
use native.Mathlib.Omega.{arith}
use lib.IntN.{ℤ, nat_abs}
use lib.ListN.{length}
use lib.Signed.{mag}
use Rattle.algebra.specs.Fill.{list_to}
use Rattle.element.specs.Kinds.{Kind}
use Rattle.element.specs.Origin.{Held, Unheld}
use Rattle.element.proofs.Ranges.{size_small, unheld-outside}
use Rattle.batch.specs.Stands.{Stands}

-- ---- lists of numbers
pub data Clips (m : ℕ) : List ℤ → List ℤ → Type 0 where
  no-clips : Clips m [] []
  clip : {x y : ℤ} {xs ys : List ℤ} → nat_abs x ≡ min m (nat_abs y) → (nat_abs y ≤ m → x ≡ y) → Clips m xs ys → Clips m (x ∷ xs) (y ∷ ys)

pub clips-length : {m : ℕ} {xs ys : List ℤ} → Clips m xs ys → length xs ≡ length ys
clips-length no-clips = refl
clips-length (clip e f c) = ap suc (clips-length c)

pub clips-more : {m : ℕ} {xs ys : List ℤ} {x y : ℤ}
    → Clips m xs ys
    → nat_abs x ≡ min m (nat_abs y)
    → (nat_abs y ≤ m → x ≡ y)
    → Clips m (xs ++ (x ∷ [])) (ys ++ (y ∷ []))
clips-more no-clips e f = clip e f no-clips
clips-more (clip d g c) e f = clip d g (clips-more c e f)

pub clips-list : {m : ℕ} (n : ℕ) (f g : ℕ → ℤ)
    → ((i : ℕ) → nat_abs (f i) ≡ min m (nat_abs (g i)))
    → ((i : ℕ) → nat_abs (g i) ≤ m → f i ≡ g i)
    → Clips m (list_to n f) (list_to n g)
clips-list zero f g e h = no-clips
clips-list (suc n) f g e h = clips-more (clips-list n f g e h) (e n) (h n)

-- ---- beyond i32
module _ {m : ℕ} (h : 2147483648 < m) where
  one-unheld : {x y : ℤ} → nat_abs x ≡ min m (nat_abs y) → (nat_abs y ≤ m → x ≡ y) → ¬ Held y → ¬ Held x
  one-unheld {x} {y} e f g = go (dec_le (nat_abs y) m)
    where
      go : Dec (nat_abs y ≤ m) → ¬ Held x
      go (yes l) k = g (rw (f l) at k)
      go (no l) k = absurd (omega (arith, e, N.lt_of_not-le l, size_small x, k))

  pub clips-unheld : {xs ys : List ℤ} → Clips m xs ys → Unheld ys → Unheld xs
  clips-unheld no-clips u = u
  clips-unheld (clip e f c) (zero, k, g) = (zero, suc-le-suc zero-le, one-unheld e f g)
  clips-unheld (clip e f c) (suc i, k, g) = let r = clips-unheld c (i, N.le_of_suc-le-suc k, g) in (suc r.0, suc-le-suc r.1, r.2)

  small : (y : ℤ) → ¬ ¬ Held y → nat_abs y ≤ m
  small y f = go (dec_le (suc (mag y)) 2147483648)
    where
      go : Dec (Held y) → nat_abs y ≤ m
      go (yes l) = omega (arith, size_small y, l)
      go (no l) = absurd (f l)

  pub clips-same : {xs ys : List ℤ} → Clips m xs ys → ¬ Unheld ys → xs ≡ ys
  clips-same no-clips n = refl
  clips-same (clip {y = y} e f c) n =
      ap₂ (λ (x : ℤ) (xs : List ℤ). x ∷ xs) (f (small y (λ g. n (zero, suc-le-suc zero-le, g))))
      (clips-same c (λ u. n (suc u.0, suc-le-suc u.1, u.2)))

  pub clips-stands : (k : Kind) {xs ys : List ℤ} → Clips m xs ys → Stands k xs ys
  clips-stands k {xs} c = record { same = clips-same c; far = λ u. unheld-outside k xs (clips-unheld c u) }
