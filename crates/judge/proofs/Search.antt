-- The least number that passes a test, among n numbers from s on.
--   least f s n      : what computes
--   least-is         : it is the least, or there is none
-- Assumes nothing.
use mathlib.Core.Path.{◌≡◌, refl}
use mathlib.Core.Bool.{Bool, true, false}
use mathlib.Core.Option.{Option, none, some}
use Prim.Native.Nat.{ℕ, zero, suc, ◌+◌, ◌≤◌, ◌<◌}
use native.Mathlib.Nat as N
use native.Mathlib.Omega.{arith}
use native.Mathlib.Decide.{dec_le}
use lib.Dec.{T}
use Rattle.algebra.proofs.Truth.{T_false}

unfoldable pub least : (ℕ → Bool) → ℕ → ℕ → Option ℕ
least f s zero = none
least f s (suc n) = elim (f s) [ true ↦ some s | false ↦ least f (suc s) n ]

module _ (f : ℕ → Bool) where
  abbrev pub IsLeast : ℕ → ℕ → Option ℕ → Type 0
  IsLeast s n none = (m : ℕ) → s ≤ m → m < s + n → ¬ T (f m)
  IsLeast s n (some k) = T (f k) × (s ≤ k) × (k < s + n) × ((m : ℕ) → s ≤ m → m < k → ¬ T (f m))

  least-here : (s n : ℕ) → f s ≡ true → least f s (suc n) ≡ some s
  unfolding least
  least-here s n e = rw (e, least)

  least_on : (s n : ℕ) → f s ≡ false → least f s (suc n) ≡ least f (suc s) n
  unfolding least
  least_on s n e = rw (e, least)

  not-below : (s k : ℕ) → f s ≡ false → ((m : ℕ) → suc s ≤ m → m < k → ¬ T (f m)) → (m : ℕ) → s ≤ m → m < k → ¬ T (f m)
  not-below s k e h m a b = go (dec_le (suc s) m)
    where
      go : Dec (suc s ≤ m) → ¬ T (f m)
      go (yes c) = h m c b
      go (no c) = let p : m ≡ s = omega arith in rw p (T_false (f s) e)

  least-later : (s n : ℕ) (o : Option ℕ) → f s ≡ false → IsLeast (suc s) n o → IsLeast s (suc n) o
  least-later s n none e h = not-below s (s + suc n) e (λ m a b. h m a (omega arith))
  least-later s n (some k) e (t, a, b, g) = (t, omega arith, omega arith, not-below s k e g)

  pub least-is : (n s : ℕ) → IsLeast s n (least f s n)
  least-is zero s = unfold least in λ m a b. absurd (omega (arith, N.add-zero s))
  least-is (suc n) s = go (f s) refl (least-is n (suc s))
    where
      go : (b : Bool) → f s ≡ b → IsLeast (suc s) n (least f (suc s) n) → IsLeast s (suc n) (least f s (suc n))
      go true e h = rw (least-here s n e) (rw e tt, N.le_refl s, omega arith, λ m a b. absurd (omega arith))
      go false e h = rw (least_on s n e) (least-later s n (least f (suc s) n) e h)
