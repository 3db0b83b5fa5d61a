-- Numbers that are tested one after the other, each by two comparisons.
--   Sofar P Q xs k b == b says whether the first k of xs have P, all of them; where not, one of them has Q
--   sofar-none, sofar-more : none, and one more
-- For any P and Q that the comparisons tell. Assumes nothing.
use mathlib.Core.Path.{◌≡◌, refl, sym, subst}
use mathlib.Core.Bool.{Bool, true, false, ◌&&◌}
use mathlib.Core.List.{List}
use Prim.Native.Nat.{ℕ, ◌+◌, ◌<◌}
use native.Mathlib.Omega.{arith}
use borrow.Author.Count.{below_more}
use lib.Dec.{T}
use lib.IntN.{ℤ, pos}
use lib.ListN.{get_or}

pub record Sofar (P Q : ℤ → Type 0) (xs : List ℤ) (k : ℕ) (b : Bool) : Type 0 where
  pub yes : b ≡ true → (m : ℕ) → m < k → P (get_or xs m (pos 0))
  pub no : b ≡ false → (m : ℕ) × (m < k) × Q (get_or xs m (pos 0))

module _ (P Q : ℤ → Type 0) (xs : List ℤ) where
  pub sofar-none : Sofar P Q xs 0 true
  sofar-none = record { yes = λ e m h. absurd (omega arith); no = λ e. absurd (subst T e tt) }

  pub sofar-more : (k : ℕ) (all b d : Bool) → Sofar P Q xs k all
      → (b ≡ true → d ≡ true → P (get_or xs k (pos 0)))
      → (b ≡ false → Q (get_or xs k (pos 0)))
      → (d ≡ false → Q (get_or xs k (pos 0)))
      → Sofar P Q xs (k + 1) ((all && b) && d)
  sofar-more k false b d s f g h =
      record { yes = λ e. absurd (subst T (sym e) tt); no = λ e. let (m, u, v) = s.no refl in (m, omega arith, v) }
  sofar-more k true false d s f g h = record { yes = λ e. absurd (subst T (sym e) tt); no = λ e. (k, omega arith, g refl) }
  sofar-more k true true false s f g h = record { yes = λ e. absurd (subst T (sym e) tt); no = λ e. (k, omega arith, h refl) }
  sofar-more k true true true s f g h = record { yes = λ e. below_more _ _ (s.yes refl) (f refl refl); no = λ e. absurd (subst T e tt) }
