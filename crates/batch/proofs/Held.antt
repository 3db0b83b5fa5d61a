-- The test whether numbers are i32, one after the other.
--   AllHeld xs k b == b says whether the first k of xs are all i32
--   held_none, held_more : none, and one more
--   held_all, held-some : all of them
--   held_of        : each number of a list of i32 is one
-- Assumes nothing.
use mathlib.Core.Path.{◌≡◌, sym, ◌∙◌, subst}
use mathlib.Core.Bool.{Bool, true, false, ◌&&◌}
use mathlib.Core.List.{List}
use Prim.Native.Nat.{ℕ, suc, ◌+◌, ◌<◌}
use native.Mathlib.Decide.{dec_le}
use native.Mathlib.Omega.{arith}
use borrow.Author.Tests.{leb-true, leb-false}
use lib.Dec.{T}
use lib.IntN.{ℤ, pos, negsuc}
use lib.ListN.{length}
use lib.Signed.{le_z, mag}
use Rattle.algebra.proofs.Sofar.{Sofar, sofar-none, sofar-more}
use Rattle.element.specs.Control.{at}
use Rattle.element.specs.Origin.{Held, Unheld}

abbrev NotHeld : ℤ → Type 0
NotHeld z = ¬ Held z

abbrev pub AllHeld : List ℤ → ℕ → Bool → Type 0
AllHeld xs k b = Sofar Held NotHeld xs k b

pub held_none : (xs : List ℤ) → AllHeld xs 0 true
held_none xs = sofar-none Held NotHeld xs

-- ---- one number
above-no : (x : ℤ) → le_z x (pos 2147483647) ≡ false → ¬ Held x
above-no (pos n) e h = absurd (omega (arith, leb-false n 2147483647 e))
above-no (negsuc n) e h = absurd (subst T e tt)

below-no : (x : ℤ) → le_z (negsuc 2147483647) x ≡ false → ¬ Held x
below-no (pos n) e h = absurd (subst T e tt)
below-no (negsuc n) e h = absurd (omega (arith, leb-false n 2147483647 e))

both_yes : (x : ℤ) → le_z x (pos 2147483647) ≡ true → le_z (negsuc 2147483647) x ≡ true → Held x
both_yes (pos n) e f = omega (arith, leb-true n 2147483647 e)
both_yes (negsuc n) e f = omega (arith, leb-true n 2147483647 f)

-- ---- one more
pub held_more : (xs : List ℤ) (k : ℕ) (all b d : Bool) → AllHeld xs k all
    → b ≡ le_z (at xs k) (pos 2147483647)
    → d ≡ le_z (negsuc 2147483647) (at xs k)
    → AllHeld xs (k + 1) ((all && b) && d)
held_more xs k all b d s e f =
    sofar-more Held NotHeld xs k all b d s
    (λ p q. both_yes (at xs k) (sym e ∙ p) (sym f ∙ q))
    (λ p. above-no (at xs k) (sym e ∙ p))
    (λ q. below-no (at xs k) (sym f ∙ q))

-- ---- all of them
pub held_all : (xs : List ℤ) {k : ℕ} {b : Bool} → AllHeld xs k b → k ≡ length xs → b ≡ true → ¬ Unheld xs
held_all xs s e h (i, l, f) = f (s.yes h i (omega arith))

pub held-some : (xs : List ℤ) {k : ℕ} {b : Bool} → AllHeld xs k b → k ≡ length xs → b ≡ false → Unheld xs
held-some xs s e h = let (m, u, v) = s.no h in (m, omega arith, v)

pub held_of : (xs : List ℤ) → ¬ Unheld xs → (i : ℕ) → i < length xs → Held (at xs i)
held_of xs f i h = go (dec_le (suc (mag (at xs i))) 2147483648)
  where
    go : Dec (Held (at xs i)) → Held (at xs i)
    go (yes l) = l
    go (no l) = absurd (f (i, h, l))
