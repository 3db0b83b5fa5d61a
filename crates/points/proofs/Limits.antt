-- The test of coordinates against a limit, one after the other.
--   InLimit xs n k b == b says whether the first k of xs are all within n
--   limit-none, limit-more : none, and one more
--   limit-each, limit-beyond : all of them
-- Assumes nothing.
use mathlib.Core.Path.{◌≡◌, sym, ◌∙◌, subst}
use mathlib.Core.Bool.{Bool, true, false, ◌&&◌}
use mathlib.Core.List.{List}
use Prim.Native.Nat.{ℕ, ◌+◌, ◌<◌}
use native.Mathlib.Nat as N
use native.Mathlib.Omega.{arith}
use lib.Dec.{T, leb, ltb, le→leb, lt→ltb}
use lib.IntN.{ℤ, pos, negsuc, neg_ℤ, nat_abs}
use lib.ListN.{length}
use lib.Signed.{le_z, lt_z, le_z_yes, lt_z_yes}
use Rattle.algebra.specs.Within.{Within, Each}
use Rattle.algebra.proofs.Truth.{true-T}
use Rattle.algebra.proofs.Within.{within_of, beyond-above, beyond-below, each_of}
use Rattle.algebra.proofs.Sofar.{Sofar, sofar-none, sofar-more}
use Rattle.element.specs.Control.{at}
use Rattle.element.specs.Refusals.{Beyond}

abbrev Larger : ℕ → ℤ → Type 0
Larger n z = n < nat_abs z

abbrev pub InLimit : List ℤ → ℕ → ℕ → Bool → Type 0
InLimit xs n k b = Sofar (Within n) (Larger n) xs k b

pub limit-none : (xs : List ℤ) (n : ℕ) → InLimit xs n 0 true
limit-none xs n = sofar-none (Within n) (Larger n) xs

-- a test of two whole numbers that fails
leb_no : (a b : ℕ) → leb a b ≡ false → T (ltb b a)
leb_no a b e = lt→ltb b a (N.lt_of_not-le (λ h. subst T e (le→leb a b h)))

le_z-no : (a b : ℤ) → le_z a b ≡ false → T (lt_z b a)
le_z-no (pos a) (pos b) e = leb_no a b e
le_z-no (pos a) (negsuc b) e = tt
le_z-no (negsuc a) (pos b) e = absurd (subst T e tt)
le_z-no (negsuc a) (negsuc b) e = leb_no b a e

pub limit-more : (xs : List ℤ) (n k : ℕ) (all b d : Bool) → InLimit xs n k all
    → b ≡ le_z (at xs k) (pos n)
    → d ≡ le_z (neg_ℤ (pos n)) (at xs k)
    → InLimit xs n (k + 1) ((all && b) && d)
limit-more xs n k all b d s e f =
    sofar-more (Within n) (Larger n) xs k all b d s
    (λ p q. within_of n (at xs k) (le_z_yes (true-T (sym f ∙ q))) (le_z_yes (true-T (sym e ∙ p))))
    (λ p. beyond-above n (at xs k) (lt_z_yes (le_z-no (at xs k) (pos n) (sym e ∙ p))))
    (λ q. beyond-below n (at xs k) (lt_z_yes (le_z-no (neg_ℤ (pos n)) (at xs k) (sym f ∙ q))))

pub limit-each : {xs : List ℤ} {n k : ℕ} {b : Bool} → InLimit xs n k b → k ≡ length xs → b ≡ true → Each n xs
limit-each s e h = each_of (λ m l. s.yes h m (omega arith))

pub limit-beyond : {xs : List ℤ} {n k : ℕ} {b : Bool} → InLimit xs n k b → k ≡ length xs → b ≡ false → Beyond n xs
limit-beyond s e h = let (m, u, v) = s.no h in (m, omega arith, v)
