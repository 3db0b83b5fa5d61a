-- The order of floats is that of the numbers that they are.
--   lt_order : finite floats compare as two whole numbers do
-- Assumes nothing.
use mathlib.Core.Path.{◌≡◌, refl, sym, ap}
use mathlib.Core.Bool.{Bool, true, false}
use Prim.Native.Nat.compare
use Prim.Native.Nat.{ℕ, zero, suc, ◌+◌, ◌*◌}
use native.Mathlib.Nat.{zero-add}
use native.Mathlib.Omega.{arith}
use borrow.Author.Tests.{lt-ltb, le-ltb}
use lib.Dec.{ltb, is_le}
use lib.IntN.{ℤ}
use lib.Signed.{lt_z}
use lib.Ieee.{fin, up, down, below, lt}
use Rattle.floats.specs.Values.{signed}

below-order : (s t : Bool) (a b : ℕ) → below s a t b ≡ lt_z (signed s a) (signed t b)
below-order false false a b = refl
below-order false true a zero = sym (le-ltb a 0 (omega arith))
below-order false true a (suc b) = refl
below-order true false zero b = ap (ltb 0) (zero-add b)
below-order true false (suc a) b = lt-ltb 0 (suc a + b) (omega arith)
below-order true true zero zero = refl
below-order true true zero (suc b) = le-ltb (suc b) 0 (omega arith)
below-order true true (suc a) zero = lt-ltb 0 (suc a) (omega arith)
below-order true true (suc a) (suc b) = ap is_le (compare.suc-suc (suc b) a)

pub lt_order : (s t : Bool) (m n : ℕ) (e d : ℤ)
    → lt (fin s m e) (fin t n d) ≡ lt_z (signed s (m * up e * down d)) (signed t (n * up d * down e))
unfolding lt
lt_order s t m n e d = below-order s t (m * up e * down d) (n * up d * down e)
