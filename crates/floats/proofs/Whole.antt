-- A whole number within 2^53 taken to f64 is that number.
--   in-float   : it has few enough digits
--   exact-is   : it is the number, by sign, mantissa and exponent
--   exact-zero : zero becomes plus zero
-- Assumes nothing.
use mathlib.Core.Path.{◌≡◌, refl}
use mathlib.Core.Bool.{true, false}
use Prim.Native.Nat.{suc, ◌^◌}
use lib.Dec.{T, le→leb, lt→ltb, lit<}
use lib.IntN.{ℤ, pos, negsuc}
use lib.Ieee.{binary64, round, of_int, in_float}
use lib.Ieee.Back.{round_whole}
use Rattle.algebra.specs.Within.{Within}
use Rattle.floats.specs.Values.{IsWhole, exact, zero_of}
use Rattle.floats.proofs.Values.{value-over}

pub in-float : (z : ℤ) → Within (2 ^ 53) z → T (in_float binary64 z)
unfolding in_float
in-float (pos n) h = le→leb n (2 ^ 53) h.size
in-float (negsuc n) h = lt→ltb n (2 ^ 53) h.size

pub exact-is : (z : ℤ) → Within (2 ^ 53) z → IsWhole (exact z) z
unfolding of_int
exact-is (pos n) h = value-over 1 false n 1 (pos n) (round binary64 false n 1) (round_whole binary64 false n h.size) (lit< tt) refl
exact-is (negsuc n) h = value-over 1 true (suc n) 1 (negsuc n) (round binary64 true (suc n) 1) (round_whole binary64 true (suc n) h.size) (lit< tt) refl

pub exact-zero : exact (pos 0) ≡ zero_of false
unfolding of_int round
exact-zero = refl
