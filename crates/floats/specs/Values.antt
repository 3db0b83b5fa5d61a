-- Which number a float is: by its own sign, mantissa and exponent, and by no operation on floats.
--   F64 x          == x is a value of f64
--   signed s n     == n, or its negative if s
--   IsOver n x v   == the float x is finite and is v / n
--   IsWhole x z    == it is the whole number z
--   SameNumber x y == both floats are finite, and one number
--   zero_of s       == plus zero, or minus zero if s
--   exact z        == the whole number z taken to f64; plus zero for zero
-- Definitions only.
use Rattle.std.specs.Prelude.{◌≡◌, Bool, true, false, ℕ, ◌*◌, T, ℤ, pos, neg_ℤ, ◌*ℤ◌, Float}
use Rattle.std.specs.Float.{nan, inf, fin, binary64}
use Rattle.std.specs.Float.Ieee.{up, down, fits, of_int}

-- of the ways to write a number, the one with an odd mantissa
abbrev pub F64 : Float → Type 0
F64 x = T (fits binary64 x)

abbrev pub signed : Bool → ℕ → ℤ
signed false n = pos n
signed true n = neg_ℤ (pos n)

-- fin s m e is ± m·2^e, and 2^e is up e / down e
abbrev pub IsOver : ℕ → Float → ℤ → Type 0
IsOver n nan v = ⊥
IsOver n (inf s) v = ⊥
IsOver n (fin s m e) v = signed s (m * up e * n) ≡ v *ℤ pos (down e)

abbrev pub IsWhole : Float → ℤ → Type 0
IsWhole x z = IsOver 1 x z

abbrev pub SameNumber : Float → Float → Type 0
SameNumber nan y = ⊥
SameNumber (inf s) y = ⊥
SameNumber (fin s m e) nan = ⊥
SameNumber (fin s m e) (inf t) = ⊥
SameNumber (fin s m e) (fin t n d) = signed s (m * up e * down d) ≡ signed t (n * up d * down e)

abbrev pub zero_of : Bool → Float
zero_of s = fin s 0 (pos 0)

abbrev pub exact : ℤ → Float
exact z = of_int binary64 z
