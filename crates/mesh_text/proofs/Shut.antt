-- Words and rows by example: what the grammar lets in, and what it shuts out (docs/GMSH.md, G1 to G3, G10, G14, G16, G17).
-- Each by computing the test, and by the law of Grammar that says what the test says.
--   Fraction w     == w is a decimal number, and no whole one
--   one-e-three, large_e, zero-e-zero, no-zeros, no-digits, one-half, last-digit : decimal numbers that are not whole
--   five-point-zero, plus-five, minus-zero, minus-seven : whole coordinates, with their values
--   not-a-number, no-exponent, sign-alone, point-alone, comma : no numbers
--   zeros-before, ten-digits, greatest : whole numbers, with their values
--   too-great, signed-number, slash, colon : none
--   minus-three, plus-three : tags
--   two-rows, form-feed : rows
-- Assumes nothing.
use mathlib.Core.Path.{◌≡◌, refl, sym, ◌∙◌, subst}
use mathlib.Core.Bool.{Bool, true, false, true≢false}
use mathlib.Core.List.{List, [], ◌∷◌}
use Prim.Native.Nat.{ℕ, ◌<◌}
use native.Mathlib.Omega.{arith}
use lib.IntN.{ℤ, pos, neg_ℤ}
use Rattle.mesh_text.specs.Rows.{in_class, lines, words, rows}
use Rattle.mesh_text.specs.Words.{Number, IsTag, IsNumber, WholeValue}
use Rattle.mesh_text.specs.Tests.{digits_b, number_of, unsigned, is_minus, tag_b, exponent_b, mantissa_b, number_b, point_b, whole_b, size_of, value_of}
use Rattle.mesh_text.proofs.Grammar.{number-true, number-of, tag-true, is-number-true, is-number-of, whole-true, whole_of}

clash : {b : Bool} → b ≡ true → b ≡ false → ⊥
clash e f = true≢false (sym e ∙ f)

-- ---- decimal numbers that are not whole
pub record Fraction (w : List ℕ) : Type 0 where
  pub number : IsNumber w
  pub no_value : (z : ℤ) → ¬ WholeValue w z

fraction-by : (w : List ℕ) → number_b w ≡ true → whole_b w ≡ false → Fraction w
fraction-by w e f = record { number = is-number-true w e; no_value = λ z h. clash (whole_of h).0 f }

-- 1e3
pub one-e-three : Fraction (49 ∷ 101 ∷ 51 ∷ [])
unfolding number_b mantissa_b exponent_b tag_b digits_b whole_b point_b unsigned in_class
one-e-three = fraction-by _ refl refl

-- 1.5E-3
pub large_e : Fraction (49 ∷ 46 ∷ 53 ∷ 69 ∷ 45 ∷ 51 ∷ [])
unfolding number_b mantissa_b exponent_b tag_b digits_b whole_b point_b unsigned in_class
large_e = fraction-by _ refl refl

-- 0e0
pub zero-e-zero : Fraction (48 ∷ 101 ∷ 48 ∷ [])
unfolding number_b mantissa_b exponent_b tag_b digits_b whole_b point_b unsigned in_class
zero-e-zero = fraction-by _ refl refl

-- 5.
pub no-zeros : Fraction (53 ∷ 46 ∷ [])
unfolding number_b mantissa_b exponent_b tag_b digits_b whole_b point_b unsigned in_class
no-zeros = fraction-by _ refl refl

-- .5
pub no-digits : Fraction (46 ∷ 53 ∷ [])
unfolding number_b mantissa_b exponent_b tag_b digits_b whole_b point_b unsigned in_class
no-digits = fraction-by _ refl refl

-- 0.5
pub one-half : Fraction (48 ∷ 46 ∷ 53 ∷ [])
unfolding number_b mantissa_b exponent_b tag_b digits_b whole_b point_b unsigned in_class
one-half = fraction-by _ refl refl

-- 5.01
pub last-digit : Fraction (53 ∷ 46 ∷ 48 ∷ 49 ∷ [])
unfolding number_b mantissa_b exponent_b tag_b digits_b whole_b point_b unsigned in_class
last-digit = fraction-by _ refl refl

-- ---- whole coordinates
whole_by : (w : List ℕ) → whole_b w ≡ true → {z : ℤ} → value_of w ≡ z → WholeValue w z
whole_by w e f = subst (WholeValue w) f (whole-true w e)

-- 5.0
pub five-point-zero : WholeValue (53 ∷ 46 ∷ 48 ∷ []) (pos 5)
unfolding whole_b point_b value_of size_of is_minus unsigned in_class
five-point-zero = whole_by _ refl refl

-- +5.000
pub plus-five : WholeValue (43 ∷ 53 ∷ 46 ∷ 48 ∷ 48 ∷ 48 ∷ []) (pos 5)
unfolding whole_b point_b value_of size_of is_minus unsigned in_class
plus-five = whole_by _ refl refl

-- -0
pub minus-zero : WholeValue (45 ∷ 48 ∷ []) (pos 0)
unfolding whole_b point_b value_of size_of is_minus unsigned in_class
minus-zero = whole_by _ refl refl

-- -7
pub minus-seven : WholeValue (45 ∷ 55 ∷ []) (neg_ℤ (pos 7))
unfolding whole_b point_b value_of size_of is_minus unsigned in_class
minus-seven = whole_by _ refl refl

-- ---- no numbers
no_number : (w : List ℕ) → number_b w ≡ false → ¬ IsNumber w
no_number w f h = clash (is-number-of h) f

-- nan
pub not-a-number : ¬ IsNumber (110 ∷ 97 ∷ 110 ∷ [])
unfolding number_b mantissa_b exponent_b tag_b digits_b unsigned in_class
not-a-number = no_number _ refl

-- 1e
pub no-exponent : ¬ IsNumber (49 ∷ 101 ∷ [])
unfolding number_b mantissa_b exponent_b tag_b digits_b unsigned in_class
no-exponent = no_number _ refl

-- -
pub sign-alone : ¬ IsNumber (45 ∷ [])
unfolding number_b mantissa_b exponent_b tag_b digits_b unsigned in_class
sign-alone = no_number _ refl

-- .
pub point-alone : ¬ IsNumber (46 ∷ [])
unfolding number_b mantissa_b exponent_b tag_b digits_b unsigned in_class
point-alone = no_number _ refl

-- 1,5
pub comma : ¬ IsNumber (49 ∷ 44 ∷ 53 ∷ [])
unfolding number_b mantissa_b exponent_b tag_b digits_b unsigned in_class
comma = no_number _ refl

-- ---- whole numbers
number_by : (w : List ℕ) {n : ℕ} → number_of w ≡ n → n < 4294967296 → Number w n
number_by w e h = subst (Number w) e (number-true w (subst (λ n. n < 4294967296) (sym e) h))

none-by : (w : List ℕ) → number_of w ≡ 4294967296 → (n : ℕ) → ¬ Number w n
none-by w e n h = omega (arith, e, number-of w n h, h.small)

-- 007
pub zeros-before : Number (48 ∷ 48 ∷ 55 ∷ []) 7
unfolding number_of digits_b in_class
zeros-before = number_by _ refl (omega arith)

-- 0123456789
pub ten-digits : Number (48 ∷ 49 ∷ 50 ∷ 51 ∷ 52 ∷ 53 ∷ 54 ∷ 55 ∷ 56 ∷ 57 ∷ []) 123456789
unfolding number_of digits_b in_class
ten-digits = number_by _ refl (omega arith)

-- 4294967295
pub greatest : Number (52 ∷ 50 ∷ 57 ∷ 52 ∷ 57 ∷ 54 ∷ 55 ∷ 50 ∷ 57 ∷ 53 ∷ []) 4294967295
unfolding number_of digits_b in_class
greatest = number_by _ refl (omega arith)

-- 4294967296
pub too-great : (n : ℕ) → ¬ Number (52 ∷ 50 ∷ 57 ∷ 52 ∷ 57 ∷ 54 ∷ 55 ∷ 50 ∷ 57 ∷ 54 ∷ []) n
unfolding number_of digits_b in_class
too-great = none-by _ refl

-- +7
pub signed-number : (n : ℕ) → ¬ Number (43 ∷ 55 ∷ []) n
unfolding number_of digits_b in_class
signed-number = none-by _ refl

-- the bytes beside the digits: / and :
pub slash : (n : ℕ) → ¬ Number (47 ∷ []) n
unfolding number_of digits_b in_class
slash = none-by _ refl

pub colon : (n : ℕ) → ¬ Number (58 ∷ []) n
unfolding number_of digits_b in_class
colon = none-by _ refl

-- ---- tags
-- -3
pub minus-three : IsTag (45 ∷ 51 ∷ [])
unfolding tag_b digits_b unsigned in_class
minus-three = tag-true _ refl

-- +3
pub plus-three : IsTag (43 ∷ 51 ∷ [])
unfolding tag_b digits_b unsigned in_class
plus-three = tag-true _ refl

-- ---- rows
-- "a b" CR LF LF TAB "c"
pub two-rows : rows (97 ∷ 32 ∷ 98 ∷ 13 ∷ 10 ∷ 10 ∷ 9 ∷ 99 ∷ []) ≡ ((97 ∷ []) ∷ (98 ∷ []) ∷ []) ∷ ((99 ∷ []) ∷ []) ∷ []
unfolding rows lines words
two-rows = refl

-- "a", form feed, "b"
pub form-feed : rows (97 ∷ 12 ∷ 98 ∷ []) ≡ ((97 ∷ 12 ∷ 98 ∷ []) ∷ []) ∷ []
unfolding rows lines words
form-feed = refl
