-- Vectors of the plane with whole coordinates (01: "det((a,b),(c,d)) = ad - bc").
--   Vec         == a pair x, y
--   a +ᵥ b, a -ᵥ b, k *ᵥ a == sum, difference, multiple
--   det a b     == the determinant
--   sum n f     == f 0 + .. + f (n - 1); sumᵥ n f the same of vectors
--   power z n   == z to the power n
--   sum3 n f    == the sum of f i j k over i + j + k = n; sum3ᵥ n f the same of vectors
-- Definitions only.
use Rattle.std.specs.Prelude.{ℕ, zero, suc, ◌-◌, ℤ, pos, ◌+ℤ◌, ◌-ℤ◌, ◌*ℤ◌}

pub record Vec : Type 0 where
  pub x : ℤ
  pub y : ℤ

infixl 6 ◌+ᵥ◌ ◌-ᵥ◌
infixl 7 ◌*ᵥ◌
abbrev pub ◌+ᵥ◌ : Vec → Vec → Vec
a +ᵥ b = record { x = a.x +ℤ b.x; y = a.y +ℤ b.y }

abbrev pub ◌-ᵥ◌ : Vec → Vec → Vec
a -ᵥ b = record { x = a.x -ℤ b.x; y = a.y -ℤ b.y }

abbrev pub ◌*ᵥ◌ : ℤ → Vec → Vec
k *ᵥ a = record { x = k *ℤ a.x; y = k *ℤ a.y }

abbrev pub det : Vec → Vec → ℤ
det a b = a.x *ℤ b.y -ℤ a.y *ℤ b.x

abbrev pub sum : ℕ → (ℕ → ℤ) → ℤ
sum zero f = pos 0
sum (suc n) f = sum n f +ℤ f n

abbrev pub sumᵥ : ℕ → (ℕ → Vec) → Vec
sumᵥ n f = record { x = sum n (λ i. (f i).x); y = sum n (λ i. (f i).y) }

abbrev pub sum3 : ℕ → (ℕ → ℕ → ℕ → ℤ) → ℤ
sum3 n f = sum (suc n) (λ i. sum (suc n - i) (λ j. f i j (n - i - j)))

abbrev pub sum3ᵥ : ℕ → (ℕ → ℕ → ℕ → Vec) → Vec
sum3ᵥ n f = record { x = sum3 n (λ i j k. (f i j k).x); y = sum3 n (λ i j k. (f i j k).y) }

abbrev pub power : ℤ → ℕ → ℤ
power z zero = pos 1
power z (suc n) = power z n *ℤ z
