-- 1024 times a float of at most 2^21 in size is a float, exactly: nothing is rounded.
--   factor  == 1024
--   product : the product has the value 1024 times that of the float
-- Assumes nothing.
use Rattle.std.proofs.Common.{◌≡◌, ℕ, zero, suc, ◌+◌, ◌-◌, ◌*◌, ◌%◌, ◌^◌, ◌<◌, ◌≤◌, Bool, true, false, ◌&&◌, eqb, ltb, leb, ℤ, pos, negsuc, sym, ap, ◌∙◌, subst, suc-le-suc, le_trans, le_of_eq, lt_of_le_of_lt, mul-le-mul_right, mul_assoc, one-mul, lt_of_not-le, mul-one, mul_right_comm, not-le_of_lt, le_of_mul-le-mul_right, arith, lit<, lit≤, eqb→eq, ltb→lt, leb→le, pow-add}
use lib.Pow.{pow-lt}
use lib.Ieee.{Float, fin, binary64, up, down, round, mul, fits}
use lib.Ieee.Fits.{down_pos, and_l, and_r}
use lib.Ieee.Exact.{HasValue, round_exact}
use Rattle.floats.specs.Values.{F64}

abbrev pub factor : Float
factor = fin false 1 (pos 10)

-- the digits of a value of f64, and its exponent: no lower than the format's lowest
digits : (s : Bool) (m : ℕ) (e : ℤ) → F64 (fin s m e) → (m < 2 ^ 53) × (down e ≤ 2 ^ 1074)
unfolding fits
digits s zero (pos k) t = (lit< tt, lit≤ tt)
digits s zero (negsuc k) t = (lit< tt, le_trans (le_of_eq (sym (one-mul (2 ^ suc k)) ∙ eqb→eq (1 * 2 ^ suc k) 1 t)) (lit≤ tt))
digits s (suc m) e t =
    let a = eqb (suc m % 2) 1 in
    let b = ltb (suc m) (2 ^ 53) in
    let c = leb (down e) (2 ^ 1074) in
    let u = and_l (a && b && c) (ltb (suc m * up e) (2 ^ 1024 * down e)) t in
    (ltb→lt (suc m) (2 ^ 53) (and_r a b (and_l (a && b) c u)), leb→le (down e) (2 ^ 1074) (and_r (a && b) c u))

-- 1024 times 2^e is a power of two, in units of the format's smallest value
unit : (e : ℤ) → down e ≤ 2 ^ 1074 → (j : ℕ) × (up e * 1024 * 2 ^ 1074 ≡ 2 ^ j * down e)
unit (pos k) h = (k + 10 + 1074, sym (mul-one (2 ^ (k + 10 + 1074)) ∙ pow-add 2 (k + 10) 1074 ∙ ap (λ (n : ℕ). n * 2 ^ 1074) (pow-add 2 k 10)))
unit (negsuc k) h =
    let r : k < 1074 = lt_of_not-le (λ (g : 1074 ≤ k). not-le_of_lt (pow-lt {i = 1074} {j = suc k} (suc-le-suc g)) h) in
    let e : 10 + (1074 - suc k) + suc k ≡ 1084 = omega arith in
    (10 + (1074 - suc k), ap (λ (n : ℕ). 2 ^ n) (sym e) ∙ pow-add 2 (10 + (1074 - suc k)) (suc k))

bound : (a d x p : ℕ) → a ≤ 2097152 * d → a * 1024 * p ≡ x → x ≤ 2147483648 * p * d
bound a d x p b h =
    let k : a * 1024 ≤ 2147483648 * d = omega arith in
    le_trans (le_of_eq (sym h)) (le_trans (mul-le-mul_right p k) (le_of_eq (mul_right_comm 2147483648 d p)))

rounded : (s : Bool) (m : ℕ) (e : ℤ) → F64 (fin s m e) → m * up e ≤ 2097152 * down e
    → HasValue (round binary64 s (m * up e * 1024) (down e * 1)) s (m * up e * 1024) (down e)
rounded s m e t b =
    let (few, deep) = digits s m e t in
    let (j, u) = unit e deep in
    let h : m * up e * 1024 * 2 ^ 1074 ≡ m * 2 ^ j * down e =
    ap (λ (n : ℕ). n * 2 ^ 1074) (mul_assoc m (up e) 1024) ∙ mul_assoc m (up e * 1024) (2 ^ 1074) ∙ ap (λ (n : ℕ). m * n) u ∙ sym (mul_assoc m (2 ^ j) (down e)) in
    let w : m * 2 ^ j * down e ≤ 2147483648 * 2 ^ 1074 * down e = bound (m * up e) (down e) (m * 2 ^ j * down e) (2 ^ 1074) b h in
    subst (λ (d : ℕ). HasValue (round binary64 s (m * up e * 1024) d) s (m * up e * 1024) (down e)) (sym (mul-one (down e)))
    (round_exact binary64 s (m * up e * 1024) (down e) m j (down_pos e) few (lt_of_le_of_lt (le_of_mul-le-mul_right w (down_pos e)) (lit< tt)) h)

pub product : (s : Bool) (m : ℕ) (e : ℤ) → F64 (fin s m e) → m * up e ≤ 2097152 * down e
    → HasValue (mul binary64 (fin s m e) factor) s (m * up e * 1024) (down e)
unfolding mul
product true m e t b = rounded true m e t b
product false m e t b = rounded false m e t b
