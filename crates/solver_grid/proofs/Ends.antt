-- The ends of the range, and what lies outside it.
--   least-stands, greatest-stands : -2^21 stands for -2^31, and 2^21 - 1/1024 for 2^31 - 1
--   zero-stands   : both zeros stand for 0
--   beyond-off    : 2^21 falls outside i32
--   nan-off, inf-off : what is not a finite number stands for none
--   subnormal-off : nor does a subnormal number
--   subnormal-bits, normal-bits, zero_bits : which are those whose exponent's field is 0, zeros aside
--   ten-other     : kind 10 is none that is taken
-- Assumes nothing.
use Rattle.std.proofs.Common.{◌≡◌, ℕ, zero, suc, ◌+◌, ◌*◌, ◌^◌, ◌<◌, ◌≤◌, Bool, true, false, cond, eqb, ℤ, pos, negsuc, nat_abs, sym, refl, ◌∙◌, subst, inl, inr, lt_of_le_of_lt, mul-le-mul_right, mul-le-mul_left, mul-pos, arith, lit<, lit≤, pow_pos}
use native.Mathlib.Nat as N
use lib.Ieee.{Float, nan, inf, fin, binary64, up, down, odd, ones, of_fields}
use lib.Ieee.Fits.{down_pos, up_pos}
use lib.Ieee.Exact.{HasValue, odd_sign}
use lib.Ieee.Positive.{first_pos}
use Rattle.algebra.proofs.Truth.{cond_ind}
use Rattle.floats.specs.Values.{zero_of}
use Rattle.element.specs.Kinds.{NotStored}
use Rattle.solver_grid.specs.Grid.{OnGrid, Stands, Subnormal}
use Rattle.solver_grid.proofs.Exact.{th-size}
use Rattle.solver_grid.proofs.Numbers.{fault-off}

pub least-stands : OnGrid (fin true 1 (pos 21)) (negsuc 2147483647)
least-stands = record { is = refl; held = lit< tt }

-- 2^31 - 1 over 2^10
pub greatest-stands : OnGrid (fin false 2147483647 (negsuc 9)) (pos 2147483647)
greatest-stands = record { is = refl; held = lit< tt }

pub zero-stands : (s : Bool) → OnGrid (zero_of s) (pos 0)
zero-stands false = record { is = refl; held = lit< tt }
zero-stands true = record { is = refl; held = lit< tt }

pub beyond-off : ¬ Stands (fin false 1 (pos 21))
beyond-off =
    fault-off (fin false 1 (pos 21))
    (inr (inr (record { number = pos 2147483648; is = refl; unheld = λ h. N.lt_irrefl 2147483648 h })))

pub nan-off : ¬ Stands nan
nan-off = fault-off nan (inl tt)

pub inf-off : (s : Bool) → ¬ Stands (inf s)
inf-off s = fault-off (inf s) (inl tt)

pub subnormal-off : (x : Float) → Subnormal x → ¬ Stands x
subnormal-off nan x3 _ = elim x3 [ ]
subnormal-off (inf _) x5 _ = elim x5 [ ]
subnormal-off (fin s m e) (p, l) (v, g) = go (nat_abs v) (th-size s m e v g.is)
  where
    -- 1024 is below 2^1022
    tiny : m * up e * 1024 < down e
    tiny = lt_of_le_of_lt (mul-le-mul_left (m * up e) (lit≤ tt)) l

    some : 0 < m * up e
    some = mul-pos p (up_pos e)

    go : (k : ℕ) → m * up e * 1024 ≡ k * down e → ⊥
    go zero h = let z = h ∙ N.zero-mul (down e) in omega (arith, z, some)
    go (suc k) h = let q = N.suc-mul k (down e) in omega (arith, h, q, tiny)

-- ---- which floats are subnormal, by the fields of their bit pattern: the sign, the exponent and the digits
-- a float of t times the smallest value; 2^52 of them are 2^-1022
module _ (u : Bool) (m : ℕ) (e : ℤ) (s : Bool) (t : ℕ) (v : HasValue (fin u m e) s t (2 ^ 1074)) where
  times-least : m * up e * 2 ^ 1022 * 2 ^ 52 ≡ t * down e
  times-least = N.mul_assoc (m * up e) (2 ^ 1022) (2 ^ 52) ∙ v.1

  some : 0 < t → 0 < m
  some p = first_pos m (up e) (first_pos (m * up e) (2 ^ 1074) (subst (λ n. 0 < n) (sym v.1) (mul-pos p (down_pos e))))

  below : t < 2 ^ 52 → m * up e * 2 ^ 1022 < down e
  below l =
      N.lt_of_mul-lt-mul_right (2 ^ 52)
      (N.lt_of_lt_of_le (N.lt_of_le_of_lt (N.le_of_eq times-least) (N.mul-lt-mul_of_pos_right l (down_pos e))) (N.le_of_eq (N.mul_comm (2 ^ 52) (down e))))

  above : 2 ^ 52 ≤ t → down e ≤ m * up e * 2 ^ 1022
  above l =
      N.le_of_mul-le-mul_right
      (N.le_trans (N.le_of_eq (N.mul_comm (down e) (2 ^ 52))) (N.le_trans (mul-le-mul_right (down e) l) (N.le_of_eq (sym times-least)))) (lit< tt)

few : (x : Float) (s : Bool) (t : ℕ) → HasValue x s t (2 ^ 1074) → 0 < t → t < 2 ^ 52 → Subnormal x
few nan s t v p l = elim v [ ]
few (inf _) s t v p l = elim v [ ]
few (fin u m e) s t v p l = (some u m e s t v p, below u m e s t v l)

many : (x : Float) (s : Bool) (t : ℕ) → HasValue x s t (2 ^ 1074) → 2 ^ 52 ≤ t → ¬ Subnormal x
many nan s t v l _ = elim v [ ]
many (inf _) s t v l _ = elim v [ ]
many (fin u m e) s t v l (p, k) = N.not-le_of_lt k (above u m e s t v l)

pub subnormal-bits : (s : Bool) (t : ℕ) → 0 < t → t < 2 ^ 52 → Subnormal (of_fields binary64 s 0 t)
unfolding of_fields
subnormal-bits s t p l = few (odd 53 s t 0 1074) s (t * 2 ^ 0) (odd_sign 53 s t 0 1074) (rw (N.mul-one t) p) (rw (N.mul-one t) l)

pub normal-bits : (s : Bool) (x t : ℕ) → ¬ Subnormal (of_fields binary64 s (suc x) t)
unfolding of_fields
normal-bits s x t =
    cond_ind (eqb (suc x) (ones binary64)) (cond (eqb t 0) (inf s) nan) (odd 53 s (2 ^ 52 + t) x 1074) (λ y. ¬ Subnormal y)
    (λ h. cond_ind (eqb t 0) (inf s) nan (λ y. ¬ Subnormal y) (λ k n. n) (λ k n. n))
    (λ h. many (odd 53 s (2 ^ 52 + t) x 1074) s ((2 ^ 52 + t) * 2 ^ x) (odd_sign 53 s (2 ^ 52 + t) x 1074)
    (N.le_trans (N.le_trans (N.le_of_eq (sym (N.mul-one (2 ^ 52)))) (N.mul-le-mul_left (2 ^ 52) (pow_pos x))) (mul-le-mul_right (2 ^ x) (omega arith))))

pub zero_bits : (s : Bool) → of_fields binary64 s 0 0 ≡ zero_of s
unfolding of_fields odd
zero_bits s = refl

-- ---- kind 10 is none that a block holds
pub ten-other : NotStored 10
ten-other = ((λ e. omega arith), (λ e. omega arith), λ e. omega arith)
