-- A whole number of at most 53 digits over 1024 is a float, exactly: nothing is rounded.
--   quotient : a float that is the whole number v, over 1024, is v / 1024
--   over-is  : so what the code forms is the f64 of the definitions
-- Assumes nothing.
use Rattle.std.proofs.Common.{◌≡◌, ℕ, suc, ◌+◌, ◌*◌, ◌^◌, ◌<◌, Bool, true, false, ℤ, pos, negsuc, sym, refl, ap, ◌∙◌, subst, lt_of_lt_of_le, mul_assoc, mul_comm, mul-pos, arith, lit<, lit≤, pow_mono}
use lib.Pow as Pow
use lib.Ieee.{Float, nan, inf, fin, binary64, up, down, round, div, of_int}
use lib.Ieee.Fits.{down_pos, div-fits}
use lib.Ieee.Exact.{HasValue, round_exact}
use lib.Ieee.Back.{round_whole}
use lib.Ieee.Scale.{round_same}
use Rattle.floats.specs.Values.{exact, zero_of}
use Rattle.floats.proofs.Values.{value-over}
use Rattle.element.specs.Origin.{Held}
use Rattle.solver_grid.specs.Grid.{Is1024th, Over}
use Rattle.solver_grid.proofs.Product.{factor}

-- k / 1024, in units of the format's smallest value
rounded : (s : Bool) (k : ℕ) → k < 2 ^ 53 → HasValue (round binary64 s k 1024) s k 1024
rounded s k h =
    round_exact binary64 s k 1024 k 1064 (lit< tt) h
    (lt_of_lt_of_le (shifted k h) (pow_mono {i = 1117} {j = 2098} (lit≤ tt)))
    (sym (mul_assoc k (2 ^ 1064) 1024))
  where
    shifted : (k : ℕ) → k < 2 ^ 53 → k * 2 ^ 1064 < 2 ^ (53 + 1064)
    shifted k h = Pow.shl_lt 53 1064 h

-- of a float with the value k
divided : (t s : Bool) (m : ℕ) (e : ℤ) (k : ℕ) → HasValue (fin t m e) s k 1 → k < 2 ^ 53
    → HasValue (round binary64 t (m * up e * 1) (1024 * down e)) s k 1024
divided t s m e k v h =
    subst (λ (x : Float). HasValue x s k 1024)
    (ap (λ (b : Bool). round binary64 b k 1024) (sym v.0)
    ∙ sym (round_same binary64 t (m * up e * 1) (1024 * down e) k 1024 (mul-pos (lit< tt) (down_pos e)) (lit< tt)
    (ap (λ (n : ℕ). n * 1024) v.1 ∙ mul_assoc k (down e) 1024 ∙ ap (λ (n : ℕ). k * n) (mul_comm (down e) 1024))))
    (rounded s k h)

div-1024 : (x : Float) (s : Bool) (k : ℕ) → HasValue x s k 1 → k < 2 ^ 53 → HasValue (div binary64 x factor) s k 1024
unfolding div
div-1024 nan s k v h = elim v [ ]
div-1024 (inf _) s k v h = elim v [ ]
div-1024 (fin true m e) s k v h = divided true s m e k v h
div-1024 (fin false m e) s k v h = divided false s m e k v h

pub quotient : (v : ℤ) → Held v → Is1024th (div binary64 (exact v) factor) v
unfolding of_int
quotient (pos n) h =
    value-over 1024 false n 1024 (pos n) (div binary64 (round binary64 false n 1) factor)
    (div-1024 (round binary64 false n 1) false n (round_whole binary64 false n (omega arith)) (omega arith)) (lit< tt) refl
quotient (negsuc n) h =
    value-over 1024 true (suc n) 1024 (negsuc n) (div binary64 (round binary64 true (suc n) 1) factor)
    (div-1024 (round binary64 true (suc n) 1) true (suc n) (round_whole binary64 true (suc n) (omega arith)) (omega arith)) (lit< tt) refl

plus-zero : div binary64 (exact (pos 0)) factor ≡ zero_of false
unfolding div of_int round
plus-zero = refl

pub over-is : (v : ℤ) → Held v → Over v (div binary64 (exact v) factor)
over-is v h =
    record {
      is = quotient v h;
      zero_plus = λ e. ap (λ (z : ℤ). div binary64 (exact z) factor) e ∙ plus-zero;
      of_f64 = div-fits binary64 (exact v) factor;
    }
