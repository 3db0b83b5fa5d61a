-- Nothing is rounded: each operation of the machine gives, for every number that is accepted, the number that it is meant to.
--   times-exact    : 1024 times the float is the whole number
--   part-exact     : and so is its whole part
--   cast-exact     : a whole number that is an i32, taken to f64, is that number
--   quotient-exact : and over 1024 it is its 1024th
-- Assumes nothing.
use Rattle.std.proofs.Common.{◌≡◌, ℕ, ◌*◌, ◌≤◌, Bool, ℤ, pos, nat_abs, sym, refl, ap, ◌∙◌, le_trans, le_of_eq, mul-le-mul_right, mul-one, arith, lit≤}
use lib.Signed.{nat_abs-le}
use lib.Ieee.{Float, nan, inf, fin, binary64, up, down, round, mul, div, of_int, to_signed}
use lib.Ieee.Fits.{down_pos}
use Rattle.algebra.proofs.Size.{size-*}
use Rattle.algebra.proofs.Within.{within-≤}
use Rattle.floats.specs.Values.{F64, signed, IsWhole, exact}
use Rattle.floats.proofs.Signs.{signed-size}
use Rattle.floats.proofs.Values.{value-over}
use Rattle.floats.proofs.Whole.{exact-is}
use Rattle.element.specs.Origin.{Held}
use Rattle.solver_grid.specs.Grid.{Is1024th, OnGrid}
use Rattle.solver_grid.proofs.Product.{factor, product}
use Rattle.solver_grid.proofs.Quotient.{quotient}
use Rattle.solver_grid.proofs.Whole.{Small, small_of, cut-whole}

-- the machine's 1024
factor-is : exact (pos 1024) ≡ factor
unfolding of_int round
factor-is = refl

-- the size of v / 1024
pub th-size : (s : Bool) (m : ℕ) (e v : ℤ) → Is1024th (fin s m e) v → m * up e * 1024 ≡ nat_abs v * down e
th-size s m e v h = sym (signed-size s (m * up e * 1024)) ∙ ap nat_abs h ∙ size-* v (pos (down e))

module _ (s : Bool) (m : ℕ) (e v : ℤ) (f : F64 (fin s m e)) (g : OnGrid (fin s m e) v) where
  large : m * up e * 1024 ≤ 2147483648 * down e
  large = le_trans (le_of_eq (th-size s m e v g.is)) (mul-le-mul_right (down e) (nat_abs-le v g.held))

  fin-times : IsWhole (mul binary64 (fin s m e) factor) v × Small (mul binary64 (fin s m e) factor)
  fin-times =
      let a = m * up e * 1024 in
      let y = mul binary64 (fin s m e) factor in
      let val = product s m e f (omega (arith, large)) in
      (value-over 1 s a (down e) v y val (down_pos e) (ap (signed s) (mul-one a) ∙ g.is), small_of y s a (down e) val (down_pos e) large)

both : (x : Float) (v : ℤ) → F64 x → OnGrid x v → IsWhole (mul binary64 x factor) v × Small (mul binary64 x factor)
both nan v f g = absurd g.is
both (inf s) v f g = absurd g.is
both (fin s m e) v f g = fin-times s m e v f g

pub times-exact : (x : Float) (v : ℤ) → F64 x → OnGrid x v → IsWhole (mul binary64 x (exact (pos 1024))) v
times-exact x v f g = rw factor-is (both x v f g).0

pub part-exact : (x : Float) (v : ℤ) → F64 x → OnGrid x v → to_signed 63 (mul binary64 x (exact (pos 1024))) ≡ v
part-exact x v f g = rw factor-is (cut-whole (mul binary64 x factor) v (both x v f g).1 (both x v f g).0)

pub cast-exact : (v : ℤ) → Held v → IsWhole (exact v) v
cast-exact v h = exact-is v (within-≤ (record { size = nat_abs-le v h }) (lit≤ tt))

pub quotient-exact : (v : ℤ) → Held v → Is1024th (div binary64 (exact v) (exact (pos 1024))) v
quotient-exact v h = rw factor-is (quotient v h)
