-- What the tests of `find` tell.
--   Near x   == 1024 times x, formed by the machine, is exact: it is the whole number v where x is v / 1024, and v is an i32
--   near     : so it is of a float from -2^21 up to 2^21
--   found, missed : the whole part, taken to a float again, equals it exactly where x stands for a whole number
-- Assumes nothing.
use Rattle.std.proofs.Common.{◌≡◌, ◌*◌, ◌^◌, true, false, ℤ, sym, ap, ◌∙◌, subst, mul-one, arith, lit<, lit≤}
use mathlib.Core.Bool.{false≢true}
use lib.Ieee.{Float, nan, inf, fin, binary64, up, down, mul, lt, eq, to_signed}
use lib.Ieee.Fits.{down_pos}
use Rattle.algebra.specs.Within.{Within}
use Rattle.algebra.proofs.Within.{within-≤}
use Rattle.floats.specs.Values.{F64, signed, IsWhole, exact}
use Rattle.floats.proofs.Values.{over-same, same_over, value-over, over-value, same-eq, eq-same}
use Rattle.floats.proofs.Whole.{exact-is}
use Rattle.element.specs.Origin.{Held}
use Rattle.solver_grid.specs.Grid.{Is1024th, OnGrid, Stands}
use Rattle.solver_grid.proofs.Product.{factor, product}
use Rattle.solver_grid.proofs.Whole.{Small, small_of, cut-within, cut-whole}
use Rattle.solver_grid.proofs.Range.{leftmost, rightmost, fin-held, range_size}

abbrev pub times : Float → Float
times x = mul binary64 x factor

pub record Near (x : Float) : Type 0 where
  pub small : Small (times x)
  pub to : (v : ℤ) → Is1024th x v → IsWhole (times x) v
  pub back : (v : ℤ) → IsWhole (times x) v → Is1024th x v
  pub held : (v : ℤ) → Is1024th x v → Held v

pub near : (x : Float) → F64 x → lt x leftmost ≡ false → lt x rightmost ≡ true → Near x
unfolding lt
near nan f l r = absurd (false≢true r)
near (inf true) f l r = absurd (false≢true (sym l))
near (inf false) f l r = absurd (false≢true r)
near (fin s m e) f l r =
    let a = m * up e * 1024 in
    let b = range_size s m e l r in
    let val = product s m e f b in
    let p = down_pos e in
    record {
      small = small_of (times (fin s m e)) s a (down e) val p (omega arith);
      to = λ v h. value-over 1 s a (down e) v (times (fin s m e)) val p (ap (signed s) (mul-one a) ∙ h);
      back = λ v h. ap (signed s) (sym (mul-one a)) ∙ over-value 1 s a (down e) v (times (fin s m e)) val h;
      held = λ v h. fin-held s m e v h l r;
    }

-- n is the whole part
module _ (x : Float) (q : Near x) (n : ℤ) (g : n ≡ to_signed 63 (times x)) where
  pub part-within : Within (2 ^ 53) n
  part-within = rw g (within-≤ (cut-within (times x) q.small) (lit≤ tt))

  pub found : eq (exact n) (times x) ≡ true → OnGrid x n
  found h =
      let w = exact-is n part-within in
      let i = q.back n (same_over 1 (exact n) (times x) n (eq-same 1 n (exact n) (times x) w h) w) in
      record { is = i; held = q.held n i }

  pub missed : eq (exact n) (times x) ≡ false → ¬ Stands x
  missed h (v, o) =
      let w = q.to v o.is in
      let e : n ≡ v = g ∙ cut-whole (times x) v q.small w in
      let u : IsWhole (exact n) v = subst (IsWhole (exact n)) e (exact-is n part-within) in
      absurd (false≢true (sym h ∙ same-eq (exact n) (times x) (over-same 1 (exact n) (times x) v (lit< tt) u w)))
