-- The formula of 01 on vectors is the code's on coordinates.
--   value-sum   : a control value is its sum of relation 27, weighed
--   value-is    : the same of what the code holds: w the weight of value (i, j), l the sums
--   combine9-is : the control values
-- Assumes nothing.
use mathlib.Core.Path.{◌≡◌, refl, sym, ◌∙◌, ap, ap₂}
use mathlib.Core.Bool.{Bool, true, false}
use mathlib.Core.List.{List}
use Prim.Native.Nat.{ℕ, ◌+◌, ◌*◌, ◌/◌, ◌%◌, ◌<◌}
use native.Mathlib.Omega.{arith}
use lib.Dec.{lit≤}
use lib.IntN.{ℤ, pos, ◌*ℤ◌}
use mir.Syntax.{w64}
use mir.Val.{to_z, of_z}
use Rattle.algebra.specs.Within.{Is, Each}
use Rattle.algebra.proofs.Within.{each-as, got, named, i-mul}
use Rattle.algebra.proofs.Fill.{get_d-list_to}
use Rattle.forms.specs.Binomials.{choose}
use Rattle.element.specs.Plane.{Vec}
use Rattle.element.specs.Origin.{from_first, Inside}
use Rattle.element.proofs.Origin.{values-first}
use Rattle.element.specs.Control.{at, value, control_values}
use Rattle.element.specs.Paper.{relation27}
use Rattle.points.specs.Points.{Ten, coordinates}
use Rattle.quad.specs.Points.{quad_kind, gap, points9, grid, sums9, combine9}
use Rattle.quad.proofs.Binomials.{ninth-is}
use Rattle.quad.proofs.Terms.{place-column, place-row}
use Rattle.quad.proofs.Nest.{so-far-whole, so-far-small}

pub value-sum : (R : ℕ → ℕ → Vec) (I J : ℕ) → value R I J ≡ pos (9 / (choose 3 I * choose 3 J)) *ℤ relation27 R I J
unfolding value relation27
value-sum R I J = refl

-- nine times the 62 terms of `so-far-small`
pub value-is : {u v : List ℤ} → Ten 786432 u → Ten 786432 v
    → (i j : ℕ) → i < 4
    → j < 4
    → {w : ℤ} {l : List ℤ} → w ≡ pos (9 / (choose 3 i * choose 3 j))
    → l ≡ sums9 u v
    → let k = i + 4 * j in
    Is 11043494789382144 (value (grid u v) (k % 4) (k / 4)) (to_z w64 (of_z w64 w) *ℤ to_z w64 (of_z w64 (at l k)))
value-is {u} {v} p q i j a b {w} {l} e f =
    named (i-mul (got e (ninth-is (choose 3 i * choose 3 j)).within tt) (got (ap (λ m. at m k) f) (small.at k) tt))
    (ap₂ ◌*ℤ◌ weight (get_d-list_to 16 (λ k. relation27 (grid u v) (k % 4) (k / 4)) k (omega arith)) ∙ sym (value-sum (grid u v) (k % 4) (k / 4)))
  where
    k : ℕ
    k = i + 4 * j

    small : Each 1227054976598016 (sums9 u v)
    small = each-as (sym (so-far-whole (grid u v))) (so-far-small p q 2 0 0 0 (lit≤ tt) (lit≤ tt) (lit≤ tt) (lit≤ tt))

    weight : pos (9 / (choose 3 i * choose 3 j)) ≡ pos (9 / (choose 3 (k % 4) * choose 3 (k / 4)))
    weight = ap₂ (λ I J. pos (9 / (choose 3 I * choose 3 J))) (sym (place-column i j a)) (sym (place-row i j a))

formula : (xs : List ℤ) (b : Bool)
    → combine9 (points9 (coordinates xs (gap b) 0) b) (points9 (coordinates xs (gap b) 1) b) ≡ control_values (quad_kind b) xs
unfolding control_values value
formula xs true = refl
formula xs false = refl

-- and it does not move with the origin
pub combine9-is : (xs : List ℤ) (b : Bool) → Inside (quad_kind b) xs
    → combine9 (points9 (coordinates (from_first xs) (gap b) 0) b) (points9 (coordinates (from_first xs) (gap b) 1) b) ≡ control_values (quad_kind b) xs
combine9-is xs b p = formula (from_first xs) b ∙ values-first (quad_kind b) xs p.long
