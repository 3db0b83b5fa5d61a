-- The control points of a triangle are small, and their determinants are 01's control values.
--   between-small, points6-ten : sizes
--   combine6-is      : the control values
-- Assumes nothing.
use mathlib.Core.Path.{◌≡◌, refl, ◌∙◌}
use mathlib.Core.List.{List}
use Prim.Native.Nat.{ℕ}
use lib.Dec.{lit≤}
use lib.IntN.{ℤ, pos, ◌*ℤ◌}
use Rattle.algebra.specs.Within.{Within}
use Rattle.algebra.proofs.Within.{within-pos, within--, within-*, within-≤, each_nil, each-cons}
use Rattle.element.specs.Kinds.{six}
use Rattle.element.specs.Control.{at, values6, control_values}
use Rattle.element.specs.Origin.{from_first, Inside}
use Rattle.element.proofs.Origin.{values-first}
use Rattle.points.specs.Points.{Ten, coordinates}
use Rattle.triangle.specs.Points.{between, points6, combine6}

pub between-small : {n : List ℤ} → Ten 131072 n → (m a b : ℕ) → Within 786432 (between n m a b)
between-small p m a b = within-- (within-- (within-* (within-pos 4) (p.each.at m)) (p.each.at a)) (p.each.at b)

pub points6-ten : {n : List ℤ} → Ten 131072 n → Ten 786432 (points6 n)
points6-ten {n} p =
    record {
      long = refl;
      each = each-cons (corner 0) (each-cons (corner 1) (each-cons (corner 2)
          (each-cons (between-small p 3 0 1) (each-cons (between-small p 4 1 2) (each-cons (between-small p 5 0 2)
          (each-cons none (each-cons none (each-cons none (each-cons none each_nil)))))))));
    }
  where
    corner : (k : ℕ) → Within 786432 (pos 2 *ℤ at n k)
    corner k = within-≤ (within-* (within-pos 2) (p.each.at k)) (lit≤ tt)

    none : Within 786432 (pos 0)
    none = within-≤ (within-pos 0) (lit≤ tt)

-- the formula of 01 on vectors is this one on coordinates, and does not move with the origin
formula : (xs : List ℤ) → combine6 (points6 (coordinates xs 9 0)) (points6 (coordinates xs 9 1)) ≡ values6 xs
unfolding values6
formula xs = refl

pub combine6-is : (xs : List ℤ) → Inside six xs
    → combine6 (points6 (coordinates (from_first xs) 9 0)) (points6 (coordinates (from_first xs) 9 1)) ≡ values6 xs
unfolding control_values
combine6-is xs p = formula (from_first xs) ∙ values-first six xs p.long
