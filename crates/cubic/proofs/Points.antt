-- The control points of a ten-node triangle are small, and their determinants are 02's control values.
--   nodes-ten, nodes-are : the nodes along one axis
--   beside-small, corners-small, edges-small, inner-small, points10-ten : of nodes within 2048
--   combine10-is     : the control values
-- Assumes nothing.
use mathlib.Core.Path.{◌≡◌, refl, ◌∙◌}
use mathlib.Core.List.{List}
use Prim.Native.Nat.{ℕ, ◌+◌, ◌*◌}
use lib.Dec.{lit≤}
use lib.IntN.{ℤ, pos, ◌*ℤ◌}
use lib.ListN.{set}
use Rattle.algebra.specs.Within.{Within, Each}
use Rattle.algebra.proofs.Within.{within-pos, within-+, within--, within-*, within-≤, each_nil, each-cons, each_of}
use Rattle.algebra.proofs.Fill.{length-list_to, get_d-list_to}
use Rattle.element.specs.Kinds.{ten}
use Rattle.element.specs.Control.{at, control_values}
use Rattle.element.specs.Origin.{from_first, Inside}
use Rattle.element.proofs.Origin.{values-first}
use Rattle.element.specs.Cubic.{value10, values10}
use Rattle.points.specs.Points.{Ten, coordinates}
use Rattle.cubic.specs.Points.{nodes, beside, corners, edges, inner, points10, combine10}

pub nodes-ten : {n : ℕ} {xs : List ℤ} → Each n xs → (a : ℕ) → Ten n (nodes xs a)
nodes-ten {n} {xs} p a =
    record {
      long = length-list_to 10 (λ k. at xs (2 * k + a));
      each = each_of (λ k h. rw (get_d-list_to 10 (λ k. at xs (2 * k + a)) k h) (p.at (2 * k + a)));
    }

-- nine of them, and the last one
pub nodes-are : (xs : List ℤ) (a : ℕ) → set (coordinates xs 9 a) 9 (at xs (18 + a)) ≡ nodes xs a
nodes-are xs a = refl

module _ {n : List ℤ} (p : Ten 2048 n) where
  pub beside-small : (a m o b : ℕ) → Within 139264 (beside n a m o b)
  beside-small a m o b =
      within-* (within-pos 2) (within-+ (within-- (within-- (within-* (within-pos 18) (p.each.at m)) (within-* (within-pos 5) (p.each.at a))) (within-* (within-pos 9) (p.each.at o))) (within-* (within-pos 2) (p.each.at b)))

  pub corners-small : Within 6144 (corners n)
  corners-small = within-+ (within-+ (p.each.at 0) (p.each.at 1)) (p.each.at 2)

  pub edges-small : Within 12288 (edges n)
  edges-small =
      within-+ (within-+ (within-+ (within-+ (within-+ (p.each.at 3) (p.each.at 4)) (p.each.at 5)) (p.each.at 6)) (p.each.at 7)) (p.each.at 8)

  pub inner-small : Within 245760 (inner n)
  inner-small =
      within-- (within-+ (within-* (within-pos 54) (p.each.at 9)) (within-* (within-pos 4) corners-small)) (within-* (within-pos 9) edges-small)

  pub points10-ten : Ten 786432 (points10 n)
  points10-ten =
      record {
        long = refl;
        each = each-cons (corner 0) (each-cons (side 0 3 4 1) (each-cons (side 1 4 3 0) (each-cons (corner 1)
            (each-cons (side 0 8 7 2) (each-cons (within-≤ inner-small (lit≤ tt)) (each-cons (side 1 5 6 2)
            (each-cons (side 2 7 8 0) (each-cons (side 2 6 5 1) (each-cons (corner 2) each_nil)))))))));
      }
    where
      corner : (k : ℕ) → Within 786432 (pos 12 *ℤ at n k)
      corner k = within-≤ (within-* (within-pos 12) (p.each.at k)) (lit≤ tt)

      side : (a m o b : ℕ) → Within 786432 (beside n a m o b)
      side a m o b = within-≤ (beside-small a m o b) (lit≤ tt)

-- the formula of 02 on vectors is this one on coordinates, and does not move with the origin
formula : (xs : List ℤ) → combine10 (points10 (nodes xs 0)) (points10 (nodes xs 1)) ≡ values10 xs
unfolding values10 value10
formula xs = refl

pub combine10-is : (xs : List ℤ) → Inside ten xs
    → combine10 (points10 (nodes (from_first xs) 0)) (points10 (nodes (from_first xs) 1)) ≡ values10 xs
unfolding control_values
combine10-is xs p = formula (from_first xs) ∙ values-first ten xs p.long
