-- The control points of a quad are small.
--   gap-pos : the gap is not at the first node
--   quad-first : differences from the first node are within twice the limit
--   edge-small, four-small, centre-small, points9-ten : of nodes within 4096
-- Assumes nothing.
use mathlib.Core.Path.{refl}
use mathlib.Core.Bool.{Bool, true, false}
use mathlib.Core.List.{List}
use Prim.Native.Nat.{ℕ, ◌<◌}
use lib.Dec.{lit≤, lit<}
use lib.IntN.{ℤ, pos, ◌*ℤ◌}
use Rattle.algebra.specs.Within.{Within, Each}
use Rattle.algebra.proofs.Within.{within-pos, within-+, within--, within-*, within-≤, each_nil, each-cons}
use Rattle.element.specs.Control.{at}
use Rattle.element.specs.Origin.{from_first, Inside}
use Rattle.element.proofs.Origin.{inside-first}
use Rattle.points.specs.Points.{Ten}
use Rattle.quad.specs.Points.{quad_kind, gap, edge, four, centre, points9}

pub gap-pos : (b : Bool) → 0 < gap b
gap-pos true = lit< tt
gap-pos false = lit< tt

pub quad-first : (b : Bool) {xs : List ℤ} → Inside (quad_kind b) xs → Each 4096 (from_first xs)
quad-first true p = inside-first p
quad-first false p = inside-first p

module _ {n : List ℤ} (p : Ten 4096 n) where
  pub edge-small : (m a b : ℕ) → Within 49152 (edge n m a b)
  edge-small m a b =
      within-- (within-- (within-* (within-pos 8) (p.each.at m)) (within-* (within-pos 2) (p.each.at a))) (within-* (within-pos 2) (p.each.at b))

  pub four-small : (a b c d : ℕ) → Within 16384 (four n a b c d)
  four-small a b c d = within-+ (within-+ (within-+ (p.each.at a) (p.each.at b)) (p.each.at c)) (p.each.at d)

  pub centre-small : (b : Bool) → Within 147456 (centre n b)
  centre-small true =
      within-≤ (within-- (within-* (within-pos 4) (four-small 1 3 5 7)) (within-* (within-pos 3) (four-small 0 2 6 8))) (lit≤ tt)
  centre-small false =
      within-+ (within-- (within-* (within-pos 16) (p.each.at 4)) (within-* (within-pos 4) (four-small 1 3 5 7))) (four-small 0 2 6 8)

  pub points9-ten : (b : Bool) → Ten 786432 (points9 n b)
  points9-ten b =
      record {
        long = refl;
        each = each-cons (corner 0) (each-cons (side 1 0 2) (each-cons (corner 2)
            (each-cons (side 3 0 6) (each-cons (within-≤ (centre-small b) (lit≤ tt)) (each-cons (side 5 2 8)
            (each-cons (corner 6) (each-cons (side 7 6 8) (each-cons (corner 8) (each-cons (within-≤ (within-pos 0) (lit≤ tt)) each_nil)))))))));
      }
    where
      corner : (k : ℕ) → Within 786432 (pos 4 *ℤ at n k)
      corner k = within-≤ (within-* (within-pos 4) (p.each.at k)) (lit≤ tt)

      side : (m a b : ℕ) → Within 786432 (edge n m a b)
      side m a b = within-≤ (edge-small m a b) (lit≤ tt)
