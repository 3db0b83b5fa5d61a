-- A turn of the loop nest, in the machine's numbers.
--   stored k l r == what the code stores at place k, where l has the sums and r is the term
--   Turn R i1 i2 j1 j2 l r == it fits, and makes of l the sums after this turn
--   turn_is      : so it is, where l has the sums before this turn and r is its term
-- Assumes nothing.
use mathlib.Core.Path.{◌≡◌, ◌∙◌, ap, ap₂}
use mathlib.Core.List.{List}
use Prim.Native.Nat.{ℕ, ◌+◌, ◌≤◌}
use native.Mathlib.Omega.{arith}
use lib.IntN.{ℤ, ◌+ℤ◌}
use lib.ListN.{set}
use mir.Syntax.{w64}
use mir.Val.{SFits, to_z, of_z}
use Rattle.algebra.specs.Within.{Is}
use Rattle.algebra.proofs.Within.{got, st, fits, i-add}
use Rattle.element.specs.Plane.{Vec}
use Rattle.element.specs.Control.{at, term}
use Rattle.points.specs.Points.{Ten}
use Rattle.quad.specs.Points.{grid}
use Rattle.quad.proofs.Terms.{term-small}
use Rattle.quad.proofs.Nest.{home, so_far, so-far-store, so-far-small}

abbrev pub stored : ℕ → List ℤ → ℤ → ℤ
stored k l r = to_z w64 (of_z w64 (at l k)) +ℤ to_z w64 (of_z w64 r)

pub record Turn (R : ℕ → ℕ → Vec) (i1 i2 j1 j2 : ℕ) (l : List ℤ) (r : ℤ) : Type 0 where
  pub fits : SFits w64 (stored (home i1 i2 j1 j2) l r)
  pub next : set l (home i1 i2 j1 j2) (to_z w64 (of_z w64 (stored (home i1 i2 j1 j2) l r))) ≡ so_far R i1 i2 j1 (j2 + 1)

module _ {u v : List ℤ} (p : Ten 786432 u) (q : Ten 786432 v)
    (i1 i2 j1 j2 : ℕ) (a : i1 ≤ 1) (b : i2 ≤ 2) (c : j1 ≤ 2) (d : j2 ≤ 1) {l : List ℤ} {r : ℤ}
    (e : l ≡ so_far (grid u v) i1 i2 j1 j2) (f : r ≡ term (grid u v) (i1 + i2) (j1 + j2) i1 i2 j1 j2) where
  abbrev k : ℕ
  k = home i1 i2 j1 j2

  -- the 62 terms of `so-far-small`, and one
  sum_is : Is 1246846185897984 (at (so_far (grid u v) i1 i2 j1 j2) k +ℤ term (grid u v) (i1 + i2) (j1 + j2) i1 i2 j1 j2) (stored k l r)
  sum_is =
      i-add (got (ap (λ m. at m k) e) ((so-far-small p q i1 i2 j1 j2 (omega arith) (omega arith) (omega arith) (omega arith)).at k) tt)
      (got f (term-small p q (i1 + i2) (j1 + j2) i1 i2 j1 j2) tt)

  pub turn_is : Turn (grid u v) i1 i2 j1 j2 l r
  turn_is =
      record {
        fits = fits sum_is tt;
        next = ap₂ (λ m z. set m k z) e (st sum_is tt).same ∙ so-far-store (grid u v) i1 i2 j1 j2 (omega arith) (omega arith);
      }
