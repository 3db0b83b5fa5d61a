-- One term of relation 27: to which sum it belongs, and how large it is.
--   place-column, place-row : the sum (I, J) stands at I + 4J
--   term-here      : a term, at its own sum
--   term-elsewhere : and nothing at any other
--   vector-small   : the code's vector between two points within 786432
--   term-small     : a term of such points
-- Assumes nothing.
use mathlib.Core.Path.{◌≡◌, refl, ap}
use mathlib.Core.Bool.{◌&&◌}
use mathlib.Core.List.{List}
use Prim.Native.Nat.{ℕ, ◌+◌, ◌*◌, ◌/◌, ◌%◌, ◌<◌}
use native.Mathlib.Omega.{arith}
use borrow.Author.Tests.{eq-eqb}
use lib.Dec.{lit≤, eqb, eqb→eq}
use lib.IntN.{ℤ, pos, ◌*ℤ◌}
use Rattle.algebra.specs.Within.{Within}
use Rattle.algebra.proofs.Truth.{T_and, cond_ind}
use Rattle.algebra.proofs.Within.{within-pos, within-*, within-≤}
use Rattle.forms.specs.Binomials.{choose}
use Rattle.element.specs.Plane.{Vec, ◌-ᵥ◌, det}
use Rattle.element.specs.Control.{α, β, term}
use Rattle.points.specs.Points.{Ten, point}
use Rattle.points.proofs.Points.{step_small, across-small}
use Rattle.quad.specs.declared.sum.Vector.{Vector}
use Rattle.quad.specs.Points.{vec, grid}
use Rattle.quad.proofs.Binomials.{choose2-both}

pub place-column : (I J : ℕ) → I < 4 → (I + 4 * J) % 4 ≡ I
place-column I J h = omega arith

pub place-row : (I J : ℕ) → I < 4 → (I + 4 * J) / 4 ≡ J
place-row I J h = omega arith

module _ (R : ℕ → ℕ → Vec) (i1 i2 j1 j2 : ℕ) where
  pub term-here : term R (i1 + i2) (j1 + j2) i1 i2 j1 j2 ≡ pos (choose 2 i2 * choose 2 j1) *ℤ det (α R i1 j1) (β R i2 j2)
  term-here = rw (eq-eqb (i1 + i2) (i1 + i2) refl, eq-eqb (j1 + j2) (j1 + j2) refl) refl

  pub term-elsewhere : (k : ℕ) → ¬ (k ≡ (i1 + i2) + 4 * (j1 + j2)) → term R (k % 4) (k / 4) i1 i2 j1 j2 ≡ pos 0
  term-elsewhere k h =
      cond_ind (eqb (i1 + i2) (k % 4) && eqb (j1 + j2) (k / 4)) _ _ (λ z. z ≡ pos 0)
      (λ t. let (s, u) = T_and (eqb (i1 + i2) (k % 4)) (eqb (j1 + j2) (k / 4)) t in
      let I : i1 + i2 ≡ k % 4 = eqb→eq (i1 + i2) (k % 4) s in
      let J : j1 + j2 ≡ k / 4 = eqb→eq (j1 + j2) (k / 4) u in
      absurd (h (omega arith)))
      (λ t. refl)

-- twice as large
pub vector-small : {u v : List ℤ} → Ten 786432 u → Ten 786432 v
    → (a b : ℕ) {r : Vector} → vec r ≡ point u v b -ᵥ point u v a
    → Within 1572864 r.x × Within 1572864 r.y
vector-small p q a b e = (rw (ap (λ (w : Vec). w.x) e) (step_small p a b), rw (ap (λ (w : Vec). w.y) e) (step_small q a b))

-- four times a determinant of two such vectors
pub term-small : {u v : List ℤ} → Ten 786432 u → Ten 786432 v
    → (I J i1 i2 j1 j2 : ℕ)
    → Within 19791209299968 (term (grid u v) I J i1 i2 j1 j2)
term-small p q I J i1 i2 j1 j2 =
    cond_ind (eqb (i1 + i2) I && eqb (j1 + j2) J) _ _ (Within 19791209299968)
    (λ t. within-* (choose2-both i2 j1) (across-small p q (i1 + 3 * j1) (i1 + 1 + 3 * j1) (i2 + 3 * j2) (i2 + 3 * (j2 + 1))))
    (λ t. within-≤ (within-pos 0) (lit≤ tt))
