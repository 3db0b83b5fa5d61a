-- The terms of a value, as the code adds them up.
--   term-off1, term-off2, term-off3 : a term whose indices do not add up is 0
--   term-on       : the others
--   across-spots  : the code's determinant is a term's
--   six-sum       : a sum over i + j + k = 2 has six terms
--   value-rows    : a value is six rows
-- Assumes nothing.
use mathlib.Core.Path.{◌≡◌, refl, ◌∙◌, ap}
use mathlib.Core.List.{List, [], ◌∷◌}
use Prim.Native.Nat.{ℕ, ◌+◌, ◌*◌, ◌/◌}
use borrow.Author.Tests.{eq-eqb, ne_eqb}
use lib.IntN.{ℤ, pos, ◌+ℤ◌, ◌*ℤ◌}
use Rattle.algebra.specs.Expr.{con, var, ◌⊕◌}
use Rattle.algebra.proofs.Solve.{solve}
use Rattle.forms.specs.Binomials.{multinomial}
use Rattle.element.specs.Plane.{Vec, det, sum3}
use Rattle.element.specs.Cubic.{along, aside, term10, value10}
use Rattle.points.specs.Points.{across}
use Rattle.cubic.specs.Points.{spot, grid, row}

module _ (R : ℕ → ℕ → ℕ → Vec) (I J K i1 j1 k1 i2 j2 k2 : ℕ) where
  abbrev Zero : Type 0
  Zero = pos 0 ≡ term10 R I J K i1 j1 k1 i2 j2 k2

  pub term-off1 : ¬ (i1 + i2 ≡ I) → Zero
  term-off1 h = rw (ne_eqb (i1 + i2) I h) refl

  pub term-off2 : i1 + i2 ≡ I → ¬ (j1 + j2 ≡ J) → Zero
  term-off2 e h = rw (eq-eqb (i1 + i2) I e, ne_eqb (j1 + j2) J h) refl

  pub term-off3 : i1 + i2 ≡ I → j1 + j2 ≡ J → ¬ (k1 + k2 ≡ K) → Zero
  term-off3 e f h = rw (eq-eqb (i1 + i2) I e, eq-eqb (j1 + j2) J f, ne_eqb (k1 + k2) K h) refl

  pub term-on : i1 + i2 ≡ I → j1 + j2 ≡ J → k1 + k2 ≡ K
      → pos (multinomial i1 j1 k1 * multinomial i2 j2 k2) *ℤ det (along R i1 j1 k1) (aside R i2 j2 k2) ≡ term10 R I J K i1 j1 k1 i2 j2 k2
  term-on e f g = rw (eq-eqb (i1 + i2) I e, eq-eqb (j1 + j2) J f, eq-eqb (k1 + k2) K g) refl

-- the code's determinant
pub across-spots : (u v : List ℤ) (i1 j1 k1 i2 j2 k2 : ℕ) {a b c d : ℕ} {r : ℤ} → r ≡ across u v a b c d
    → a ≡ spot j1 k1
    → b ≡ spot (j1 + 1) k1
    → c ≡ spot j2 k2
    → d ≡ spot j2 (k2 + 1)
    → r ≡ det (along (grid u v) i1 j1 k1) (aside (grid u v) i2 j2 k2)
across-spots u v i1 j1 k1 i2 j2 k2 h e f g i = h ∙ rw (e, f, g, i) refl

pub six-sum : (f : ℕ → ℕ → ℕ → ℤ) → sum3 2 f ≡ f 0 0 2 +ℤ f 0 1 1 +ℤ f 0 2 0 +ℤ f 1 0 1 +ℤ f 1 1 0 +ℤ f 2 0 0
six-sum f =
    solve (f 0 0 2 ∷ f 0 1 1 ∷ f 0 2 0 ∷ f 1 0 1 ∷ f 1 1 0 ∷ f 2 0 0 ∷ [])
    (con (pos 0) ⊕ (con (pos 0) ⊕ var 0 ⊕ var 1 ⊕ var 2) ⊕ (con (pos 0) ⊕ var 3 ⊕ var 4) ⊕ (con (pos 0) ⊕ var 5))
    (var 0 ⊕ var 1 ⊕ var 2 ⊕ var 3 ⊕ var 4 ⊕ var 5) tt

pub value-rows : (u v : List ℤ) (I J K : ℕ) → value10 (grid u v) I J K
    ≡ pos (12 / multinomial I J K) *ℤ (row u v I J K 0 0 2 +ℤ row u v I J K 0 1 1 +ℤ row u v I J K 0 2 0 +ℤ row u v I J K 1 0 1 +ℤ row u v I J K 1 1 0 +ℤ row u v I J K 2 0 0)
unfolding value10
value-rows u v I J K = ap (λ z. pos (12 / multinomial I J K) *ℤ z) (six-sum (λ i1 j1 k1. row u v I J K i1 j1 k1))
