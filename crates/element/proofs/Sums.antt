-- The sums over control values are J from the nodes (01: "proved equal to J and not taken as its meaning").
--   sum6-is-J, sum9-is-J, sum8-is-J : at all weights, for six, nine and eight nodes
--   scaled-sum6, scaled-sum9        : they are the values of the kind's form
-- Assumes nothing.
use mathlib.Core.Path.{◌≡◌}
use mathlib.Core.List.{List, [], ◌∷◌}
use Prim.Native.Nat.{ℕ, zero, suc, ◌+◌, ◌*◌}
use lib.IntN.{ℤ, pos, ◌*ℤ◌}
use Rattle.algebra.specs.Expr.{Expr, exprs, var, con, ◌⊕◌, ◌⊗◌}
use Rattle.algebra.proofs.Solve.{solve}
use Rattle.forms.specs.Rows.{weigh}
use Rattle.forms.specs.Forms.{value as form_value}
use Rattle.forms.specs.Shapes.{scaled, spread}
use Rattle.forms.specs.Triangles as T
use Rattle.forms.specs.Quads as Q
use Rattle.element.specs.Nodes.{place8}
use Rattle.element.specs.Kinds.{six, eight, nine}
use Rattle.element.specs.Jacobian.{slopeξ, slopeη, J6, slope_u, slope_v, J9, fourfold8, J8}
use Rattle.element.specs.Control.{values6, value, control_values, at, sum6, sum9}
use Rattle.element.proofs.Formulas as E

-- nodes as variables: the coordinates stand from variable b on
abbrev pub node_e : ℕ → ℕ → E.Pair Expr
node_e b k = record { x = var (b + 2 * k); y = var (b + 2 * k + 1) }

abbrev pub A9E : ℕ → ℕ → ℕ → E.Pair Expr
A9E b i j = node_e b (i + 3 * j)

abbrev pub A8E : ℕ → ℕ → ℕ → E.Pair Expr
A8E b i j = node_e b (place8 i j)

abbrev pub R9E : ℕ → ℕ → ℕ → E.Pair Expr
R9E b = E.points exprs (A9E b) (E.centre9 exprs (A9E b))

abbrev pub R8E : ℕ → ℕ → ℕ → E.Pair Expr
R8E b = E.points exprs (A8E b) (E.centre8 exprs (A8E b))

-- n numbers of the list from place k on
abbrev pub numbers : List ℤ → ℕ → ℕ → List ℤ
numbers c k zero = []
numbers c k (suc n) = at c k ∷ numbers c (k + 1) n

module _ (xs : List ℤ) where
  pub sum6-is-J : (p q r : ℕ) → sum6 (values6 xs) (pos p) (pos q) (pos r) ≡ pos 2 *ℤ J6 xs p q r
  unfolding sum6 values6 J6 slopeξ slopeη
  sum6-is-J p q r =
      solve
      (pos p ∷ pos q ∷ pos r ∷ numbers xs 0 12)
      (E.sum6 exprs (E.c6 exprs (node_e 3)) (var 0) (var 1) (var 2))
      (con (pos 2) ⊗ E.J6 exprs (node_e 3) (var 0) (var 1) (var 2)) tt

  pub sum9-is-J : (p m q n : ℕ) → sum9 (control_values nine xs) (pos p) (pos m) (pos q) (pos n) ≡ pos 36 *ℤ J9 xs p m q n
  unfolding sum9 control_values value J9 slope_u slope_v
  sum9-is-J p m q n =
      solve
      (pos p ∷ pos m ∷ pos q ∷ pos n ∷ numbers xs 0 18)
      (E.sum9 exprs (E.value exprs (R9E 4)) (var 0) (var 1) (var 2) (var 3))
      (con (pos 36) ⊗ E.JQ exprs (A9E 4) (var 0) (var 1) (var 2) (var 3)) tt

  pub sum8-is-J : (p m q n : ℕ) → pos 16 *ℤ sum9 (control_values eight xs) (pos p) (pos m) (pos q) (pos n) ≡ pos 36 *ℤ J8 xs p m q n
  unfolding sum9 control_values value J8 slope_u slope_v fourfold8
  sum8-is-J p m q n =
      solve
      (pos p ∷ pos m ∷ pos q ∷ pos n ∷ numbers xs 0 16)
      (con (pos 16) ⊗ E.sum9 exprs (E.value exprs (R8E 4)) (var 0) (var 1) (var 2) (var 3))
      (con (pos 36) ⊗ E.JQ exprs (E.fourfold exprs (A8E 4) (E.centre_node exprs (A8E 4))) (var 0) (var 1) (var 2) (var 3)) tt

-- ---- the kind's form
-- rows of weights as variables from b on
abbrev pub row_e : ℕ → ℕ → List Expr
row_e b zero = []
row_e b (suc n) = var b ∷ row_e (b + 1) n

pub scaled-sum6 : (c : List ℤ) (p q r : ℕ) → scaled T.six c ((p ∷ q ∷ r ∷ []) ∷ []) ≡ sum6 c (pos p) (pos q) (pos r)
unfolding scaled form_value weigh sum6
scaled-sum6 c p q r =
    solve (pos p ∷ pos q ∷ pos r ∷ numbers c 0 6)
    (E.form_value exprs (spread (2 ∷ []) (row_e 0 3 ∷ [])) (λ ks. var (3 + T.place6 ks)))
    (E.sum6 exprs (λ k. var (3 + k)) (var 0) (var 1) (var 2)) tt

pub scaled-sum9 : (c : List ℤ) (a b d e : ℕ)
    → scaled Q.quad c ((a ∷ b ∷ []) ∷ (d ∷ e ∷ []) ∷ []) ≡ sum9 c (pos b) (pos (a + b)) (pos e) (pos (d + e))
unfolding scaled form_value weigh sum9
scaled-sum9 c a b d e =
    solve
    (pos a ∷ pos b ∷ pos d ∷ pos e ∷ numbers c 0 16)
    (E.form_value exprs (spread (3 ∷ 3 ∷ []) (row_e 0 2 ∷ row_e 2 2 ∷ [])) (λ ks. var (4 + Q.place ks)))
    (E.sum9 exprs (λ I J. var (4 + (I + 4 * J))) (var 1) (var 0 ⊕ var 1) (var 3) (var 2 ⊕ var 3)) tt
