-- The sum over the control values of a ten-node triangle is J from the nodes.
--   sum10-is-J       : it is 192J·w⁴, twelve times the determinant of the slopes; for any control points
--   scaled-sum10     : it is the value of the kind's form
--   points, RE       == ten control points as the solver's numbers and variables, by rising k, then rising j
-- Assumes nothing.
use mathlib.Core.Path.{◌≡◌}
use mathlib.Core.List.{List, [], ◌∷◌}
use Prim.Native.Nat.{ℕ, zero, suc, ◌+◌, ◌*◌}
use lib.Dec.{T}
use lib.IntN.{ℤ, pos, ◌+ℤ◌, ◌-ℤ◌, ◌*ℤ◌}
use lib.ListN.{get_or}
use Rattle.algebra.specs.Expr.{Expr, exprs, var, con, ◌⊕◌, ◌⊖◌, ◌⊗◌, eval}
use Rattle.algebra.specs.Normal.{vanishes}
use Rattle.algebra.proofs.Solve.{solve}
use Rattle.forms.specs.Rows.{weigh}
use Rattle.forms.specs.Forms.{value as form_value}
use Rattle.forms.specs.Shapes.{scaled, spread}
use Rattle.forms.specs.Triangles as T
use Rattle.element.specs.Plane.{Vec, ◌+ᵥ◌, ◌*ᵥ◌, det, sum3ᵥ}
use Rattle.element.specs.Nodes.{node}
use Rattle.element.specs.Cubic.{R10, bezier, blend, along, aside, slopeξ, slopeη, value10, sum10}
use Rattle.element.specs.Lagrange.{lagrange}
use Rattle.element.proofs.Formulas as E
use Rattle.element.proofs.CubicFormulas as C
use Rattle.element.proofs.Sums.{numbers, row_e}

-- ---- the ten control points as variables
abbrev spot : ℕ → ℕ → ℕ
spot j k = get_or (0 ∷ 4 ∷ 7 ∷ 9 ∷ []) k 10 + j

abbrev pub points : (ℕ → ℕ → ℕ → ℤ) → List ℤ → List ℤ
points f l =
    f 3 0 0 ∷ f 2 1 0 ∷ f 1 2 0 ∷ f 0 3 0 ∷ f 2 0 1 ∷ f 1 1 1 ∷ f 0 2 1 ∷ f 1 0 2 ∷ f 0 1 2 ∷ f 0 0 3 ∷ l

-- the x of all, and then the y of all, from variable b on
abbrev pub RE : ℕ → ℕ → ℕ → ℕ → ℕ → E.Pair Expr
RE b c i j k = record { x = var (b + spot j k); y = var (c + spot j k) }

pub sum10-is-J : (R : ℕ → ℕ → ℕ → Vec) (p q r : ℤ)
    → sum10 (T.fifteen (value10 R)) p q r ≡ pos 12 *ℤ det (slopeξ R p q r) (slopeη R p q r)
unfolding sum10 value10 slopeξ slopeη
sum10-is-J R p q r =
    solve
    (p ∷ q ∷ r ∷ points (λ i j k. (R i j k).x) (points (λ i j k. (R i j k).y) []))
    (C.sum10 exprs (C.value10 exprs (RE 3 13)) (var 0) (var 1) (var 2))
    (con (pos 12) ⊗ E.det exprs (C.blended exprs (C.along exprs (RE 3 13)) 2 (var 0) (var 1) (var 2)) (C.blended exprs (C.aside exprs (RE 3 13)) 2 (var 0) (var 1) (var 2))) tt

-- ---- the kind's form
pub scaled-sum10 : (c : List ℤ) (p q r : ℕ) → scaled T.ten c ((p ∷ q ∷ r ∷ []) ∷ []) ≡ sum10 c (pos p) (pos q) (pos r)
unfolding scaled form_value weigh sum10
scaled-sum10 c p q r =
    solve (pos p ∷ pos q ∷ pos r ∷ numbers c 0 15)
    (E.form_value exprs (spread (4 ∷ []) (row_e 0 3 ∷ [])) (λ ks. var (3 + T.place10 ks)))
    (C.sum10 exprs (λ I J K. var (3 + (T.begin10 K + J))) (var 0) (var 1) (var 2)) tt
