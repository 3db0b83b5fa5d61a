-- The control values are the paper's Bézier coefficients times the scale, with fractions cleared.
--   points-through-nodes6, points-through-edge, points-through-centre : the doubled and the fourfold points are those of the
--                        polynomial map through the nodes
--   triangle-coefficients : value k of the list of a triangle of six nodes is 2 times the coefficient N_IJK of relation 24, at the degrees
--                        of its place
--   cubic-coefficients : value (I, J, K) of ten nodes, the Jth of those with this K, is 192 times that coefficient
--   quad-coefficients  : the value at place I + 4J of the list of a quad is 36 times the coefficient N_IJ of relation 27
-- Assumes nothing.
use mathlib.Core.Path.{◌≡◌, refl, sym, ◌∙◌, ap, subst}
use mathlib.Core.Bool.{Bool, true, cond, ◌&&◌}
use mathlib.Core.List.{List, [], ◌∷◌}
use Prim.Native.Nat.{ℕ, zero, suc, ◌+◌, ◌*◌, ◌/◌, ◌^◌, ◌<◌}
use native.Mathlib.Nat as N
use native.Mathlib.Omega.{arith}
use borrow.Author.Tests.{eq-eqb}
use lib.Dec.{T, eqb, eqb→eq}
use lib.IntN.{ℤ, pos, ◌+ℤ◌, ◌-ℤ◌, ◌*ℤ◌}
use lib.ListN.{get_or}
use Rattle.algebra.specs.Expr.{Expr, exprs, var, con, ◌⊕◌, ◌⊖◌, ◌⊗◌}
use Rattle.algebra.proofs.Ring.{*ℤ-assoc}
use Rattle.algebra.proofs.Solve.{solve}
use Rattle.forms.specs.Binomials.{choose, multinomial}
use Rattle.forms.specs.Triangles.{degrees6, begin10}
use Rattle.forms.specs.Quads.{sixteen}
use Rattle.forms.proofs.Cells.{every-at}
use Rattle.forms.proofs.Triangles.{fifteen-at}
use Rattle.forms.proofs.Quads.{sixteen-at}
use Rattle.element.specs.Kinds.{six, eight, nine, ten, scale}
use Rattle.element.specs.Plane.{Vec, ◌+ᵥ◌, ◌*ᵥ◌, det}
use Rattle.element.specs.Nodes.{A0, A1, A2, M01, M12, M02}
use Rattle.element.specs.Control.{doubled, between, Q00, Q11, Q22, Q01, Q12, Q02, a0, a1, a2, b0, b1, b2, edge, centre9, points, values6, value, R9, R8, control_values, at}
use Rattle.element.specs.Cubic.{R10, value10, values10}
use Rattle.element.specs.Paper.{Q, relation24, Times24, relation27, Times27}
use Rattle.element.proofs.Places.{grow-both}
use Rattle.element.proofs.Formulas as E
use Rattle.element.proofs.CubicFormulas as C
use Rattle.element.proofs.Plane.{vec-eq, along, grid_e}

-- ---- triangle: I, J, K go with A0, A1, A2
-- d² of the one side, f² of the other, and what is left
times-parts : (f d m a b : ℕ) (c r : ℤ) → pos m *ℤ c ≡ pos a *ℤ r → f ^ 2 * a ≡ b * d ^ 2 → pos (f ^ 2 * m) *ℤ c ≡ pos (b * d ^ 2) *ℤ r
times-parts f d m a b c r e h =
    ap (λ (n : ℕ). pos n *ℤ c) (N.mul_comm (f ^ 2) m)
    ∙ grow-both m a (f ^ 2) c r e
    ∙ ap (λ (n : ℕ). pos n *ℤ r) (N.mul_comm a (f ^ 2) ∙ h)

-- the determinants of ak and bl, at 3k + l
dets : List ℤ → List ℤ
dets xs =
    det (a0 xs) (b0 xs) ∷ det (a0 xs) (b1 xs) ∷ det (a0 xs) (b2 xs)
    ∷ det (a1 xs) (b0 xs) ∷ det (a1 xs) (b1 xs) ∷ det (a1 xs) (b2 xs)
    ∷ det (a2 xs) (b0 xs) ∷ det (a2 xs) (b1 xs) ∷ det (a2 xs) (b2 xs) ∷ []

d : ℕ → ℕ → Expr
d k l = var (3 * k + l)

-- the sum of relation 24 over them
added : ℕ → ℕ → ℕ → Expr
added I J K =
    C.sum3 exprs 1 (λ i1 j1 k1. C.sum3 exprs 1 (λ i2 j2 k2.
    cond (eqb (i1 + i2) I && eqb (j1 + j2) J && eqb (k1 + k2) K)
    (con (pos (multinomial i1 j1 k1 * multinomial i2 j2 k2)) ⊗ d (j1 + 2 * k1) (j2 + 2 * k2)) (con (pos 0))))

pub triangle-coefficients : (xs : List ℤ) (k : ℕ) → k < 6
    → let ms = get_or degrees6 k [] in
    Times24 (scale six 0) 2 2 (Q xs) (get_or ms 0 0) (get_or ms 1 0) (get_or ms 2 0) (at (control_values six xs) k)
unfolding control_values values6 relation24 dets d added
triangle-coefficients xs zero h =
    solve (dets xs) (con (pos 4) ⊗ (con (pos 2) ⊗ d 0 0)) (con (pos 8) ⊗ added 2 0 0) tt
triangle-coefficients xs (suc zero) h =
    solve (dets xs) (con (pos 4) ⊗ (con (pos 2) ⊗ d 1 1)) (con (pos 8) ⊗ added 0 2 0) tt
triangle-coefficients xs (suc (suc zero)) h =
    solve (dets xs) (con (pos 4) ⊗ (con (pos 2) ⊗ d 2 2)) (con (pos 8) ⊗ added 0 0 2) tt
triangle-coefficients xs (suc (suc (suc zero))) h =
    solve (dets xs) (con (pos 8) ⊗ (d 0 1 ⊕ d 1 0)) (con (pos 8) ⊗ added 1 1 0) tt
triangle-coefficients xs (suc (suc (suc (suc zero)))) h =
    solve (dets xs) (con (pos 8) ⊗ (d 1 2 ⊕ d 2 1)) (con (pos 8) ⊗ added 0 1 1) tt
triangle-coefficients xs (suc (suc (suc (suc (suc zero))))) h =
    solve (dets xs) (con (pos 8) ⊗ (d 0 2 ⊕ d 2 0)) (con (pos 8) ⊗ added 1 0 1) tt
triangle-coefficients xs (suc (suc (suc (suc (suc (suc k)))))) h = absurd (omega arith)

-- ---- ten nodes
-- 12 is a multiple of 4!/(I!J!K!)
twelve-parts : (I J K : ℕ) → I + J + K ≡ 4 → multinomial I J K * (12 / multinomial I J K) ≡ 12
twelve-parts I J K e =
    let all = every-at (5 ∷ 5 ∷ 5 ∷ []) (λ ks. test (get_or ks 0 0) (get_or ks 1 0) (get_or ks 2 0)) tt (I ∷ J ∷ K ∷ []) (omega arith, (omega arith, (omega arith, tt))) in
    eqb→eq (multinomial I J K * (12 / multinomial I J K)) 12
    (subst (λ (b : Bool). T (cond b (eqb (multinomial I J K * (12 / multinomial I J K)) 12) true)) (eq-eqb (I + J + K) 4 e) all)
  where
    test : ℕ → ℕ → ℕ → Bool
    test I J K = cond (eqb (I + J + K) 4) (eqb (multinomial I J K * (12 / multinomial I J K)) 12) true

value10-coefficient : (R : ℕ → ℕ → ℕ → Vec) (I J K : ℕ) → I + J + K ≡ 4 → Times24 192 12 3 R I J K (value10 R I J K)
unfolding value10 relation24
value10-coefficient R I J K e =
    times-parts 12 3 (multinomial I J K) 12 192 (value10 R I J K) (relation24 R 3 I J K)
    (sym (*ℤ-assoc (pos (multinomial I J K)) (pos (12 / multinomial I J K)) (relation24 R 3 I J K))
    ∙ ap (λ (n : ℕ). pos n *ℤ relation24 R 3 I J K) (twelve-parts I J K e)) refl

pub cubic-coefficients : (xs : List ℤ) (I J K : ℕ) → I + J + K ≡ 4
    → Times24 (scale ten 0) 12 3 (R10 xs) I J K (at (control_values ten xs) (begin10 K + J))
unfolding control_values values10
cubic-coefficients xs I J K e = rw (fifteen-at (value10 (R10 xs)) (pos 0) I J K e) (value10-coefficient (R10 xs) I J K e)

-- ---- quad
-- 9 is a multiple of C(3,I)·C(3,J)
nine-parts : (I J : ℕ) → I < 4 → J < 4 → choose 3 I * choose 3 J * (9 / (choose 3 I * choose 3 J)) ≡ 9
nine-parts I J h k =
    eqb→eq (parts (I ∷ J ∷ [])) 9 (every-at (4 ∷ 4 ∷ []) (λ ks. eqb (parts ks) 9) tt (I ∷ J ∷ []) (h, (k, tt)))
  where
    parts : List ℕ → ℕ
    parts ks = let I : ℕ = get_or ks 0 0 in let J : ℕ = get_or ks 1 0 in choose 3 I * choose 3 J * (9 / (choose 3 I * choose 3 J))

value-coefficient : (R : ℕ → ℕ → Vec) (I J : ℕ) → I < 4 → J < 4 → Times27 36 R I J (value R I J)
unfolding value relation27
value-coefficient R I J h k =
    let c : ℕ = choose 3 I * choose 3 J in
    ap (λ (n : ℕ). pos n *ℤ value R I J) (N.mul_comm 16 c)
    ∙ grow-both c 9 16 (value R I J) (relation27 R I J)
    (sym (*ℤ-assoc (pos c) (pos (9 / c)) (relation27 R I J)) ∙ ap (λ (n : ℕ). pos n *ℤ relation27 R I J) (nine-parts I J h k))

pub quad-coefficients : (xs : List ℤ) (I J : ℕ) → I < 4
    → J < 4
    → Times27 (scale nine 0) (R9 xs) I J (at (control_values nine xs) (I + 4 * J))
    × Times27 (scale eight 0) (R8 xs) I J (at (control_values eight xs) (I + 4 * J))
unfolding control_values
quad-coefficients xs I J h k = (placed (R9 xs), placed (R8 xs))
  where
    placed : (R : ℕ → ℕ → Vec) → Times27 36 R I J (at (sixteen (value R)) (I + 4 * J))
    placed R = rw (sixteen-at (value R) (pos 0) I J h k) (value-coefficient R I J h k)

-- ---- the control points are those of the map through the nodes: at an edge's middle a quadratic map has a quarter of the
-- points at the ends and half of the one between, and at the centre the same in both directions
pub points-through-nodes6 : (xs : List ℤ)
    → (Q00 xs +ᵥ pos 2 *ᵥ Q01 xs +ᵥ Q11 xs ≡ pos 8 *ᵥ M01 xs)
    × (Q11 xs +ᵥ pos 2 *ᵥ Q12 xs +ᵥ Q22 xs ≡ pos 8 *ᵥ M12 xs)
    × (Q00 xs +ᵥ pos 2 *ᵥ Q02 xs +ᵥ Q22 xs ≡ pos 8 *ᵥ M02 xs)
points-through-nodes6 xs = (at-middle (A0 xs) (M01 xs) (A1 xs), at-middle (A1 xs) (M12 xs) (A2 xs), at-middle (A0 xs) (M02 xs) (A2 xs))
  where
    one : (a m b : ℤ) → pos 2 *ℤ a +ℤ pos 2 *ℤ (pos 4 *ℤ m -ℤ a -ℤ b) +ℤ pos 2 *ℤ b ≡ pos 8 *ℤ m
    one a m b =
        solve (a ∷ m ∷ b ∷ []) (con (pos 2) ⊗ var 0 ⊕ con (pos 2) ⊗ (con (pos 4) ⊗ var 1 ⊖ var 0 ⊖ var 2) ⊕ con (pos 2) ⊗ var 2) (con (pos 8) ⊗ var 1) tt

    at-middle : (a m b : Vec) → doubled a +ᵥ pos 2 *ᵥ between m a b +ᵥ doubled b ≡ pos 8 *ᵥ m
    at-middle a m b = vec-eq (one a.x m.x b.x) (one a.y m.y b.y)

-- on an edge of a quad; R is fourfold
pub points-through-edge : (a m b : Vec) → pos 4 *ᵥ a +ᵥ pos 2 *ᵥ edge m a b +ᵥ pos 4 *ᵥ b ≡ pos 16 *ᵥ m
points-through-edge a m b = vec-eq (one a.x m.x b.x) (one a.y m.y b.y)
  where
    one : (a m b : ℤ) → pos 4 *ℤ a +ℤ pos 2 *ℤ (pos 8 *ℤ m -ℤ pos 2 *ℤ a -ℤ pos 2 *ℤ b) +ℤ pos 4 *ℤ b ≡ pos 16 *ℤ m
    one a m b =
        solve (a ∷ m ∷ b ∷ [])
        (con (pos 4) ⊗ var 0 ⊕ con (pos 2) ⊗ (con (pos 8) ⊗ var 1 ⊖ con (pos 2) ⊗ var 0 ⊖ con (pos 2) ⊗ var 2) ⊕ con (pos 4) ⊗ var 2)
        (con (pos 16) ⊗ var 1) tt

-- at its centre
abbrev bend : (ℕ → ℕ → Vec) → Vec
bend R =
    R 0 0 +ᵥ pos 2 *ᵥ R 1 0 +ᵥ R 2 0 +ᵥ pos 2 *ᵥ (R 0 1 +ᵥ pos 2 *ᵥ R 1 1 +ᵥ R 2 1) +ᵥ (R 0 2 +ᵥ pos 2 *ᵥ R 1 2 +ᵥ R 2 2)

pub points-through-centre : (A : ℕ → ℕ → Vec) → bend (points A (centre9 A)) ≡ pos 64 *ᵥ A 1 1
points-through-centre A = vec-eq (solve (along (λ v. v.x) A) left right tt) (solve (along (λ v. v.y) A) left right tt)
  where
    R : ℕ → ℕ → Expr
    R i j = (E.points exprs (grid_e 0) (E.centre9 exprs (grid_e 0)) i j).x

    left : Expr
    left =
        R 0 0 ⊕ con (pos 2) ⊗ R 1 0 ⊕ R 2 0 ⊕ con (pos 2) ⊗ (R 0 1 ⊕ con (pos 2) ⊗ R 1 1 ⊕ R 2 1) ⊕ (R 0 2 ⊕ con (pos 2) ⊗ R 1 2 ⊕ R 2 2)

    right : Expr
    right = con (pos 64) ⊗ var 4
