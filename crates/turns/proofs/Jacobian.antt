-- J does not move with the numbering: at the same point of the element it is the same, from the nodes; the other way round it is negative.
--   turned-to, turned-from : every place goes to one in the turned numbering, and every one there has come from one
--   mirrored-to, mirrored-from : the same of the mirrored numbering
--   jacobian-turned  : J at the turned place, from the turned nodes, is J at the place
--   jacobian-mirrored : J at the mirrored place, from the mirrored nodes, is minus J at the place
--   factor-turned, factor-mirrored : `jacobian` is as many times J at the one place as at the other
-- For all kinds and every rational place. Assumes nothing.
use mathlib.Core.Path.{◌≡◌, refl, ◌∙◌, ap}
use mathlib.Core.List.{List, [], ◌∷◌}
use Prim.Native.Nat.{ℕ, ◌+◌, ◌*◌, ◌-◌}
use native.Mathlib.Nat as N
use native.Mathlib.Omega.{arith}
use lib.IntN.{ℤ, pos, neg_ℤ, ◌-ℤ◌, +ℤ_idl}
use lib.ListN.{get_or}
use Rattle.algebra.specs.Expr.{Expr, exprs, var, con, ◌⊕◌, ◌⊖◌}
use Rattle.algebra.proofs.Solve.{solve}
use Rattle.element.specs.Kinds.{Kind, six, eight, nine, ten}
use Rattle.element.specs.Nodes.{place8}
use Rattle.element.specs.Places.{InTriangle, InQuad, Place, square, cube, whole}
use Rattle.element.specs.Cubic as cubic
use Rattle.element.specs.Cubic.{J10}
use Rattle.element.specs.Jacobian.{slopeξ, slopeη, J6, slope_u, slope_v, J9, fourfold8, J8, jacobian, factor}
use Rattle.element.proofs.Formulas as E
use Rattle.element.proofs.CubicFormulas as C
use Rattle.element.proofs.Sums.{node_e, numbers}
use Rattle.turns.specs.Numbering.{turned_places, mirrored_places, turned, mirrored, TriangleTurned, QuadTurned, TurnedTo, TriangleMirrored, MirroredTo}

-- ---- places
triangle-to : (x : InTriangle) → (y : InTriangle) × TriangleTurned x y
triangle-to x = let h = x.some in (record { p = x.q; q = x.r; r = x.p; some = omega arith }, (refl, refl, refl))

triangle-from : (y : InTriangle) → (x : InTriangle) × TriangleTurned x y
triangle-from y = let h = y.some in (record { p = y.r; q = y.p; r = y.q; some = omega arith }, (refl, refl, refl))

quad-to : (x : InQuad) → (y : InQuad) × QuadTurned x y
quad-to x = (
  record { p = x.q; m = x.n; q = x.m - x.p; n = x.m; u_below = x.v_below; v_below = omega arith; m_above = x.n_above; n_above = x.m_above },
  (refl, refl, refl, refl),
)

quad-from : (y : InQuad) → (x : InQuad) × QuadTurned x y
quad-from y =
    let h = y.v_below in let e : y.q ≡ y.n - (y.n - y.q) = omega arith in (
      record { p = y.n - y.q; m = y.n; q = y.p; n = y.m; u_below = omega arith; v_below = y.u_below; m_above = y.n_above; n_above = y.m_above },
      (refl, refl, e, refl),
    )

pub turned-to : (k : Kind) (x : Place k) → (y : Place k) × TurnedTo k x y
turned-to six x = triangle-to x
turned-to eight x = quad-to x
turned-to nine x = quad-to x
turned-to ten x = triangle-to x

pub turned-from : (k : Kind) (y : Place k) → (x : Place k) × TurnedTo k x y
turned-from six y = triangle-from y
turned-from eight y = quad-from y
turned-from nine y = quad-from y
turned-from ten y = triangle-from y

abbrev triangle-over : InTriangle → InTriangle
triangle-over x = let h = x.some in record { p = x.p; q = x.r; r = x.q; some = omega arith }

abbrev quad-over : InQuad → InQuad
quad-over x =
    record { p = x.q; m = x.n; q = x.p; n = x.m; u_below = x.v_below; v_below = x.u_below; m_above = x.n_above; n_above = x.m_above }

pub mirrored-to : (k : Kind) (x : Place k) → (y : Place k) × MirroredTo k x y
mirrored-to six x = (triangle-over x, (refl, refl, refl))
mirrored-to eight x = (quad-over x, (refl, refl, refl, refl))
mirrored-to nine x = (quad-over x, (refl, refl, refl, refl))
mirrored-to ten x = (triangle-over x, (refl, refl, refl))

pub mirrored-from : (k : Kind) (y : Place k) → (x : Place k) × MirroredTo k x y
mirrored-from six y = (triangle-over y, (refl, refl, refl))
mirrored-from eight y = (quad-over y, (refl, refl, refl, refl))
mirrored-from nine y = (quad-over y, (refl, refl, refl, refl))
mirrored-from ten y = (triangle-over y, (refl, refl, refl))

-- ---- the node that stands at place m of the numbering l; the coordinates are variables from b on
abbrev standing : ℕ → List ℕ → ℕ → E.Pair Expr
standing b l m = node_e b (get_or l m 0)

abbrev minus : Expr → Expr
minus e = con (pos 0) ⊖ e

-- ---- triangle
abbrev six_e : List ℕ → Expr → Expr → Expr → Expr
six_e l p q r = E.J6 exprs (standing 3 l) p q r

abbrev plain6 : List ℕ
plain6 = 0 ∷ 1 ∷ 2 ∷ 3 ∷ 4 ∷ 5 ∷ []

J6-turned : (xs : List ℤ) (p q r : ℕ) → J6 (turned six xs) q r p ≡ J6 xs p q r
unfolding J6 slopeξ slopeη
J6-turned xs p q r =
    solve (pos p ∷ pos q ∷ pos r ∷ numbers xs 0 12) (six_e (turned_places six) (var 1) (var 2) (var 0)) (six_e plain6 (var 0) (var 1) (var 2)) tt

J6-mirrored : (xs : List ℤ) (p q r : ℕ) → J6 (mirrored six xs) p r q ≡ pos 0 -ℤ J6 xs p q r
unfolding J6 slopeξ slopeη
J6-mirrored xs p q r =
    solve (pos p ∷ pos q ∷ pos r ∷ numbers xs 0 12) (six_e (mirrored_places six) (var 0) (var 2) (var 1)) (minus (six_e plain6 (var 0) (var 1) (var 2))) tt

-- ---- ten nodes
abbrev ten_e : List ℕ → Expr → Expr → Expr → Expr
ten_e l p q r = C.J10 exprs (C.R10 exprs (standing 3 l)) p q r

abbrev plain10 : List ℕ
plain10 = 0 ∷ 1 ∷ 2 ∷ 3 ∷ 4 ∷ 5 ∷ 6 ∷ 7 ∷ 8 ∷ 9 ∷ []

J10-turned : (xs : List ℤ) (p q r : ℕ) → J10 (turned ten xs) q r p ≡ J10 xs p q r
unfolding J10 cubic.slopeξ cubic.slopeη
J10-turned xs p q r =
    solve (pos p ∷ pos q ∷ pos r ∷ numbers xs 0 20) (ten_e (turned_places ten) (var 1) (var 2) (var 0)) (ten_e plain10 (var 0) (var 1) (var 2)) tt

J10-mirrored : (xs : List ℤ) (p q r : ℕ) → J10 (mirrored ten xs) p r q ≡ pos 0 -ℤ J10 xs p q r
unfolding J10 cubic.slopeξ cubic.slopeη
J10-mirrored xs p q r =
    solve (pos p ∷ pos q ∷ pos r ∷ numbers xs 0 20) (ten_e (mirrored_places ten) (var 0) (var 2) (var 1)) (minus (ten_e plain10 (var 0) (var 1) (var 2))) tt

-- ---- nine nodes; turned: at u = b/(a + b), v = e/n
abbrev nine_e : List ℕ → Expr → Expr → Expr → Expr → Expr
nine_e l p m q n = E.JQ exprs (λ i j. standing 4 l (i + 3 * j)) p m q n

abbrev plain9 : List ℕ
plain9 = 0 ∷ 1 ∷ 2 ∷ 3 ∷ 4 ∷ 5 ∷ 6 ∷ 7 ∷ 8 ∷ []

J9-turned : (xs : List ℤ) (a b e n : ℕ) → J9 (turned nine xs) e n a (a + b) ≡ J9 xs b (a + b) e n
unfolding J9 slope_u slope_v
J9-turned xs a b e n =
    solve (pos a ∷ pos b ∷ pos e ∷ pos n ∷ numbers xs 0 18)
    (nine_e (turned_places nine) (var 2) (var 3) (var 0) (var 0 ⊕ var 1)) (nine_e plain9 (var 1) (var 0 ⊕ var 1) (var 2) (var 3)) tt

J9-mirrored : (xs : List ℤ) (p m q n : ℕ) → J9 (mirrored nine xs) q n p m ≡ pos 0 -ℤ J9 xs p m q n
unfolding J9 slope_u slope_v
J9-mirrored xs p m q n =
    solve (pos p ∷ pos m ∷ pos q ∷ pos n ∷ numbers xs 0 18)
    (nine_e (mirrored_places nine) (var 2) (var 3) (var 0) (var 1)) (minus (nine_e plain9 (var 0) (var 1) (var 2) (var 3))) tt

-- ---- eight nodes
abbrev eight_e : List ℕ → Expr → Expr → Expr → Expr → Expr
eight_e l p m q n =
    let A : ℕ → ℕ → E.Pair Expr = λ i j. standing 4 l (place8 i j) in
    E.JQ exprs (E.fourfold exprs A (E.centre_node exprs A)) p m q n

abbrev plain8 : List ℕ
plain8 = 0 ∷ 1 ∷ 2 ∷ 3 ∷ 4 ∷ 5 ∷ 6 ∷ 7 ∷ []

J8-turned : (xs : List ℤ) (a b e n : ℕ) → J8 (turned eight xs) e n a (a + b) ≡ J8 xs b (a + b) e n
unfolding J8 slope_u slope_v fourfold8
J8-turned xs a b e n =
    solve (pos a ∷ pos b ∷ pos e ∷ pos n ∷ numbers xs 0 16)
    (eight_e (turned_places eight) (var 2) (var 3) (var 0) (var 0 ⊕ var 1)) (eight_e plain8 (var 1) (var 0 ⊕ var 1) (var 2) (var 3)) tt

J8-mirrored : (xs : List ℤ) (p m q n : ℕ) → J8 (mirrored eight xs) q n p m ≡ pos 0 -ℤ J8 xs p m q n
unfolding J8 slope_u slope_v fourfold8
J8-mirrored xs p m q n =
    solve (pos p ∷ pos m ∷ pos q ∷ pos n ∷ numbers xs 0 16)
    (eight_e (mirrored_places eight) (var 2) (var 3) (var 0) (var 1)) (minus (eight_e plain8 (var 0) (var 1) (var 2) (var 3))) tt

-- ---- at places
-- a function of four numbers that is turned, at the numbers of two places
quad-turned : (f g : ℕ → ℕ → ℕ → ℕ → ℤ) → ((a b e n : ℕ) → g e n a (a + b) ≡ f b (a + b) e n)
    → (x y : InQuad)
    → QuadTurned x y
    → g y.p y.m y.q y.n ≡ f x.p x.m x.q x.n
quad-turned f g t x y (a, b, c, d) =
    let h = x.u_below in let e : x.m - x.p + x.p ≡ x.m = omega arith in
    rw (a, b, c, d) (rw e at (t (x.m - x.p) x.p x.q x.n))

pub jacobian-turned : (k : Kind) (xs : List ℤ) (x y : Place k) → TurnedTo k x y → jacobian k (turned k xs) y ≡ jacobian k xs x
jacobian-turned six xs x y (a, b, c) = rw (a, b, c) (J6-turned xs x.p x.q x.r)
jacobian-turned eight xs x y h = quad-turned (J8 xs) (J8 (turned eight xs)) (J8-turned xs) x y h
jacobian-turned nine xs x y h = quad-turned (J9 xs) (J9 (turned nine xs)) (J9-turned xs) x y h
jacobian-turned ten xs x y (a, b, c) = rw (a, b, c) (J10-turned xs x.p x.q x.r)

pub jacobian-mirrored : (k : Kind) (xs : List ℤ) (x y : Place k) → MirroredTo k x y → jacobian k (mirrored k xs) y ≡ neg_ℤ (jacobian k xs x)
jacobian-mirrored six xs x y (a, b, c) = rw (a, b, c) (J6-mirrored xs x.p x.q x.r) ∙ +ℤ_idl _
jacobian-mirrored eight xs x y (a, b, c, d) = rw (a, b, c, d) (J8-mirrored xs x.p x.m x.q x.n) ∙ +ℤ_idl _
jacobian-mirrored nine xs x y (a, b, c, d) = rw (a, b, c, d) (J9-mirrored xs x.p x.m x.q x.n) ∙ +ℤ_idl _
jacobian-mirrored ten xs x y (a, b, c) = rw (a, b, c) (J10-mirrored xs x.p x.q x.r) ∙ +ℤ_idl _

-- ---- the weight of a place
whole-turned : (x y : InTriangle) → TriangleTurned x y → whole y ≡ whole x
whole-turned x y (a, b, c) = omega arith

whole-mirrored : (x y : InTriangle) → TriangleMirrored x y → whole y ≡ whole x
whole-mirrored x y (a, b, c) = omega arith

pub factor-turned : (k : Kind) (x y : Place k) → TurnedTo k x y → factor k y ≡ factor k x
factor-turned six x y h = ap (λ (w : ℕ). 1 * square w) (whole-turned x y h)
factor-turned eight x y (a, b, c, d) = rw (b, d) (ap (λ (w : ℕ). 16 * w) (N.mul_comm (cube x.n) (cube x.m)))
factor-turned nine x y (a, b, c, d) = rw (b, d) (ap (λ (w : ℕ). 1 * w) (N.mul_comm (cube x.n) (cube x.m)))
factor-turned ten x y h = ap (λ (w : ℕ). 16 * square (square w)) (whole-turned x y h)

pub factor-mirrored : (k : Kind) (x y : Place k) → MirroredTo k x y → factor k y ≡ factor k x
factor-mirrored six x y h = ap (λ (w : ℕ). 1 * square w) (whole-mirrored x y h)
factor-mirrored eight x y (a, b, c, d) = rw (b, d) (ap (λ (w : ℕ). 16 * w) (N.mul_comm (cube x.n) (cube x.m)))
factor-mirrored nine x y (a, b, c, d) = rw (b, d) (ap (λ (w : ℕ). 1 * w) (N.mul_comm (cube x.n) (cube x.m)))
factor-mirrored ten x y h = ap (λ (w : ℕ). 16 * square (square w)) (whole-mirrored x y h)
