-- J at the middle of an edge whose corners stand at one place (02, Ask 9).
--   no-det           : the determinant of a difference of two equal vectors and another one is zero
--   edge-zero        : where two corners that an edge joins stand at one place, J is zero at the middle of that edge, if it is quadratic
--   middle-on        : that middle is a point of the grid of level 1
-- For all kinds; the quads by one law over their nodes. Assumes nothing.
use mathlib.Core.Path.{◌≡◌, refl, sym, ◌∙◌, ap}
use mathlib.Core.List.{List, [], ◌∷◌}
use Prim.Native.Nat.{ℕ, zero, suc, ◌+◌, ◌<◌}
use native.Mathlib.Nat as N
use native.Mathlib.Omega.{arith}
use lib.Dec.{lit≤}
use lib.IntN.{ℤ, pos, neg_ℤ}
use lib.ListN.{get_or}
use Rattle.algebra.specs.Expr.{exprs, con}
use Rattle.algebra.proofs.Solve.{solve}
use Rattle.element.specs.Kinds.{Kind, six, eight, nine, ten}
use Rattle.element.specs.Plane.{Vec, ◌-ᵥ◌, ◌*ᵥ◌, det}
use Rattle.element.specs.Places.{InQuad, Place, OnGrid, QuadAt}
use Rattle.element.specs.Nodes.{node, A9}
use Rattle.element.specs.Jacobian.{slopeξ, slopeη, J6, slope_u, slope_v, JQ, J9, fourfold8, J8, jacobian}
use Rattle.element.specs.Corners.{corner, SamePlace, Collapsed}
use Rattle.element.specs.Edges.{spot, Diagonal, Quadratic, AtMiddle}
use Rattle.element.proofs.Formulas as E
use Rattle.element.proofs.Sums.{node_e, A9E, numbers}
use Rattle.element.proofs.Corners.{four-of}

-- ---- J at the middle of an edge: there it is the determinant of the difference of the edge's corners and another vector
pub no-det : {a b : Vec} (v : Vec) → a ≡ b → det (a -ᵥ b) v ≡ pos 0
no-det {a} {b} v e =
    rw (ap (λ (c : Vec). c.x) e, ap (λ (c : Vec). c.y) e)
    (solve (b.x ∷ b.y ∷ v.x ∷ v.y ∷ []) (E.det exprs (E.less exprs (node_e 0 0) (node_e 0 0)) (node_e 0 1)) (con (pos 0)) tt)

module _ (xs : List ℤ) where
  first_edge : SamePlace xs 0 1 → J6 xs 1 1 0 ≡ pos 0
  unfolding J6 slopeξ slopeη
  first_edge e =
      let o = con (pos 0) in let i = con (pos 1) in
      solve (numbers xs 0 12) (E.J6 exprs (node_e 0) i i o)
      (E.det exprs (E.less exprs (node_e 0 0) (node_e 0 1)) (E.by exprs (con (neg_ℤ (pos 2))) (E.slopeη exprs (node_e 0) i i o))) tt
      ∙ no-det (neg_ℤ (pos 2) *ᵥ slopeη xs (pos 1) (pos 1) (pos 0)) e

  second-edge : SamePlace xs 1 2 → J6 xs 0 1 1 ≡ pos 0
  unfolding J6 slopeξ slopeη
  second-edge e =
      let o = con (pos 0) in let i = con (pos 1) in
      solve (numbers xs 0 12) (E.J6 exprs (node_e 0) o i i)
      (E.det exprs (E.less exprs (node_e 0 1) (node_e 0 2)) (E.by exprs (con (pos 2)) (E.slopeη exprs (node_e 0) o i i))) tt
      ∙ no-det (pos 2 *ᵥ slopeη xs (pos 0) (pos 1) (pos 1)) e

  third-edge : SamePlace xs 0 2 → J6 xs 1 0 1 ≡ pos 0
  unfolding J6 slopeξ slopeη
  third-edge e =
      let o = con (pos 0) in let i = con (pos 1) in
      solve (numbers xs 0 12) (E.J6 exprs (node_e 0) i o i)
      (E.det exprs (E.less exprs (node_e 0 0) (node_e 0 2)) (E.by exprs (con (pos 2)) (E.slopeξ exprs (node_e 0) i o i))) tt
      ∙ no-det (pos 2 *ᵥ slopeξ xs (pos 1) (pos 0) (pos 1)) e

-- the quads' laws once, over the nodes A i j that the map takes
abbrev pairs : (ℕ → ℕ → Vec) → List ℤ
pairs A =
    (A 0 0).x ∷ (A 0 0).y ∷ (A 1 0).x ∷ (A 1 0).y ∷ (A 2 0).x ∷ (A 2 0).y
    ∷ (A 0 1).x ∷ (A 0 1).y ∷ (A 1 1).x ∷ (A 1 1).y ∷ (A 2 1).x ∷ (A 2 1).y
    ∷ (A 0 2).x ∷ (A 0 2).y ∷ (A 1 2).x ∷ (A 1 2).y ∷ (A 2 2).x ∷ (A 2 2).y ∷ []

module _ (A : ℕ → ℕ → Vec) where
  bottom : A 0 0 ≡ A 2 0 → JQ A 1 2 0 2 ≡ pos 0
  unfolding slope_u slope_v
  bottom e =
      let o = con (pos 0) in let i = con (pos 1) in let t = con (pos 2) in
      solve (pairs A) (E.JQ exprs (A9E 0) i t o t)
      (E.det exprs (E.less exprs (A9E 0 0 0) (A9E 0 2 0)) (E.by exprs (con (neg_ℤ (pos 8))) (E.slope_v exprs (A9E 0) i t o t))) tt
      ∙ no-det (neg_ℤ (pos 8) *ᵥ slope_v A (pos 1) (pos 2) (pos 0) (pos 2)) e

  top : A 0 2 ≡ A 2 2 → JQ A 1 2 2 2 ≡ pos 0
  unfolding slope_u slope_v
  top e =
      let i = con (pos 1) in let t = con (pos 2) in
      solve (pairs A) (E.JQ exprs (A9E 0) i t t t)
      (E.det exprs (E.less exprs (A9E 0 0 2) (A9E 0 2 2)) (E.by exprs (con (neg_ℤ (pos 8))) (E.slope_v exprs (A9E 0) i t t t))) tt
      ∙ no-det (neg_ℤ (pos 8) *ᵥ slope_v A (pos 1) (pos 2) (pos 2) (pos 2)) e

  left : A 0 0 ≡ A 0 2 → JQ A 0 2 1 2 ≡ pos 0
  unfolding slope_u slope_v
  left e =
      let o = con (pos 0) in let i = con (pos 1) in let t = con (pos 2) in
      solve (pairs A) (E.JQ exprs (A9E 0) o t i t)
      (E.det exprs (E.less exprs (A9E 0 0 0) (A9E 0 0 2)) (E.by exprs (con (pos 8)) (E.slope_u exprs (A9E 0) o t i t))) tt
      ∙ no-det (pos 8 *ᵥ slope_u A (pos 0) (pos 2) (pos 1) (pos 2)) e

  right : A 2 0 ≡ A 2 2 → JQ A 2 2 1 2 ≡ pos 0
  unfolding slope_u slope_v
  right e =
      let i = con (pos 1) in let t = con (pos 2) in
      solve (pairs A) (E.JQ exprs (A9E 0) t t i t)
      (E.det exprs (E.less exprs (A9E 0 2 0) (A9E 0 2 2)) (E.by exprs (con (pos 8)) (E.slope_u exprs (A9E 0) t t i t))) tt
      ∙ no-det (pos 8 *ᵥ slope_u A (pos 2) (pos 2) (pos 1) (pos 2)) e

  at-quad : (i j : ℕ) (x : InQuad) → QuadAt 1 i j x → JQ A i 2 j 2 ≡ pos 0 → JQ A x.p x.m x.q x.n ≡ pos 0
  at-quad i j x (a, b, c, d) z = rw (a, b, c, d) z

  -- the corners as `corners` has them
  abbrev quad_corner : ℕ → Vec
  quad_corner i = get_or (A 0 0 ∷ A 2 0 ∷ A 0 2 ∷ A 2 2 ∷ []) i (A 0 0)

  quad-zero : (i j : ℕ) → i < j → j < 4 → ¬ Diagonal nine i j
      → quad_corner i ≡ quad_corner j
      → (x : InQuad) → AtMiddle nine i j x
      → JQ A x.p x.m x.q x.n ≡ pos 0
  quad-zero i zero h l f e x m = absurd (N.not-suc-le-zero h)
  quad-zero zero (suc zero) h l f e x m = at-quad 1 0 x m (bottom e)
  quad-zero zero (suc (suc zero)) h l f e x m = at-quad 0 1 x m (left e)
  quad-zero (suc zero) (suc zero) h l f e x m = absurd (N.lt_irrefl 1 h)
  quad-zero i (suc (suc (suc zero))) h l f e x m = go i h f e m
    where
      go : (i : ℕ) → i < 3 → ¬ (i + 3 ≡ 3) → quad_corner i ≡ A 2 2 → AtMiddle nine i 3 x → JQ A x.p x.m x.q x.n ≡ pos 0
      go zero h f e m = absurd (f refl)
      go (suc zero) h f e m = at-quad 2 1 x m (right e)
      go (suc (suc zero)) h f e m = at-quad 1 2 x m (top e)
      go (suc (suc (suc i))) h f e m = absurd (omega arith)
  quad-zero (suc i) (suc (suc zero)) h l f e x m = absurd (f (let z : suc i + 2 ≡ 3 = omega arith in z))
  quad-zero (suc (suc i)) (suc zero) h l f e x m = absurd (omega arith)
  quad-zero i (suc (suc (suc (suc j)))) h l f e x m = absurd (omega arith)

triangle-zero : (xs : List ℤ) (i j : ℕ) → i < j → j < 3
    → SamePlace xs (corner six i) (corner six j)
    → (x : Place six) → AtMiddle six i j x
    → J6 xs x.p x.q x.r ≡ pos 0
triangle-zero xs i zero h l e x m = absurd (N.not-suc-le-zero h)
triangle-zero xs zero (suc zero) h l e x (a, b, c) = rw ((let p : x.p ≡ 1 = omega arith in p), a, b) (first_edge xs e)
triangle-zero xs zero (suc (suc zero)) h l e x (a, b, c) = rw ((let p : x.p ≡ 1 = omega arith in p), a, b) (third-edge xs e)
triangle-zero xs (suc zero) (suc (suc zero)) h l e x (a, b, c) = rw ((let p : x.p ≡ 0 = omega arith in p), a, b) (second-edge xs e)
triangle-zero xs (suc i) (suc zero) h l e x m = absurd (omega arith)
triangle-zero xs (suc (suc i)) (suc (suc zero)) h l e x m = absurd (omega arith)
triangle-zero xs i (suc (suc (suc j))) h l e x m = absurd (omega arith)

pub edge-zero : (k : Kind) (xs : List ℤ) (c : Collapsed k xs) → Quadratic k → ¬ Diagonal k c.first c.second
    → (x : Place k) → AtMiddle k c.first c.second x
    → jacobian k xs x ≡ pos 0
unfolding J9 J8 fourfold8
edge-zero six xs c t f x m = triangle-zero xs c.first c.second c.before c.within c.together x m
edge-zero eight xs c t f x m =
    let it : (i : ℕ) → i < 4 → quad_corner (fourfold8 xs) i ≡ pos 4 *ᵥ node xs (corner eight i) =
    four-of (λ i. quad_corner (fourfold8 xs) i ≡ pos 4 *ᵥ node xs (corner eight i)) refl refl refl refl in
    quad-zero (fourfold8 xs) c.first c.second c.before c.within f
    (it c.first (N.lt_trans c.before c.within) ∙ ap (λ (v : Vec). pos 4 *ᵥ v) c.together ∙ sym (it c.second c.within)) x m
edge-zero nine xs c t f x m =
    let it : (i : ℕ) → i < 4 → quad_corner (A9 xs) i ≡ node xs (corner nine i) =
    four-of (λ i. quad_corner (A9 xs) i ≡ node xs (corner nine i)) refl refl refl refl in
    quad-zero (A9 xs) c.first c.second c.before c.within f
    (it c.first (N.lt_trans c.before c.within) ∙ c.together ∙ sym (it c.second c.within)) x m
edge-zero ten xs c t f x m = absurd t

-- ---- where the corners are: points of the grid of level 0, and their middles of level 1
spot6 : (i : ℕ) → OnGrid six 0 (spot six i).0 (spot six i).1
spot6 zero = lit≤ tt
spot6 (suc zero) = lit≤ tt
spot6 (suc (suc zero)) = lit≤ tt
spot6 (suc (suc (suc i))) = lit≤ tt

spot9 : (i : ℕ) → OnGrid nine 0 (spot nine i).0 (spot nine i).1
spot9 zero = (lit≤ tt, lit≤ tt)
spot9 (suc zero) = (lit≤ tt, lit≤ tt)
spot9 (suc (suc zero)) = (lit≤ tt, lit≤ tt)
spot9 (suc (suc (suc zero))) = (lit≤ tt, lit≤ tt)
spot9 (suc (suc (suc (suc i)))) = (lit≤ tt, lit≤ tt)

middle9 : (i j : ℕ) → OnGrid nine 1 ((spot nine i).0 + (spot nine j).0) ((spot nine i).1 + (spot nine j).1)
middle9 i j = let (a, b) = spot9 i in let (c, d) = spot9 j in (omega arith, omega arith)

pub middle-on : (k : Kind) (i j : ℕ) → OnGrid k 1 ((spot k i).0 + (spot k j).0) ((spot k i).1 + (spot k j).1)
middle-on six i j = let a = spot6 i in let b = spot6 j in omega arith
middle-on eight i j = middle9 i j
middle-on nine i j = middle9 i j
middle-on ten i j = let a = spot6 i in let b = spot6 j in omega arith
