-- 01's rule for the centre of eight nodes, the mean of the edge nodes, which relation 31 has replaced: where nothing changes, and
-- that elsewhere something does. Kept for these laws alone: no answer rests on it.
--   mean_nodes, mean_points xs == the fourfold nodes and control points by that rule
--   mean-only    : the two centres are one only where the edge sum and the corner sum are equal
--   mean-nodes, mean-points : and there all nodes and all control points are the same
--   mean-J, mean-values : so J at every place, and the control values, are what they were
--   example-mean : the example of 02 by that rule
--   mean-parts   : at the point `right` of the element `apart` J was positive by that rule, and is negative
-- Assumes nothing.
use mathlib.Core.Path.{◌≡◌, refl, sym, ◌∙◌, ap}
use mathlib.Core.List.{List, [], ◌∷◌}
use Prim.Native.Nat.{ℕ}
use lib.Dec.{lit≤, lit<}
use lib.IntN.{ℤ, pos, neg_ℤ, ◌+ℤ◌, ◌-ℤ◌, ◌*ℤ◌}
use lib.Signed.{◌<ℤ◌, lt_z_yes}
use Rattle.algebra.specs.Expr.{var, con, ◌⊕◌, ◌⊖◌, ◌⊗◌}
use Rattle.algebra.proofs.Solve.{solve}
use Rattle.forms.specs.Quads.{sixteen}
use Rattle.element.specs.Kinds.{eight}
use Rattle.element.specs.Places.{Place}
use Rattle.element.specs.Plane.{Vec}
use Rattle.element.specs.Nodes.{A8}
use Rattle.element.specs.Centre.{corner_sum, edge_sum, fourfold}
use Rattle.element.specs.Jacobian.{slope_u, slope_v, JQ, fourfold8, J8, jacobian}
use Rattle.element.specs.Control.{points, value, R8, control_values}
use Rattle.element.proofs.Plane.{vec-eq}
use Rattle.element.proofs.Centre.{vec, example}

-- "For kind 8 the centre node is the mean of the four edge nodes, so R11 is the sum of the corners"
abbrev pub mean_nodes : List ℤ → ℕ → ℕ → Vec
mean_nodes xs = fourfold (A8 xs) (edge_sum (A8 xs))

abbrev pub mean_points : List ℤ → ℕ → ℕ → Vec
mean_points xs = points (A8 xs) (corner_sum (A8 xs))

-- ---- along one coordinate: s and t are the sums of the corners and of the edge nodes
sums : (s t : ℤ) → pos 2 *ℤ t -ℤ s ≡ t → t ≡ s
sums s t e =
    solve (s ∷ t ∷ []) (var 1) (con (pos 2) ⊗ var 1 ⊖ var 0 ⊕ (var 0 ⊖ var 1)) tt
    ∙ ap (λ z. z +ℤ (s -ℤ t)) e
    ∙ solve (s ∷ t ∷ []) (var 1 ⊕ (var 0 ⊖ var 1)) (var 0) tt

node : (s t : ℤ) → t ≡ s → pos 2 *ℤ t -ℤ s ≡ t
node s t e = ap (λ z. pos 2 *ℤ t -ℤ z) (sym e) ∙ solve (t ∷ []) (con (pos 2) ⊗ var 0 ⊖ var 0) (var 0) tt

point : (s t : ℤ) → t ≡ s → pos 4 *ℤ t -ℤ pos 3 *ℤ s ≡ s
point s t e = ap (λ z. pos 4 *ℤ z -ℤ pos 3 *ℤ s) e ∙ solve (s ∷ []) (con (pos 4) ⊗ var 0 ⊖ con (pos 3) ⊗ var 0) (var 0) tt

module _ (xs : List ℤ) where
  abbrev corners : Vec
  corners = corner_sum (A8 xs)

  abbrev edges : Vec
  edges = edge_sum (A8 xs)

  pub mean-only : fourfold8 xs 1 1 ≡ mean_nodes xs 1 1 → edge_sum (A8 xs) ≡ corner_sum (A8 xs)
  unfolding fourfold8
  mean-only e = vec-eq (sums corners.x edges.x (ap (λ v. v.x) e)) (sums corners.y edges.y (ap (λ v. v.y) e))

  -- ---- where the sums are equal
  module _ (e : edge_sum (A8 xs) ≡ corner_sum (A8 xs)) where
    pub mean-nodes : fourfold8 xs ≡ mean_nodes xs
    unfolding fourfold8
    mean-nodes =
        ap (fourfold (A8 xs))
        (vec-eq (node corners.x edges.x (ap (λ v. v.x) e)) (node corners.y edges.y (ap (λ v. v.y) e)))

    pub mean-points : R8 xs ≡ mean_points xs
    mean-points =
        ap (points (A8 xs))
        (vec-eq (point corners.x edges.x (ap (λ v. v.x) e)) (point corners.y edges.y (ap (λ v. v.y) e)))

    pub mean-J : (x : Place eight) → jacobian eight xs x ≡ JQ (mean_nodes xs) x.p x.m x.q x.n
    unfolding J8
    mean-J x = ap (λ N. JQ N x.p x.m x.q x.n) mean-nodes

    pub mean-values : control_values eight xs ≡ sixteen (value (mean_points xs))
    unfolding control_values
    mean-values = ap (λ R. sixteen (value R)) mean-points

-- ---- "where it was (8,8)"
pub example-mean : mean_points example 1 1 ≡ vec 8 8
example-mean = refl

-- an element, and its point u = 1, v = 3/4
abbrev pub apart : List ℤ
apart =
    pos 0 ∷ pos 0 ∷ pos 80 ∷ neg_ℤ (pos 60) ∷ pos 160 ∷ pos 0 ∷ pos 44 ∷ pos 80
    ∷ pos 104 ∷ pos 80 ∷ pos 0 ∷ pos 160 ∷ pos 80 ∷ pos 136 ∷ pos 160 ∷ pos 160 ∷ []

abbrev pub right : Place eight
right = record { p = 1; m = 1; q = 3; n = 4; u_below = lit≤ tt; v_below = lit≤ tt; m_above = lit< tt; n_above = lit< tt }

pub mean-parts : (pos 0 <ℤ JQ (mean_nodes apart) right.p right.m right.q right.n) × (jacobian eight apart right <ℤ pos 0)
unfolding J8 fourfold8 slope_u slope_v
mean-parts = (lt_z_yes tt, lt_z_yes tt)
