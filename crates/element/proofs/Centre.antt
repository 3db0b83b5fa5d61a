-- The centre of an eight-node quad is the point of relation 31, and its control points are those of 01's rule for nine nodes there.
--   centre-relation : the definition's centre satisfies relation 31
--   centre-only     : and no other point does, whole or not
--   reduced-map     : the map through nine nodes, with that centre, is the map of the reduced functions through eight (relation 28)
--   reduced-slopes  : so X_u and X_v, which J is made of, are the slopes by the reduced functions
--   nine-rule       : the fourfold control points are 01's for nine nodes, taken at that centre (both sides four times as large)
--   point-relation  : the control points satisfy relation 31 too: "P11 .. the same expression as A11"
--   example-nodes, example-point : the example of 02
-- For all coordinates. Assumes nothing.
use mathlib.Core.Path.{◌≡◌, refl, ◌∙◌, ap}
use mathlib.Core.List.{List, [], ◌∷◌}
use Prim.Native.Nat.{ℕ, zero, suc, ◌+◌, ◌*◌}
use lib.IntN.{ℤ, pos, ◌+ℤ◌, ◌-ℤ◌, ◌*ℤ◌, +ℤ_idl}
use Rattle.algebra.specs.Expr.{Expr, exprs, var, con, ◌⊕◌, ◌⊖◌, ◌⊗◌}
use Rattle.algebra.proofs.Solve.{solve}
use Rattle.element.specs.Plane.{Vec, ◌*ᵥ◌, sumᵥ}
use Rattle.element.specs.Nodes.{A8}
use Rattle.element.specs.Centre.{corner_sum, edge_sum, Relation31, share, reduced_sum}
use Rattle.element.specs.Jacobian.{s, s', slope_u, slope_v, fourfold8}
use Rattle.element.specs.Control.{edge, centre9, centre8, points, R8}
use Rattle.element.proofs.Formulas as E
use Rattle.element.proofs.Plane.{vec-eq, along, grid_e}

-- ---- relation 31, along one coordinate: s and t are the sums of the corners and of the edge nodes
balanced : (s t : ℤ) → pos 4 *ℤ (pos 2 *ℤ t -ℤ s) +ℤ pos 4 *ℤ s -ℤ pos 2 *ℤ (pos 4 *ℤ t) ≡ pos 0
balanced s t =
    solve (s ∷ t ∷ [])
    (con (pos 4) ⊗ (con (pos 2) ⊗ var 1 ⊖ var 0) ⊕ con (pos 4) ⊗ var 0 ⊖ con (pos 2) ⊗ (con (pos 4) ⊗ var 1)) (con (pos 0)) tt

solved : (n c s t : ℤ) → pos 4 *ℤ c +ℤ n *ℤ s -ℤ pos 2 *ℤ (n *ℤ t) ≡ pos 0 → pos 4 *ℤ c ≡ n *ℤ (pos 2 *ℤ t -ℤ s)
solved n c s t h = apart ∙ ap (λ z. z +ℤ n *ℤ (pos 2 *ℤ t -ℤ s)) h ∙ +ℤ_idl (n *ℤ (pos 2 *ℤ t -ℤ s))
  where
    apart : pos 4 *ℤ c ≡ pos 4 *ℤ c +ℤ n *ℤ s -ℤ pos 2 *ℤ (n *ℤ t) +ℤ n *ℤ (pos 2 *ℤ t -ℤ s)
    apart =
        solve (n ∷ c ∷ s ∷ t ∷ []) (con (pos 4) ⊗ var 1)
        (con (pos 4) ⊗ var 1 ⊕ var 0 ⊗ var 2 ⊖ con (pos 2) ⊗ (var 0 ⊗ var 3) ⊕ var 0 ⊗ (con (pos 2) ⊗ var 3 ⊖ var 2)) tt

-- four times the nodes, as variables from b on
abbrev fourfold_e : ℕ → ℕ → ℕ → E.Pair Expr
fourfold_e b = E.fourfold exprs (grid_e b) (E.centre_node exprs (grid_e b))

edge-fourfold : (m a b : Vec) → edge (pos 4 *ᵥ m) (pos 4 *ᵥ a) (pos 4 *ᵥ b) ≡ pos 4 *ᵥ edge m a b
edge-fourfold m a b = vec-eq (one m.x a.x b.x) (one m.y a.y b.y)
  where
    one : (m a b : ℤ)
        → pos 8 *ℤ (pos 4 *ℤ m) -ℤ pos 2 *ℤ (pos 4 *ℤ a) -ℤ pos 2 *ℤ (pos 4 *ℤ b)
        ≡ pos 4 *ℤ (pos 8 *ℤ m -ℤ pos 2 *ℤ a -ℤ pos 2 *ℤ b)
    one m a b =
        solve (m ∷ a ∷ b ∷ [])
        (con (pos 8) ⊗ (con (pos 4) ⊗ var 0) ⊖ con (pos 2) ⊗ (con (pos 4) ⊗ var 1) ⊖ con (pos 2) ⊗ (con (pos 4) ⊗ var 2))
        (con (pos 4) ⊗ (con (pos 8) ⊗ var 0 ⊖ con (pos 2) ⊗ var 1 ⊖ con (pos 2) ⊗ var 2)) tt

module _ (xs : List ℤ) where
  pub centre-relation : Relation31 (A8 xs) 4 (fourfold8 xs 1 1)
  unfolding fourfold8
  centre-relation =
      let corners : Vec = corner_sum (A8 xs) in let edges : Vec = edge_sum (A8 xs) in
      vec-eq (balanced corners.x edges.x) (balanced corners.y edges.y)

  -- c/n is the definition's centre, which is kept four times as large
  pub centre-only : (n : ℕ) (c : Vec) → Relation31 (A8 xs) n c → pos 4 *ᵥ c ≡ pos n *ᵥ fourfold8 xs 1 1
  unfolding fourfold8
  centre-only n c h =
      let corners : Vec = corner_sum (A8 xs) in let edges : Vec = edge_sum (A8 xs) in
      vec-eq (solved (pos n) c.x corners.x edges.x (ap (λ v. v.x) h)) (solved (pos n) c.y corners.y edges.y (ap (λ v. v.y) h))

  -- ---- relation 28, for any nine functions f
  pub reduced-map : (f : ℕ → ℕ → ℤ) → sumᵥ 3 (λ i. sumᵥ 3 (λ j. f i j *ᵥ fourfold8 xs i j)) ≡ reduced_sum (A8 xs) f
  unfolding fourfold8
  reduced-map f = vec-eq (solve (values (λ v. v.x)) left right tt) (solve (values (λ v. v.y)) left right tt)
    where
      values : (Vec → ℤ) → List ℤ
      values g = f 0 0 ∷ f 1 0 ∷ f 2 0 ∷ f 0 1 ∷ f 1 1 ∷ f 2 1 ∷ f 0 2 ∷ f 1 2 ∷ f 2 2 ∷ along g (A8 xs)

      f_e : ℕ → ℕ → Expr
      f_e i j = var (i + 3 * j)

      left : Expr
      left = E.sum exprs 3 (λ i. E.sum exprs 3 (λ j. f_e i j ⊗ (fourfold_e 9 i j).x))

      right : Expr
      right = E.sum exprs 3 (λ i. E.sum exprs 3 (λ j. (con (pos 4) ⊗ f_e i j ⊕ con (share i j) ⊗ f_e 1 1) ⊗ (grid_e 9 i j).x))

  pub reduced-slopes : (p m q n : ℤ)
      → (slope_u (fourfold8 xs) p m q n ≡ reduced_sum (A8 xs) (λ i j. s' p m i *ℤ s q n j))
      × (slope_v (fourfold8 xs) p m q n ≡ reduced_sum (A8 xs) (λ i j. s p m i *ℤ s' q n j))
  unfolding slope_u slope_v
  reduced-slopes p m q n = (reduced-map (λ i j. s' p m i *ℤ s q n j), reduced-map (λ i j. s p m i *ℤ s' q n j))

  -- ---- the control points
  nine-centre : centre9 (fourfold8 xs) ≡ pos 4 *ᵥ centre8 (A8 xs)
  unfolding fourfold8
  nine-centre = vec-eq (solve (along (λ v. v.x) (A8 xs)) left right tt) (solve (along (λ v. v.y) (A8 xs)) left right tt)
    where
      left : Expr
      left = (E.centre9 exprs (fourfold_e 0)).x

      right : Expr
      right = con (pos 4) ⊗ (E.centre8 exprs (grid_e 0)).x

  pub nine-rule : (i j : ℕ) → points (fourfold8 xs) (centre9 (fourfold8 xs)) i j ≡ pos 4 *ᵥ R8 xs i j
  unfolding fourfold8
  nine-rule zero zero = refl
  nine-rule (suc zero) zero = edge-fourfold (A8 xs 1 0) (A8 xs 0 0) (A8 xs 2 0)
  nine-rule (suc (suc i)) zero = refl
  nine-rule zero (suc zero) = edge-fourfold (A8 xs 0 1) (A8 xs 0 0) (A8 xs 0 2)
  nine-rule (suc zero) (suc zero) = nine-centre
  nine-rule (suc (suc i)) (suc zero) = edge-fourfold (A8 xs 2 1) (A8 xs 2 0) (A8 xs 2 2)
  nine-rule zero (suc (suc j)) = refl
  nine-rule (suc zero) (suc (suc j)) = edge-fourfold (A8 xs 1 2) (A8 xs 0 2) (A8 xs 2 2)
  nine-rule (suc (suc i)) (suc (suc j)) = refl

  pub point-relation : Relation31 (R8 xs) 1 (R8 xs 1 1)
  point-relation = vec-eq (solve (along (λ v. v.x) (A8 xs)) left right tt) (solve (along (λ v. v.y) (A8 xs)) left right tt)
    where
      R : ℕ → ℕ → E.Pair Expr
      R = E.points exprs (grid_e 0) (E.centre8 exprs (grid_e 0))

      left : Expr
      left =
          con (pos 4) ⊗ (R 1 1).x ⊕ con (pos 1) ⊗ (E.corner_sum exprs R).x
          ⊖ con (pos 2) ⊗ (con (pos 1) ⊗ (E.edge_sum exprs R).x)

      right : Expr
      right = con (pos 0)

-- ---- "For corners (0,0), (4,0), (0,4), (4,4), edge nodes (2,1), (4,2), (2,4), (0,2), it becomes (8,12)"
abbrev pub vec : ℕ → ℕ → Vec
vec a b = record { x = pos a; y = pos b }

abbrev pub example : List ℤ
example =
    pos 0 ∷ pos 0 ∷ pos 2 ∷ pos 1 ∷ pos 4 ∷ pos 0 ∷ pos 0 ∷ pos 2
    ∷ pos 4 ∷ pos 2 ∷ pos 0 ∷ pos 4 ∷ pos 2 ∷ pos 4 ∷ pos 4 ∷ pos 4 ∷ []

pub example-nodes : (A8 example 0 0 ≡ vec 0 0)
    × (A8 example 2 0 ≡ vec 4 0)
    × (A8 example 0 2 ≡ vec 0 4)
    × (A8 example 2 2 ≡ vec 4 4)
    × (A8 example 1 0 ≡ vec 2 1)
    × (A8 example 2 1 ≡ vec 4 2)
    × (A8 example 1 2 ≡ vec 2 4)
    × (A8 example 0 1 ≡ vec 0 2)
example-nodes = (refl, refl, refl, refl, refl, refl, refl, refl)

pub example-point : R8 example 1 1 ≡ vec 8 12
example-point = refl
