-- The cubic map through ten nodes, by its shape functions: each is 1 at its own node and 0 at the other nine; and what a derivative is,
-- in whole numbers.
--   corner w p       == 2w³ times the shape function of the corner with the weight p, where w = p + q + r
--   near w p q       == that of the node on the edge between the corners with the weights p and q, a third from the first
--   lagrange xs p q r == 2w³·X at ξ = q/w, η = r/w
--   weights10 k      == three times the weights of node k: where it stands in the element
--   Gains F D        == where t grows from 0, F gains t times D, up to a multiple of t²: D is the derivative of F at 0
-- Definitions only.
use Rattle.std.specs.Prelude.{◌≡◌, List, [], ◌∷◌, ℕ, ℤ, pos, ◌+ℤ◌, ◌-ℤ◌, ◌*ℤ◌, get_or}
use Rattle.element.specs.Plane.{Vec, ◌+ᵥ◌, ◌*ᵥ◌}
use Rattle.element.specs.Nodes.{node}

abbrev pub corner : ℤ → ℤ → ℤ
corner w p = p *ℤ (pos 3 *ℤ p -ℤ w) *ℤ (pos 3 *ℤ p -ℤ pos 2 *ℤ w)

abbrev pub near : ℤ → ℤ → ℤ → ℤ
near w p q = pos 9 *ℤ (p *ℤ q *ℤ (pos 3 *ℤ p -ℤ w))

unfoldable pub lagrange : List ℤ → ℤ → ℤ → ℤ → Vec
lagrange xs p q r =
    let w : ℤ = p +ℤ q +ℤ r in
    corner w p *ᵥ node xs 0 +ᵥ corner w q *ᵥ node xs 1 +ᵥ corner w r *ᵥ node xs 2
    +ᵥ near w p q *ᵥ node xs 3 +ᵥ near w q p *ᵥ node xs 4 +ᵥ near w q r *ᵥ node xs 5 +ᵥ near w r q *ᵥ node xs 6
    +ᵥ near w r p *ᵥ node xs 7 +ᵥ near w p r *ᵥ node xs 8 +ᵥ (pos 54 *ℤ (p *ℤ q *ℤ r)) *ᵥ node xs 9

-- "corners A0, A1, A2, then two nodes a third apart on edges 01, 12, 20 in that direction, then the centre"
abbrev pub weights10 : ℕ → List ℕ
weights10 k =
    get_or
    ((3 ∷ 0 ∷ 0 ∷ []) ∷ (0 ∷ 3 ∷ 0 ∷ []) ∷ (0 ∷ 0 ∷ 3 ∷ []) ∷ (2 ∷ 1 ∷ 0 ∷ []) ∷ (1 ∷ 2 ∷ 0 ∷ []) ∷ (0 ∷ 2 ∷ 1 ∷ []) ∷ (0 ∷ 1 ∷ 2 ∷ [])
    ∷ (1 ∷ 0 ∷ 2 ∷ []) ∷ (2 ∷ 0 ∷ 1 ∷ []) ∷ (1 ∷ 1 ∷ 1 ∷ []) ∷ []) k []

pub record Gains (F : ℤ → Vec) (D : Vec) : Type 0 where
  pub rest : ℤ → Vec
  pub gained : (t : ℤ) → F t ≡ F (pos 0) +ᵥ t *ᵥ D +ᵥ (t *ℤ t) *ᵥ rest t
