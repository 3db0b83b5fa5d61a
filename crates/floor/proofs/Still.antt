-- What a floor is made of does not move with the origin (02, Ask 7).
--   straight-moved : S
--   shifted-moved  : the shifted values
-- Assumes nothing.
use mathlib.Core.Path.{◌≡◌, ap₂, subst}
use mathlib.Core.List.{List, ◌∷◌, map}
use Prim.Native.Nat.{ℕ}
use lib.IntN.{ℤ, pos, ◌-ℤ◌, ◌*ℤ◌}
use lib.ListN.{length}
use Rattle.algebra.specs.Expr.{Expr, exprs}
use Rattle.algebra.proofs.Solve.{solve}
use Rattle.element.specs.Kinds.{six, scale}
use Rattle.element.specs.Origin.{moved_by}
use Rattle.element.proofs.Formulas as E
use Rattle.element.proofs.Sums.{node_e, numbers}
use Rattle.element.proofs.Origin.{moved_e, numbers-all, values_moved}
use Rattle.floor.specs.Floor.{straight, shifted}

-- S over the nodes N 0 .. N 2
abbrev straight_e : (ℕ → E.Pair Expr) → Expr
straight_e N = E.det exprs (E.less exprs (N 1) (N 0)) (E.less exprs (N 2) (N 0))

module _ (a b : ℤ) (xs : List ℤ) (long : length xs ≡ 12) where
  numbered : straight (moved_by a b (numbers xs 0 12)) ≡ straight (numbers xs 0 12)
  unfolding straight
  numbered = solve (a ∷ b ∷ numbers xs 0 12) (straight_e (moved_e 2)) (straight_e (node_e 2)) tt

  pub straight-moved : straight (moved_by a b xs) ≡ straight xs
  straight-moved = subst (λ (l : List ℤ). straight (moved_by a b l) ≡ straight l) (numbers-all 12 xs long) numbered

  pub shifted-moved : (p : ℕ) → shifted p (moved_by a b xs) ≡ shifted p xs
  shifted-moved p =
      ap₂ (λ (s : ℤ) (c : List ℤ). map (λ z. pos 100 *ℤ z -ℤ pos (scale six 0) *ℤ (pos p *ℤ s)) c) straight-moved (values_moved a b xs six long)
