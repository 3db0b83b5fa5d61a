-- Corners at one place, and S.
--   collapsed-straight : where two corners stand at one place S is zero, so 17 would be given if 21 did not stand before it
-- Assumes nothing.
use mathlib.Core.Path.{◌≡◌, ◌∙◌}
use mathlib.Core.List.{List}
use Prim.Native.Nat.{ℕ, zero, suc, ◌<◌}
use native.Mathlib.Nat as N
use native.Mathlib.Omega.{arith}
use lib.IntN.{ℤ, pos}
use Rattle.algebra.specs.Expr.{Expr, exprs}
use Rattle.algebra.proofs.Solve.{solve}
use Rattle.element.specs.Kinds.{six}
use Rattle.element.specs.Plane.{◌-ᵥ◌}
use Rattle.element.specs.Nodes.{A0, A1, A2}
use Rattle.element.specs.Corners.{corner, SamePlace, Collapsed}
use Rattle.element.proofs.Formulas as E
use Rattle.element.proofs.Sums.{node_e, numbers}
use Rattle.element.proofs.Edges.{no-det}
use Rattle.floor.specs.Floor.{straight}

-- from node a to node b
abbrev to : ℕ → ℕ → E.Pair Expr
to a b = E.less exprs (node_e 0 b) (node_e 0 a)

-- S is the determinant of the difference of any two corners and another one
straight-zero : (xs : List ℤ) (i j : ℕ) → i < j → j < 3 → SamePlace xs (corner six i) (corner six j) → straight xs ≡ pos 0
unfolding straight
straight-zero xs i zero h l e = absurd (N.not-suc-le-zero h)
straight-zero xs zero (suc zero) h l e =
    solve (numbers xs 0 6) (E.det exprs (to 0 1) (to 0 2)) (E.det exprs (to 1 0) (to 2 0)) tt ∙ no-det (A0 xs -ᵥ A2 xs) e
straight-zero xs zero (suc (suc zero)) h l e =
    solve (numbers xs 0 6) (E.det exprs (to 0 1) (to 0 2)) (E.det exprs (to 2 0) (to 0 1)) tt ∙ no-det (A1 xs -ᵥ A0 xs) e
straight-zero xs (suc zero) (suc (suc zero)) h l e =
    solve (numbers xs 0 6) (E.det exprs (to 0 1) (to 0 2)) (E.det exprs (to 2 1) (to 0 2)) tt ∙ no-det (A2 xs -ᵥ A0 xs) e
straight-zero xs (suc i) (suc zero) h l e = absurd (omega arith)
straight-zero xs (suc (suc i)) (suc (suc zero)) h l e = absurd (omega arith)
straight-zero xs i (suc (suc (suc j))) h l e = absurd (omega arith)

pub collapsed-straight : (xs : List ℤ) → Collapsed six xs → straight xs ≡ pos 0
collapsed-straight xs c = straight-zero xs c.first c.second c.before c.within c.together
