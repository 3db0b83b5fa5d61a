-- Laws of vectors, from laws of whole numbers along each coordinate.
--   vec-eq      : vectors with equal coordinates are equal
--   along g N   == nine vectors N along the coordinate g, as the solver's numbers
--   grid_e b i j == the variable that stands for the vector ij, where they begin at b
-- Assumes nothing.
use mathlib.Core.Path.{◌≡◌}
use mathlib.Core.List.{List, [], ◌∷◌}
use Prim.Native.Nat.{ℕ, ◌+◌, ◌*◌}
use lib.IntN.{ℤ}
use Rattle.algebra.specs.Expr.{Expr, var}
use Rattle.element.specs.Plane.{Vec}
use Rattle.element.proofs.Formulas as E

pub vec-eq : {a b : Vec} → a.x ≡ b.x → a.y ≡ b.y → a ≡ b
vec-eq e f = λ i. record { x = e i; y = f i }

abbrev pub along : (Vec → ℤ) → (ℕ → ℕ → Vec) → List ℤ
along g N =
    g (N 0 0) ∷ g (N 1 0) ∷ g (N 2 0) ∷ g (N 0 1) ∷ g (N 1 1) ∷ g (N 2 1) ∷ g (N 0 2) ∷ g (N 1 2) ∷ g (N 2 2) ∷ []

abbrev pub grid_e : ℕ → ℕ → ℕ → E.Pair Expr
grid_e b i j = record { x = var (b + (i + 3 * j)); y = var (b + (i + 3 * j)) }
