-- The sums that the code writes out are the quarters of a triangle cell.
--   edge, double, beside, sums == those sums, as expressions: at the middle of an edge, between two values, between the three edges,
--                  and all of quarter i
--   sums-quarter : they are the rows of the shape's table
-- Assumes nothing.
use mathlib.Core.Path.{◌≡◌}
use mathlib.Core.List.{List, [], ◌∷◌}
use Prim.Native.Nat.{ℕ}
use lib.IntN.{ℤ, pos}
use lib.ListN.{get_or}
use Rattle.algebra.specs.Expr.{Expr, var, con, ◌⊕◌, ◌⊗◌, evals}
use Rattle.forms.specs.Rows.{weigh}
use Rattle.forms.specs.Cuttings.{Four, first, second, third, fourth}
use Rattle.forms.specs.Shapes.{cut_to}
use Rattle.forms.specs.Triangles.{six}
use Rattle.cells.proofs.Sums.{sums-are}

abbrev times : ℕ → Expr → Expr
times n e = con (pos n) ⊗ e

-- the middle m of the edge from a to b
abbrev edge : ℕ → ℕ → ℕ → Expr
edge a m b = var a ⊕ times 2 (var m) ⊕ var b

abbrev double : ℕ → ℕ → Expr
double a b = times 2 (var a ⊕ var b)

abbrev beside : ℕ → Expr
beside a = var a ⊕ (var 3 ⊕ var 4 ⊕ var 5)

abbrev sums : Four → List Expr
sums first = times 4 (var 0) ∷ edge 0 3 1 ∷ edge 0 5 2 ∷ double 0 3 ∷ beside 0 ∷ double 0 5 ∷ []
sums second = edge 0 3 1 ∷ times 4 (var 1) ∷ edge 1 4 2 ∷ double 3 1 ∷ double 1 4 ∷ beside 1 ∷ []
sums third = edge 0 5 2 ∷ edge 1 4 2 ∷ times 4 (var 2) ∷ beside 2 ∷ double 4 2 ∷ double 5 2 ∷ []
sums fourth = edge 1 4 2 ∷ edge 0 5 2 ∷ edge 0 3 1 ∷ beside 2 ∷ beside 0 ∷ beside 1 ∷ []

-- the six values of a cell
abbrev at : List ℤ → ℕ → ℤ
at c k = get_or c k (pos 0)

abbrev values : List ℤ → List ℤ
values c = at c 0 ∷ at c 1 ∷ at c 2 ∷ at c 3 ∷ at c 4 ∷ at c 5 ∷ []

pub sums-quarter : (i : Four) (c : List ℤ) → evals (values c) (sums i) ≡ cut_to six i c
unfolding weigh
sums-quarter first c = sums-are (values c) (sums first) (six.table first) tt
sums-quarter second c = sums-are (values c) (sums second) (six.table second) tt
sums-quarter third c = sums-are (values c) (sums third) (six.table third) tt
sums-quarter fourth c = sums-are (values c) (sums fourth) (six.table fourth) tt
