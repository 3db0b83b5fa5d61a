-- The quarters at the second and the third corner are those at the first corner of the cell turned, and turned back.
--   turns          == the places of a turned cell's values in the cell
--   second-turned, third-turned : as the code turns them
--   places-cut     : a quarter by the values of a list is that of the list
-- Assumes nothing.
use mathlib.Core.Path.{◌≡◌, refl}
use mathlib.Core.List.{List, [], ◌∷◌, map}
use Prim.Native.Nat.{ℕ}
use lib.IntN.{ℤ, pos}
use lib.ListN.{get_or}
use Rattle.algebra.specs.Expr.{Expr, con}
use Rattle.forms.specs.Rows.{weigh}
use Rattle.forms.specs.Cuttings.{Four, first, second, third, fourth}
use Rattle.forms.specs.Shapes.{cut_to}
use Rattle.forms.specs.Triangles.{ten}
use Rattle.cells.proofs.Sums.{sums-are}
use Rattle.cubic_cuts.specs.declared.by_sums.Cell4.{Cell4}
use Rattle.cubic_cuts.specs.Cells.{values4, taken, places}
use Rattle.cubic_cuts.proofs.Sums.{from, cut}

abbrev pub turns : List ℕ
turns = 4 ∷ 8 ∷ 11 ∷ 13 ∷ 14 ∷ 3 ∷ 7 ∷ 10 ∷ 12 ∷ 2 ∷ 6 ∷ 9 ∷ 1 ∷ 5 ∷ 0 ∷ []

abbrev turn : List Expr → List Expr
turn es = map (λ k. get_or es k (con (pos 0))) turns

abbrev at_first : List Expr → List Expr
at_first es = cut (ten.table first) es

pub second-turned : (c : Cell4) → taken turns (taken turns (cut_to ten first (taken turns (values4 c)))) ≡ cut_to ten second (values4 c)
unfolding weigh
second-turned c = sums-are (values4 c) (turn (turn (at_first (turn (from 0 15))))) (ten.table second) tt

pub third-turned : (c : Cell4) → taken turns (cut_to ten first (taken turns (taken turns (values4 c)))) ≡ cut_to ten third (values4 c)
unfolding weigh
third-turned c = sums-are (values4 c) (turn (at_first (turn (turn (from 0 15))))) (ten.table third) tt

pub places-cut : (i : Four) (l : List ℤ) → cut_to ten i (taken places l) ≡ cut_to ten i l
unfolding weigh
places-cut first l = refl
places-cut second l = refl
places-cut third l = refl
places-cut fourth l = refl
