-- The cells of the shifted values, level by level (02: "cells are tested on 100 times the control value minus 2·p·S, scaled with the level").
--   cell-shifted   : a cell of level d is the cell of the control values, shifted at level d
-- Assumes nothing.
use mathlib.Core.Path.{◌≡◌, refl, sym, ◌∙◌, ap}
use mathlib.Core.List.{List, [], ◌∷◌, map}
use Prim.Native.Nat.{ℕ, suc, ◌+◌, ◌*◌, ◌^◌}
use native.Mathlib.Nat as N
use native.Mathlib.Omega.{arith}
use lib.Dec.{T}
use lib.IntN.{ℤ, pos, ◌-ℤ◌, ◌*ℤ◌}
use lib.ListN.{length}
use Rattle.algebra.specs.Expr.{var, ◌⊗◌}
use Rattle.algebra.proofs.Solve.{solve}
use Rattle.forms.specs.Cuttings.{Four, first, second, third, fourth}
use Rattle.forms.specs.Shapes.{cut_to}
use Rattle.forms.specs.Triangles as T
use Rattle.forms.proofs.Shifts.{even, quarter-shift}
use Rattle.element.specs.Kinds.{six, scale}
use Rattle.element.specs.Control.{values6, control_values}
use Rattle.element.specs.Cells.{cell}
use Rattle.floor.specs.Floor.{share, shift, shifted}

tables-even : (q : Four) → T (even 4 6 ((T.six).table q))
tables-even first = tt
tables-even second = tt
tables-even third = tt
tables-even fourth = tt

quarter-long : (q : Four) (c : List ℤ) → length (cut_to T.six q c) ≡ 6
quarter-long first c = refl
quarter-long second c = refl
quarter-long third c = refl
quarter-long fourth c = refl

module _ (p : ℕ) (xs : List ℤ) where
  -- four times 2·4^d is 2·4^(d+1)
  next-scale : (d : ℕ) (s : ℤ) → pos 4 *ℤ (pos (scale six d) *ℤ s) ≡ pos (scale six (suc d)) *ℤ s
  next-scale d s =
      let e : 4 * (2 * 4 ^ d) ≡ 2 * 4 ^ suc d = rw (N.pow-suc 4 d) (omega arith) in
      solve (pos (scale six d) ∷ s ∷ pos 4 ∷ []) (var 2 ⊗ (var 0 ⊗ var 1)) (var 2 ⊗ var 0 ⊗ var 1) tt
      ∙ ap (λ (n : ℕ). pos n *ℤ s) e

  quarter-shifted : (q : Four) (d : ℕ) (c : List ℤ) → length c ≡ 6 → cut_to T.six q (shift p xs d c) ≡ shift p xs (suc d) (cut_to T.six q c)
  quarter-shifted q d c e =
      quarter-shift (pos 100) (pos (scale six d) *ℤ share p xs) 4 ((T.six).table q) c (rw e (tables-even q))
      ∙ ap (λ (z : ℤ). map (λ y. pos 100 *ℤ y -ℤ z) (cut_to T.six q c)) (next-scale d (share p xs))

  cells : (path : List Four) (d : ℕ) (c : List ℤ) → length c ≡ 6 → cell six path (shift p xs d c) ≡ shift p xs (d + length path) (cell six path c)
  cells [] d c e = ap (λ (n : ℕ). shift p xs n c) (sym (N.add-zero d))
  cells (q ∷ path) d c e =
      ap (cell six path) (quarter-shifted q d c e)
      ∙ cells path (suc d) (cut_to T.six q c) (quarter-long q c)
      ∙ ap (λ (n : ℕ). shift p xs n (cell six path (cut_to T.six q c))) (N.suc-add d (length path) ∙ sym (N.add-suc d (length path)))

  six-values : length (control_values six xs) ≡ 6
  unfolding control_values values6
  six-values = refl

  pub cell-shifted : (path : List Four) → cell six path (shifted p xs) ≡ shift p xs (length path) (cell six path (control_values six xs))
  cell-shifted path =
      cells path 0 (control_values six xs) six-values
      ∙ ap (λ (n : ℕ). shift p xs n (cell six path (control_values six xs))) (N.zero-add (length path))
