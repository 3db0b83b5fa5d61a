-- A triangle with a floor is worth judging, so the law of walks, uniqueness and the demands hold of it.
--   shifted-means   : the shifted values mean 100·J - p·S, as the control values mean J
--   floor-faithful  : so the triangle with the floor is a faithful subject
--   floor-walk      : and the walk over the shifted values answers its verdict
--   low-fallen, fallen-low, high-clear : the margin by 02's words, at a place
--   bad-fallen, fallen-bad : and at a grid point
--   shows-shifted   : what is shown at a grid point is 100 times the scaled J there, less 2·p·S taken 4^d times
-- Assumes nothing.
use mathlib.Core.Path.{◌≡◌, sym, ◌∙◌, ap}
use mathlib.Core.List.{List, [], ◌∷◌}
use Prim.Native.Nat.{ℕ, ◌+◌, ◌*◌}
use native.Mathlib.Nat as N
use lib.IntN.{ℤ, pos, ◌-ℤ◌, ◌*ℤ◌}
use lib.Signed.{◌≤ℤ◌, ◌<ℤ◌}
use Rattle.algebra.specs.Expr.{exprs, var, con, ◌⊕◌, ◌⊖◌, ◌⊗◌}
use Rattle.algebra.proofs.Ring.{1-*ℤ}
use Rattle.algebra.proofs.Solve.{solve}
use Rattle.algebra.proofs.Order.{≤0-sub, sub-≤0, sub-0<}
use Rattle.forms.specs.Shapes.{scaled}
use Rattle.forms.specs.Triangles as T
use Rattle.element.specs.Kinds.{six, scale}
use Rattle.element.specs.Places.{Place, weight_of}
use Rattle.element.specs.Jacobian.{jacobian, J6, factor, Shows}
use Rattle.element.specs.Control.{values6, control_values, sum6}
use Rattle.element.specs.Cells.{Means}
use Rattle.element.proofs.Formulas as E
use Rattle.element.proofs.Sums.{numbers, sum6-is-J, scaled-sum6}
use Rattle.element.proofs.Places.{scaled-is-J, place-grid, value-shows}
use Rattle.judge.specs.Verdict.{Judges}
use Rattle.judge.specs.Faithful.{Faithful}
use Rattle.judge.proofs.Faithful.{means-faithful}
use Rattle.walks.specs.Walk.{answer}
use Rattle.walks.specs.Elements.{chart_of, walk_of}
use Rattle.walks.proofs.Judged.{walk-judges}
use Rattle.walks.proofs.Elements.{charted}
use Rattle.floor.specs.Floor.{share, margin, Fallen, Clear, FallenAt, ShiftedAt, shifted, floored}

module _ (p : ℕ) (xs : List ℤ) where
  -- ---- the form of the shifted values
  shifted_sum : (a b c : ℕ)
      → sum6 (shifted p xs) (pos a) (pos b) (pos c)
      ≡ pos 100 *ℤ sum6 (values6 xs) (pos a) (pos b) (pos c) -ℤ pos ((a + b + c) * (a + b + c)) *ℤ (pos 2 *ℤ share p xs)
  unfolding sum6 control_values values6
  shifted_sum a b c =
      solve
      (pos a ∷ pos b ∷ pos c ∷ share p xs ∷ numbers (values6 xs) 0 6)
      (E.sum6 exprs (λ k. con (pos 100) ⊗ var (4 + k) ⊖ con (pos 2) ⊗ var 3) (var 0) (var 1) (var 2))
      (con (pos 100) ⊗ E.sum6 exprs (λ k. var (4 + k)) (var 0) (var 1) (var 2)
      ⊖ ((var 0 ⊕ var 1 ⊕ var 2) ⊗ (var 0 ⊕ var 1 ⊕ var 2)) ⊗ (con (pos 2) ⊗ var 3)) tt

  twice : (j w s : ℤ) → pos 100 *ℤ (pos 2 *ℤ j) -ℤ w *ℤ (pos 2 *ℤ s) ≡ pos 2 *ℤ (pos 100 *ℤ j -ℤ w *ℤ s)
  twice j w s =
      solve (j ∷ w ∷ s ∷ []) (con (pos 100) ⊗ (con (pos 2) ⊗ var 0) ⊖ var 1 ⊗ (con (pos 2) ⊗ var 2))
      (con (pos 2) ⊗ (con (pos 100) ⊗ var 0 ⊖ var 1 ⊗ var 2)) tt

  pub shifted-means : Means six (margin p xs) (shifted p xs)
  shifted-means x =
      1-*ℤ (scaled T.six (shifted p xs) ((x.p ∷ x.q ∷ x.r ∷ []) ∷ []))
      ∙ scaled-sum6 (shifted p xs) x.p x.q x.r
      ∙ shifted_sum x.p x.q x.r
      ∙ ap (λ z. pos 100 *ℤ z -ℤ pos (weight_of six x) *ℤ (pos 2 *ℤ share p xs)) (sum6-is-J xs x.p x.q x.r)
      ∙ twice (J6 xs x.p x.q x.r) (pos (weight_of six x)) (share p xs)

  pub floor-faithful : Faithful (floored p xs)
  floor-faithful = means-faithful six (margin p xs) (shifted p xs) shifted-means

  pub floor-walk : (L : ℕ) → Judges (floored p xs) L (answer L (walk_of six L (shifted p xs)))
  floor-walk L = walk-judges (floored p xs) floor-faithful (chart_of six) (charted six) L

  -- ---- by 02's words
  pub low-fallen : (x : Place six) → margin p xs x ≤ℤ pos 0 → Fallen p xs x
  low-fallen x h = sub-≤0 (pos 100 *ℤ jacobian six xs x) (pos (weight_of six x) *ℤ share p xs) h

  pub fallen-low : (x : Place six) → Fallen p xs x → margin p xs x ≤ℤ pos 0
  fallen-low x h = ≤0-sub h

  pub high-clear : (x : Place six) → pos 0 <ℤ margin p xs x → Clear p xs x
  high-clear x h = sub-0< (pos (weight_of six x) *ℤ share p xs) (pos 100 *ℤ jacobian six xs x) h

  pub bad-fallen : (d i j : ℕ) → (floored p xs).Bad d i j → FallenAt p xs d i j
  bad-fallen d i j b = record { place = b.place; at_point = b.at_point; fallen = low-fallen b.place b.not_positive }

  pub fallen-bad : (d i j : ℕ) → FallenAt p xs d i j → (floored p xs).Bad d i j
  fallen-bad d i j b = record { place = b.place; at_point = b.at_point; not_positive = fallen-low b.place b.fallen }

  -- ---- what is shown, from the scaled J at the same place
  weighted : (w t j z s : ℤ) → w *ℤ z ≡ t *ℤ j → w *ℤ (pos 100 *ℤ z -ℤ t *ℤ s) ≡ t *ℤ (pos 100 *ℤ j -ℤ w *ℤ s)
  weighted w t j z s e =
      solve (w ∷ t ∷ z ∷ s ∷ []) (var 0 ⊗ (con (pos 100) ⊗ var 2 ⊖ var 1 ⊗ var 3)) (con (pos 100) ⊗ (var 0 ⊗ var 2) ⊖ var 0 ⊗ var 1 ⊗ var 3) tt
      ∙ ap (λ y. pos 100 *ℤ y -ℤ w *ℤ t *ℤ s) e
      ∙ solve (w ∷ t ∷ j ∷ s ∷ []) (con (pos 100) ⊗ (var 1 ⊗ var 2) ⊖ var 0 ⊗ var 1 ⊗ var 3) (var 1 ⊗ (con (pos 100) ⊗ var 2 ⊖ var 0 ⊗ var 3)) tt

  shifted-shown : (d i j : ℕ) (z : ℤ) → Shows six xs d i j z → (floored p xs).Shows d i j (pos 100 *ℤ z -ℤ pos (scale six d) *ℤ share p xs)
  shifted-shown d i j z s =
      let e : factor six s.place ≡ weight_of six s.place = N.one-mul (weight_of six s.place) in
      record {
        place = s.place;
        at_point = s.at_point;
        shown = rw e (weighted (pos (weight_of six s.place)) (pos (scale six d)) (jacobian six xs s.place) z (share p xs) (rw e at s.shown));
      }

  pub shows-shifted : (d i j : ℕ) (z : ℤ) → (floored p xs).Shows d i j z → ShiftedAt p xs d i j z
  shows-shifted d i j z s =
      let y = value-shows six (jacobian six xs) (control_values six xs) (scaled-is-J six xs) d i j (place-grid six d i j s.place s.at_point) in
      record {
        scaled = _;
        shown = y;
        value = floor-faithful.shows_is d i j z s ∙ sym (floor-faithful.shows_is d i j _ (shifted-shown d i j _ y));
      }
