-- Values multiplied and shifted: a cell of theirs is the cell of the values, multiplied as they were, and shifted as often as the rows of
-- its table add up to.
--   even t n Q     : the test that each row of the table Q adds up to t and weighs no value past the first n
--   quarter-shift  : the law of one quarter
-- For every table. Assumes nothing.
use mathlib.Core.Path.{◌≡◌, refl, ◌∙◌, ap, ap₂}
use mathlib.Core.Bool.{Bool, true, ◌&&◌}
use mathlib.Core.List.{List, [], ◌∷◌, map}
use Prim.Native.Nat.{ℕ, zero, suc, ◌≤◌, ◌<◌}
use native.Mathlib.Omega.{arith}
use lib.Dec.{T, eqb, leb, eqb→eq, leb→le}
use lib.IntN.{ℤ, pos, ◌+ℤ◌, ◌-ℤ◌, ◌*ℤ◌}
use lib.ListN.{get_or, length}
use Rattle.algebra.specs.Expr.{var, con, ◌⊕◌, ◌⊖◌, ◌⊗◌}
use Rattle.algebra.proofs.Truth.{T_and}
use Rattle.algebra.proofs.Solve.{solve}
use Rattle.forms.specs.Rows.{Row, total, weigh}
use Rattle.forms.specs.Cells.{dot, quarter}
use Rattle.forms.proofs.Rows.{weigh-ext}

abbrev pub even : ℕ → ℕ → List Row → Bool
even t n [] = true
even t n (r ∷ Q) = (eqb (total r) t && leb (length r) n) && even t n Q

module _ (a b : ℤ) where
  abbrev moved : ℕ → ℤ → ℤ
  moved t z = a *ℤ z -ℤ pos t *ℤ b

  weigh-shift : (r : Row) (f : ℕ → ℤ) → weigh r (λ i. a *ℤ f i -ℤ b) ≡ moved (total r) (weigh r f)
  unfolding weigh
  weigh-shift [] f = solve (a ∷ b ∷ []) (con (pos 0)) (var 0 ⊗ con (pos 0) ⊖ con (pos 0) ⊗ var 1) tt
  weigh-shift (x ∷ r) f =
      ap (λ z. pos x *ℤ (a *ℤ f 0 -ℤ b) +ℤ z) (weigh-shift r (λ i. f (suc i)))
      ∙ solve (a ∷ b ∷ pos x ∷ f 0 ∷ pos (total r) ∷ weigh r (λ i. f (suc i)) ∷ [])
      (var 2 ⊗ (var 0 ⊗ var 3 ⊖ var 1) ⊕ (var 0 ⊗ var 5 ⊖ var 4 ⊗ var 1))
      (var 0 ⊗ (var 2 ⊗ var 3 ⊕ var 5) ⊖ (var 2 ⊕ var 4) ⊗ var 1) tt

  get_d-shift : (c : List ℤ) (i : ℕ) → i < length c → get_or (map (λ z. a *ℤ z -ℤ b) c) i (pos 0) ≡ a *ℤ get_or c i (pos 0) -ℤ b
  get_d-shift [] i h = absurd (omega arith)
  get_d-shift (z ∷ c) zero h = refl
  get_d-shift (z ∷ c) (suc i) h = get_d-shift c i (omega arith)

  dot-shift : (r : Row) (c : List ℤ) → length r ≤ length c → dot r (map (λ z. a *ℤ z -ℤ b) c) ≡ moved (total r) (dot r c)
  dot-shift r c h =
      weigh-ext r (λ i. get_or (map (λ z. a *ℤ z -ℤ b) c) i (pos 0)) (λ i. a *ℤ get_or c i (pos 0) -ℤ b) (λ i k. get_d-shift c i (omega arith))
      ∙ weigh-shift r (λ i. get_or c i (pos 0))

  pub quarter-shift : (t : ℕ) (Q : List Row) (c : List ℤ) → T (even t (length c) Q)
      → quarter Q (map (λ z. a *ℤ z -ℤ b) c) ≡ map (λ z. a *ℤ z -ℤ pos t *ℤ b) (quarter Q c)
  quarter-shift t [] c h = refl
  quarter-shift t (r ∷ Q) c h =
      let (p, q) = T_and (eqb (total r) t && leb (length r) (length c)) (even t (length c) Q) h in
      let (u, v) = T_and (eqb (total r) t) (leb (length r) (length c)) p in
      ap₂ ◌∷◌ (dot-shift r c (leb→le (length r) (length c) v) ∙ ap (λ (n : ℕ). moved n (dot r c)) (eqb→eq (total r) t u))
      (quarter-shift t Q c q)
