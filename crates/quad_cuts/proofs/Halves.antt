-- The table's quarter is a half of a half (01: "A quad cell is halved along u and each half along v").
--   quarter-half : quarter i is the half along v of the half along u
--   weights-add  : each half has the factor 8
-- Assumes nothing.
use mathlib.Core.Path.{◌≡◌, refl, sym, ◌∙◌, ap, ap₂, fun_ext}
use mathlib.Core.List.{List, [], ◌∷◌}
use Prim.Native.Nat.{ℕ, ◌+◌, ◌*◌, ◌<◌}
use lib.Dec.{eqb, eqb→eq}
use lib.IntN.{ℤ, pos, ◌+ℤ◌, ◌*ℤ◌, +ℤ_assoc, +ℤ_idl, *ℤ-zero}
use lib.ListN.{get_or}
use Rattle.algebra.proofs.Ring.{*ℤ-distl, *ℤ-assoc, *ℤ-left-comm}
use Rattle.forms.specs.Rows.{total, weigh}
use Rattle.forms.specs.Cuttings.{Four}
use Rattle.forms.specs.Shapes.{cut_to}
use Rattle.forms.specs.Quads.{Half, lower, upper, weight, along_u, along_v, sixteen, quad}
use Rattle.forms.proofs.Cells.{up_to-at}
use Rattle.quad_cuts.specs.Halves.{weights, half_u, half_v}

-- y times a row, before the rest r of a sum
none : (y : ℕ) (r : ℤ) → r ≡ pos y *ℤ pos 0 +ℤ r
none y r = sym (ap (λ z. z +ℤ r) (*ℤ-zero (pos y)) ∙ +ℤ_idl r)

step : (a y : ℕ) (z w u r : ℤ) → u ≡ pos y *ℤ w +ℤ r → pos (a * y) *ℤ z +ℤ u ≡ pos y *ℤ (pos a *ℤ z +ℤ w) +ℤ r
step a y z w u r e =
    ap₂ ◌+ℤ◌ (*ℤ-assoc (pos a) (pos y) z ∙ *ℤ-left-comm (pos a) (pos y) z) e
    ∙ sym (+ℤ_assoc (pos y *ℤ (pos a *ℤ z)) (pos y *ℤ w) r)
    ∙ ap (λ v. v +ℤ r) (sym (*ℤ-distl (pos y) (pos a *ℤ z) w))

module _ (X Y : ℕ → ℕ) (f : ℕ → ℤ) where
  abbrev line : ℕ → ℤ
  line j = weigh (X 0 ∷ X 1 ∷ X 2 ∷ X 3 ∷ []) (λ i. f (i + 4 * j))

  -- the old values of line j, and what follows
  abbrev term : ℕ → ℕ → ℤ
  term i j = pos (X i * Y j) *ℤ f (i + 4 * j)

  block : (j : ℕ) (r : ℤ) → term 0 j +ℤ (term 1 j +ℤ (term 2 j +ℤ (term 3 j +ℤ r))) ≡ pos (Y j) *ℤ line j +ℤ r
  unfolding weigh
  block j r =
      step (X 0) (Y j) (f (0 + 4 * j)) _ _ r
      (step (X 1) (Y j) (f (1 + 4 * j)) _ _ r
      (step (X 2) (Y j) (f (2 + 4 * j)) _ _ r (step (X 3) (Y j) (f (3 + 4 * j)) _ _ r (none (Y j) r))))

  then : (j : ℕ) {r s : ℤ} → r ≡ s → term 0 j +ℤ (term 1 j +ℤ (term 2 j +ℤ (term 3 j +ℤ r))) ≡ pos (Y j) *ℤ line j +ℤ s
  then j {r} {s} e = block j r ∙ ap (λ v. pos (Y j) *ℤ line j +ℤ v) e

  -- weights that are products: lines of lines
  crossed : weigh (sixteen (λ i j. X i * Y j)) f ≡ weigh (Y 0 ∷ Y 1 ∷ Y 2 ∷ Y 3 ∷ []) line
  unfolding weigh
  crossed = then 0 (then 1 (then 2 (then 3 refl)))

pub quarter-half : (i : Four) (c : List ℤ) → cut_to quad i c ≡ half_v (along_v i) (half_u (along_u i) c)
unfolding weigh
quarter-half i c =
    ap sixteen (fun_ext (λ a. fun_ext (λ b. crossed (weight (along_u i) a) (weight (along_v i) b) (λ k. get_or c k (pos 0)))))

pub weights-add : (h : Half) (a : ℕ) → a < 4 → total (weights h a) ≡ 8
weights-add lower a k = eqb→eq (total (weights lower a)) 8 (up_to-at 4 (λ a. eqb (total (weights lower a)) 8) tt a k)
weights-add upper a k = eqb→eq (total (weights upper a)) 8 (up_to-at 4 (λ a. eqb (total (weights upper a)) 8) tt a k)
