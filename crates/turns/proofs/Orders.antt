-- Stored values in another order.
--   reorder p c      == the values of c at the places p
--   reorder-table    : a table makes it, as one makes a quarter
--   reorder-passes   : so it passes when c does, if the corners' places hold corner values
-- Assumes nothing.
use mathlib.Core.Path.{◌≡◌, refl, sym, ap₂, subst}
use mathlib.Core.List.{List, [], ◌∷◌, map}
use Prim.Native.Nat.{ℕ}
use lib.Dec.{T}
use lib.IntN.{ℤ, pos}
use lib.ListN.{get_or}
use Rattle.forms.specs.Rows.{unit}
use Rattle.forms.specs.Cells.{quarter, passes, heirs}
use Rattle.forms.proofs.Rows.{weigh-unit}
use Rattle.forms.proofs.Cells.{passes-quarter}

abbrev pub reorder : List ℕ → List ℤ → List ℤ
reorder p c = map (λ k. get_or c k (pos 0)) p

pub reorder-table : (p : List ℕ) (c : List ℤ) → reorder p c ≡ quarter (map unit p) c
reorder-table [] c = refl
reorder-table (k ∷ p) c = ap₂ {B = List ℤ} ◌∷◌ (sym (weigh-unit k (λ i. get_or c i (pos 0)))) (reorder-table p c)

pub reorder-passes : (tips p : List ℕ) → T (heirs tips tips (map unit p)) → (c : List ℤ) → T (passes tips c) → T (passes tips (reorder p c))
reorder-passes tips p t c h =
    subst (λ (v : List ℤ). T (passes tips v)) (sym (reorder-table p c)) (passes-quarter tips (map unit p) t c h)
