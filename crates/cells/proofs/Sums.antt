-- Sums that the code writes out, against the rows of weights that the law has: one closed test for a whole list of them.
--   weighing r f  == the sum of f 0, f 1, .. by the weights of the row r, as an expression
--   agree es rs   == the test that the expressions es are the sums by the rows rs
--   sums-are      : then they are, at all whole numbers
-- Assumes nothing.
use mathlib.Core.Path.{◌≡◌, refl, ◌∙◌, ap, ap₂}
use mathlib.Core.Bool.{Bool, true, false, ◌&&◌}
use mathlib.Core.List.{List, [], ◌∷◌, map}
use Prim.Native.Nat.{ℕ, suc}
use lib.Dec.{T}
use lib.IntN.{ℤ, pos, ◌+ℤ◌, ◌*ℤ◌}
use Rattle.algebra.specs.Expr.{Expr, var, con, ◌⊕◌, ◌⊖◌, ◌⊗◌, look, eval, evals}
use Rattle.algebra.specs.Normal.{vanishes}
use Rattle.algebra.proofs.Truth.{T_and}
use Rattle.algebra.proofs.Solve.{solve}
use Rattle.forms.specs.Rows.{Row, weigh}

abbrev pub weighing : Row → (ℕ → Expr) → Expr
weighing [] f = con (pos 0)
weighing (x ∷ r) f = con (pos x) ⊗ f 0 ⊕ weighing r (λ i. f (suc i))

weighing-is : (ρ : List ℤ) (r : Row) (f : ℕ → Expr) → eval ρ (weighing r f) ≡ weigh r (λ i. eval ρ (f i))
unfolding weigh
weighing-is ρ [] f = refl
weighing-is ρ (x ∷ r) f = ap (λ z. pos x *ℤ eval ρ (f 0) +ℤ z) (weighing-is ρ r (λ i. f (suc i)))

abbrev pub agree : List Expr → List Row → Bool
agree [] [] = true
agree [] (r ∷ rs) = false
agree (e ∷ es) [] = false
agree (e ∷ es) (r ∷ rs) = vanishes (e ⊖ weighing r var) && agree es rs

pub sums-are : (ρ : List ℤ) (es : List Expr) (rs : List Row) → T (agree es rs) → evals ρ es ≡ map (λ r. weigh r (look ρ)) rs
sums-are ρ [] [] t = refl
sums-are ρ [] (r ∷ rs) t = absurd t
sums-are ρ (e ∷ es) [] t = absurd t
sums-are ρ (e ∷ es) (r ∷ rs) t =
    let (a, b) = T_and (vanishes (e ⊖ weighing r var)) (agree es rs) t in
    ap₂ ◌∷◌ (solve ρ e (weighing r var) a ∙ weighing-is ρ r var) (sums-are ρ es rs b)
