-- Expressions over numbered variables, and what they come to at given whole numbers.
--   Expr      == variables, literals, sums, differences, products, negations
--   exprs     == the operations that build an expression
--   look ρ i  == the number that stands for variable i; past the list's end it is 1
--   eval ρ e  == the value of e where the variables stand for the numbers of ρ
--   evals ρ es == the values of the expressions es
--   degree e  == no monomial of e has a higher degree
-- Definitions only.
use Rattle.std.specs.Prelude.{List, [], ◌∷◌, ℕ, zero, suc, ◌+◌, max, ℤ, pos, neg_ℤ, ◌+ℤ◌, ◌-ℤ◌, ◌*ℤ◌}
use Rattle.algebra.specs.Ops.{Ops}

infixl 60 ◌⊕◌ ◌⊖◌
infixl 70 ◌⊗◌
pub data Expr : Type 0 where
  var : ℕ → Expr
  con : ℤ → Expr
  ◌⊕◌ ◌⊖◌ ◌⊗◌ : Expr → Expr → Expr
  neg : Expr → Expr

abbrev pub exprs : Ops Expr
exprs = record { add = ◌⊕◌; sub = ◌⊖◌; mul = ◌⊗◌; num = λ n. con (pos n) }

-- 1 past the end, as a monomial's exponent past the end is of a factor 1
abbrev pub look : List ℤ → ℕ → ℤ
look [] i = pos 1
look (x ∷ ρ) zero = x
look (x ∷ ρ) (suc i) = look ρ i

abbrev pub eval : List ℤ → Expr → ℤ
eval ρ (var i) = look ρ i
eval ρ (con c) = c
eval ρ (a ⊕ b) = eval ρ a +ℤ eval ρ b
eval ρ (a ⊖ b) = eval ρ a -ℤ eval ρ b
eval ρ (a ⊗ b) = eval ρ a *ℤ eval ρ b
eval ρ (neg a) = neg_ℤ (eval ρ a)

abbrev pub evals : List ℤ → List Expr → List ℤ
evals ρ [] = []
evals ρ (e ∷ es) = eval ρ e ∷ evals ρ es

abbrev pub degree : Expr → ℕ
degree (var i) = 1
degree (con c) = 0
degree (a ⊕ b) = max (degree a) (degree b)
degree (a ⊖ b) = max (degree a) (degree b)
degree (a ⊗ b) = degree a + degree b
degree (neg a) = degree a
