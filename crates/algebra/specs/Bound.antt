-- Bounds on the size of an expression, computed from bounds on the sizes of its variables.
--   Bounded ρ bs  == each number of ρ is at most its bound of bs in size
--   bound bs e    == the bound that the expression gives as it is written
--   all_within bs B es, all_within_normal bs B es == the tests that all of es are within B
--   bound_normal bs e == the bound that its normal form gives: what cancels does not count
-- Definitions only.
use Rattle.std.specs.Prelude.{Bool, true, ◌&&◌, List, [], ◌∷◌, ℕ, zero, suc, ◌+◌, ◌*◌, ◌^◌, ◌/◌, ◌%◌, ◌≤◌, leb, ℤ, nat_abs}
use Rattle.algebra.specs.Expr.{Expr, var, con, ◌⊕◌, ◌⊖◌, ◌⊗◌, neg}
use Rattle.algebra.specs.Normal.{Poly, nil, term, normal, small}

-- a product of facts, ended by `tt`
abbrev pub Bounded : List ℤ → List ℕ → Type 0
Bounded [] [] = Unit {0}
Bounded [] (b ∷ bs) = ⊥
Bounded (x ∷ ρ) [] = ⊥
Bounded (x ∷ ρ) (b ∷ bs) = (nat_abs x ≤ b) × Bounded ρ bs

abbrev pub look_bound : List ℕ → ℕ → ℕ
look_bound [] i = 1
look_bound (b ∷ bs) zero = b
look_bound (b ∷ bs) (suc i) = look_bound bs i

abbrev pub bound : List ℕ → Expr → ℕ
bound bs (var i) = look_bound bs i
bound bs (con c) = nat_abs c
bound bs (a ⊕ b) = bound bs a + bound bs b
bound bs (a ⊖ b) = bound bs a + bound bs b
bound bs (a ⊗ b) = bound bs a * bound bs b
bound bs (neg a) = bound bs a

abbrev pub bound_m : List ℕ → ℕ → ℕ
bound_m [] k = 1
bound_m (b ∷ bs) k = b ^ (k % 64) * bound_m bs (k / 64)

abbrev pub bound_p : List ℕ → Poly → ℕ
bound_p bs nil = 0
bound_p bs (term c k p) = nat_abs c * bound_m bs k + bound_p bs p

abbrev pub bound_normal : List ℕ → Expr → ℕ
bound_normal bs e = bound_p bs (normal e)

-- all of some expressions within one bound
abbrev pub all_within : List ℕ → ℕ → List Expr → Bool
all_within bs B [] = true
all_within bs B (e ∷ es) = leb (bound bs e) B && all_within bs B es

abbrev pub all_within_normal : List ℕ → ℕ → List Expr → Bool
all_within_normal bs B [] = true
all_within_normal bs B (e ∷ es) = (small e && leb (bound_normal bs e) B) && all_within_normal bs B es
