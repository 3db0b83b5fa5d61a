-- The ring solver: two expressions with one normal form are equal at all whole numbers.
--   solve ρ a b tt : a and b are equal where the variables stand for ρ
-- Assumes nothing.
use mathlib.Core.Path.{◌≡◌, refl, sym, ◌∙◌}
use mathlib.Core.List.{List}
use lib.Dec.{T, leb→le}
use lib.IntN.{ℤ, pos}
use Rattle.algebra.specs.Expr.{Expr, ◌⊖◌, eval, degree}
use Rattle.algebra.specs.Normal.{Poly, nil, term, normal, value_p, is_nil, small, vanishes}
use Rattle.algebra.proofs.Truth.{T_and}
use Rattle.algebra.proofs.Ring.{eq-of-sub}
use Rattle.algebra.proofs.Normal.{normal-is}

-- an expression that passes the test of degree has its normal form's value
pub small_is : (ρ : List ℤ) (e : Expr) → T (small e) → value_p ρ (normal e) ≡ eval ρ e
small_is ρ e t = normal-is ρ e (leb→le (degree e) 63 t)

nil-zero : (ρ : List ℤ) (p : Poly) → T (is_nil p) → value_p ρ p ≡ pos 0
nil-zero ρ nil t = refl
nil-zero ρ (term c k p) t = absurd t

pub vanishes-zero : (ρ : List ℤ) (e : Expr) → T (vanishes e) → eval ρ e ≡ pos 0
vanishes-zero ρ e t =
    let (d, n) = T_and (small e) (is_nil (normal e)) t in
    sym (small_is ρ e d) ∙ nil-zero ρ (normal e) n

pub solve : (ρ : List ℤ) (a b : Expr) → T (vanishes (a ⊖ b)) → eval ρ a ≡ eval ρ b
solve ρ a b t = eq-of-sub (eval ρ a) (eval ρ b) (vanishes-zero ρ (a ⊖ b) t)
