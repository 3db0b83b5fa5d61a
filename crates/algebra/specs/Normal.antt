-- The normal form of an expression: a list of terms that rises by monomial. A monomial is one number whose digits to the
-- base 64 are its exponents, so that a product of monomials is a sum of numbers; this is right up to degree 63.
--   Poly           == terms, each a coefficient and a monomial
--   keep c k p     == the term c·k before p, left out where c is 0
--   merge, scale, minus, times == sum, multiple by a term, negation and product of polynomials
--   normal e       == the normal form of the expression e
--   power, value_m, value_p == what a power, a monomial and a polynomial come to at given numbers
--   vanishes e     == the test of the solver: degree at most 63 and no term left
-- Definitions only.
use Rattle.std.specs.Prelude.{Bool, true, false, ◌&&◌, List, [], ◌∷◌, leb, ℤ, pos, negsuc, neg_ℤ, ◌+ℤ◌, ◌*ℤ◌}
use Prim.Native.Nat.{ℕ, zero, suc, ◌+◌, ◌*◌, ◌^◌, ◌/◌, ◌%◌, compare, Ordering}
use Rattle.algebra.specs.Expr.{Expr, var, con, ◌⊕◌, ◌⊖◌, ◌⊗◌, neg, degree}

pub data Poly : Type 0 where
  nil : Poly
  term : ℤ → ℕ → Poly → Poly

abbrev pub keep : ℤ → ℕ → Poly → Poly
keep (pos zero) k p = p
keep (pos (suc n)) k p = term (pos (suc n)) k p
keep (negsuc n) k p = term (negsuc n) k p

-- one term and what is merged behind it, into a polynomial
abbrev pub step : ℤ → ℕ → (Poly → Poly) → Poly → Poly
step c k f nil = term c k (f nil)
step c k f (term d j q) =
    elim (compare k j) [
      | Ordering.lt ↦ term c k (f (term d j q))
      | Ordering.eq ↦ keep (c +ℤ d) k (f q)
      | Ordering.gt ↦ term d j (step c k f q)
    ]

abbrev pub merge : Poly → Poly → Poly
merge nil q = q
merge (term c k p) q = step c k (merge p) q

abbrev pub scale : ℤ → ℕ → Poly → Poly
scale c k nil = nil
scale c k (term d j p) = term (c *ℤ d) (k + j) (scale c k p)

-- a merge for each term of the first
abbrev pub spread : Poly → Poly → Poly
spread nil q = nil
spread (term c k p) q = merge (scale c k q) (spread p q)

-- the first has at most as many terms
abbrev pub shorter : Poly → Poly → Bool
shorter nil q = true
shorter (term c k p) nil = false
shorter (term c k p) (term d j q) = shorter p q

-- the shorter one goes term by term
abbrev pub times : Poly → Poly → Poly
times p q = elim (shorter p q) [ true ↦ spread p q | false ↦ spread q p ]

abbrev pub minus : Poly → Poly
minus nil = nil
minus (term d j p) = term (neg_ℤ d) j (minus p)

abbrev pub normal : Expr → Poly
normal (var i) = term (pos 1) (64 ^ i) nil
normal (con c) = keep c 0 nil
normal (a ⊕ b) = merge (normal a) (normal b)
normal (a ⊖ b) = merge (normal a) (minus (normal b))
normal (a ⊗ b) = times (normal a) (normal b)
normal (neg a) = minus (normal a)

abbrev pub power : ℤ → ℕ → ℤ
power x zero = pos 1
power x (suc n) = x *ℤ power x n

abbrev pub value_m : List ℤ → ℕ → ℤ
value_m [] k = pos 1
value_m (x ∷ ρ) k = power x (k % 64) *ℤ value_m ρ (k / 64)

abbrev pub value_p : List ℤ → Poly → ℤ
value_p ρ nil = pos 0
value_p ρ (term c k p) = c *ℤ value_m ρ k +ℤ value_p ρ p

abbrev pub is_nil : Poly → Bool
is_nil nil = true
is_nil (term c k p) = false

-- up to this degree no sum of two exponents carries
abbrev pub small : Expr → Bool
small e = leb (degree e) 63

abbrev pub vanishes : Expr → Bool
vanishes e = small e && is_nil (normal e)
