-- The laws between floors, where S is positive: a lower floor eases a higher one, and the plain verdict eases every floor.
--   lower-eases    : the one
--   plain-eases    : the other
-- Assumes nothing.
use mathlib.Core.Path.{◌≡◌, refl, ap, subst}
use mathlib.Core.List.{List, [], ◌∷◌, map}
use Prim.Native.Nat.{ℕ, ◌+◌, ◌-◌, ◌≤◌}
use native.Mathlib.Omega.{arith}
use lib.Dec.{lit<}
use lib.IntN.{ℤ, pos, ◌-ℤ◌, ◌*ℤ◌}
use lib.Signed.{◌≤ℤ◌, ◌<ℤ◌}
use Rattle.algebra.specs.Expr.{var, con, ◌⊕◌, ◌⊖◌, ◌⊗◌}
use Rattle.algebra.proofs.Solve.{solve}
use Rattle.algebra.proofs.Order.{<-≤, 0≤pos, 0≤*, sub-0≤, ≤_trans, ≤-of-eq, nonpositive-transfer}
use Rattle.forms.proofs.Under.{Under, map-under}
use Rattle.element.specs.Kinds.{six}
use Rattle.element.specs.Places.{weight_of}
use Rattle.element.specs.Jacobian.{jacobian}
use Rattle.element.specs.Control.{control_values}
use Rattle.judge.specs.Elements.{subject}
use Rattle.judge.specs.Eases.{Eases}
use Rattle.judge.proofs.Eases.{under-eases}
use Rattle.floor.specs.Floor.{straight, share, margin, shifted, floored}

-- a·z less b·(m + n)·s is at most a·z less b·n·s, for s that is not negative
less-more : (a b m n : ℕ) (z s : ℤ) → pos 0 ≤ℤ s
    → (pos a *ℤ z -ℤ pos b *ℤ (pos (m + n) *ℤ s)) ≤ℤ (pos a *ℤ z -ℤ pos b *ℤ (pos n *ℤ s))
less-more a b m n z s h =
    sub-0≤ (pos a *ℤ z -ℤ pos b *ℤ (pos (m + n) *ℤ s)) (pos a *ℤ z -ℤ pos b *ℤ (pos n *ℤ s))
    (subst (λ y. pos 0 ≤ℤ y)
    (solve (pos a ∷ pos b ∷ pos m ∷ pos n ∷ z ∷ s ∷ [])
    (var 1 ⊗ (var 2 ⊗ var 5))
    (var 0 ⊗ var 4 ⊖ var 1 ⊗ (var 3 ⊗ var 5) ⊖ (var 0 ⊗ var 4 ⊖ var 1 ⊗ ((var 2 ⊕ var 3) ⊗ var 5))) tt)
    (0≤* (0≤pos b) (0≤* (0≤pos m) h)))

-- and none less is the most
less_none : (a b p : ℕ) (z s : ℤ) → pos 0 ≤ℤ s → (pos a *ℤ z -ℤ pos b *ℤ (pos p *ℤ s)) ≤ℤ (pos a *ℤ z)
less_none a b p z s h =
    sub-0≤ (pos a *ℤ z -ℤ pos b *ℤ (pos p *ℤ s)) (pos a *ℤ z)
    (subst (λ y. pos 0 ≤ℤ y)
    (solve (pos a ∷ pos b ∷ pos p ∷ z ∷ s ∷ []) (var 1 ⊗ (var 2 ⊗ var 4)) (var 0 ⊗ var 3 ⊖ (var 0 ⊗ var 3 ⊖ var 1 ⊗ (var 2 ⊗ var 4))) tt)
    (0≤* (0≤pos b) (0≤* (0≤pos p) h)))

once : (z : ℤ) → z ≡ pos 1 *ℤ z
once z = solve (z ∷ []) (var 0) (con (pos 1) ⊗ var 0) tt

map_same : (c : List ℤ) → map (λ z. z) c ≡ c
map_same [] = refl
map_same (z ∷ c) = ap (λ (l : List ℤ). z ∷ l) (map_same c)

module _ (xs : List ℤ) (positive : pos 0 <ℤ straight xs) where
  -- p is q and some more
  lower : (a b p q : ℕ) (z : ℤ) → q ≤ p → (pos a *ℤ z -ℤ pos b *ℤ share p xs) ≤ℤ (pos a *ℤ z -ℤ pos b *ℤ share q xs)
  lower a b p q z h =
      let e : p - q + q ≡ p = omega arith in
      rw e at (less-more a b (p - q) q z (straight xs) (<-≤ positive))

  pub lower-eases : (p q : ℕ) → q ≤ p → Eases (floored p xs) (floored q xs)
  lower-eases p q h =
      under-eases six (margin p xs) (margin q xs) (shifted p xs) (shifted q xs) 1 (lit< tt)
      (map-under 1 (λ z. pos 100 *ℤ z -ℤ pos 2 *ℤ share p xs) (λ z. pos 100 *ℤ z -ℤ pos 2 *ℤ share q xs)
      (λ z. ≤_trans (lower 100 2 p q z h) (≤-of-eq (once (pos 100 *ℤ z -ℤ pos 2 *ℤ share q xs)))) (control_values six xs))
      (λ x l. ≤_trans (lower 100 (weight_of six x) p q (jacobian six xs x) h) l)

  pub plain-eases : (p : ℕ) → Eases (floored p xs) (subject six xs)
  plain-eases p =
      under-eases six (margin p xs) (jacobian six xs) (shifted p xs) (control_values six xs) 100 (lit< tt)
      (subst (Under 100 (shifted p xs)) (map_same (control_values six xs))
      (map-under 100 (λ z. pos 100 *ℤ z -ℤ pos 2 *ℤ share p xs) (λ z. z) (λ z. less_none 100 2 p z (straight xs) (<-≤ positive)) (control_values six xs)))
      (λ x l. ≤_trans (less_none 100 (weight_of six x) p (jacobian six xs x) (straight xs) (<-≤ positive))
      (nonpositive-transfer 100 1 (jacobian six xs x) (pos 100 *ℤ jacobian six xs x) (lit< tt) (once (pos 100 *ℤ jacobian six xs x)) l))
