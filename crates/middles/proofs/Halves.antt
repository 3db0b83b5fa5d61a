-- Halves rounded down.
--   half_down, half-only : `half` is half of a number, rounded down, and nothing else is
--   half-least, half-most : the middle of two numbers lies between all bounds of them
--   half-within     : so it is within what they are within
--   half-near       : and so are its difference from a third number, and theirs
--   half-moved      : what is taken from both numbers is taken from their middle
--   half-held       : the middle of two numbers of i32 is one
--   half-fits       : the same, of a machine's numbers of any width
--   half-stays      : and half of one of them is one
--   half-shift      : a shift to the right by one place
-- Assumes nothing.
use mathlib.Core.Path.{◌≡◌, refl, sym, subst}
use mathlib.Core.List.{[], ◌∷◌}
use mathlib.Core.Logic.{◌⊎◌, inl, inr}
use Prim.Native.Nat.{ℕ, zero, suc, ◌+◌, ◌/◌, ◌^◌, ◌≤◌, ◌<◌, zero-le, suc-le-suc}
use native.Mathlib.Nat as N
use native.Mathlib.Omega.{arith}
use lib.Dec.{le→leb, lt→ltb, leb→le}
use lib.IntN.{ℤ, pos, negsuc, neg_ℤ, ◌+ℤ◌, ◌-ℤ◌, suc_ℤ, +ℤ_one, -ℤ-+ℤ_cancel}
use lib.Signed.{mag, shr_z, ◌≤ℤ◌, ◌<ℤ◌, ≤ℤ_refl, clash_ℤ}
use mir.Syntax.{Width}
use mir.Val.{SFits, hbits}
use Rattle.algebra.specs.Expr.{var, con, ◌⊕◌, ◌⊖◌}
use Rattle.algebra.specs.Within.{Within}
use Rattle.algebra.proofs.Solve.{solve}
use Rattle.algebra.proofs.Within.{within_of}
use Rattle.algebra.proofs.Order.{≤_trans, +ℤ-mono, +ℤ-mono-<, <-≤, <-cases, <-suc, +ℤ-cancel-≤, ≤-antisymm, ≤-<-trans}
use Rattle.element.specs.Origin.{Held}
use Rattle.middles.specs.Middles.{HalfDown, half}

-- ---- the half
below : (s : ℤ) → (half s +ℤ half s) ≤ℤ s
below (pos n) = record { le = le→leb (n / 2 + n / 2) n (omega arith) }
below (negsuc n) = record { le = le→leb n (suc (n / 2 + n / 2)) (omega arith) }

twice-next : (n q : ℕ) → n / 2 ≡ q → negsuc n <ℤ (suc_ℤ (negsuc q) +ℤ suc_ℤ (negsuc q))
twice-next n zero e = record { lt = tt }
twice-next n (suc k) e = record { lt = lt→ltb (suc (k + k)) n (omega arith) }

above : (s : ℤ) → s <ℤ ((half s +ℤ pos 1) +ℤ (half s +ℤ pos 1))
above (pos n) = record { lt = lt→ltb n (n / 2 + 1 + (n / 2 + 1)) (omega arith) }
above (negsuc n) = subst (λ (z : ℤ). negsuc n <ℤ (z +ℤ z)) (sym (+ℤ_one (negsuc (n / 2)))) (twice-next n (n / 2) refl)

pub half_down : (s : ℤ) → HalfDown s (half s)
half_down s = record { below = below s; next_above = above s }

-- what is doubled
double-< : (a b : ℤ) → (a +ℤ a) <ℤ (b +ℤ b) → a <ℤ b
double-< a b h = go (<-cases a b)
  where
    go : (a <ℤ b) ⊎ (b ≤ℤ a) → a <ℤ b
    go (inl k) = k
    go (inr k) = clash_ℤ h (+ℤ-mono k k)

double-≤ : (a b : ℤ) → (a +ℤ a) ≤ℤ (b +ℤ b) → a ≤ℤ b
double-≤ a b h = go (<-cases b a)
  where
    go : (b <ℤ a) ⊎ (a ≤ℤ b) → a ≤ℤ b
    go (inl k) = clash_ℤ (+ℤ-mono-< k (<-≤ k)) h
    go (inr k) = k

-- a number whose double is not above s is not above half of s
down-most : {s h k : ℤ} → (h +ℤ h) ≤ℤ s → HalfDown s k → h ≤ℤ k
down-most {s} {h} {k} p q = +ℤ-cancel-≤ h k (pos 1) (<-suc (double-< h (k +ℤ pos 1) (≤-<-trans p q.next_above)))

pub half-only : (s h k : ℤ) → HalfDown s h → HalfDown s k → h ≡ k
half-only s h k p q = ≤-antisymm (down-most p.below q) (down-most q.below p)

-- ---- the middle of two numbers
module _ (a b : ℤ) where
  pub half-least : (l : ℤ) → l ≤ℤ a → l ≤ℤ b → l ≤ℤ half (a +ℤ b)
  half-least l p q = down-most (+ℤ-mono p q) (half_down (a +ℤ b))

  pub half-most : (u : ℤ) → a ≤ℤ u → b ≤ℤ u → half (a +ℤ b) ≤ℤ u
  half-most u p q = double-≤ (half (a +ℤ b)) u (≤_trans (below (a +ℤ b)) (+ℤ-mono p q))

within-least : (n : ℕ) (z : ℤ) → Within n z → neg_ℤ (pos n) ≤ℤ z
within-least zero (pos a) p = record { le = le→leb 0 a zero-le }
within-least (suc n) (pos a) p = record { le = tt }
within-least zero (negsuc a) p = let h = p.size in absurd (omega arith)
within-least (suc n) (negsuc a) p = let h = p.size in record { le = le→leb a n (omega arith) }

within-most : (n : ℕ) (z : ℤ) → Within n z → z ≤ℤ pos n
within-most n (pos a) p = record { le = le→leb a n p.size }
within-most n (negsuc a) p = record { le = tt }

pub half-within : (n : ℕ) (a b : ℤ) → Within n a → Within n b → Within n (half (a +ℤ b))
half-within n a b p q =
    within_of n (half (a +ℤ b)) (half-least a b (neg_ℤ (pos n)) (within-least n a p) (within-least n b q))
    (half-most a b (pos n) (within-most n a p) (within-most n b q))

pub half-near : (n : ℕ) (o a b : ℤ) → Within n (a -ℤ o) → Within n (b -ℤ o) → Within n (half (a +ℤ b) -ℤ o)
half-near n o a b p q =
    within_of n (half (a +ℤ b) -ℤ o)
    (+ℤ-cancel-≤ (neg_ℤ (pos n)) (half (a +ℤ b) -ℤ o) o
    (subst (λ (z : ℤ). (neg_ℤ (pos n) +ℤ o) ≤ℤ z) (sym (-ℤ-+ℤ_cancel (half (a +ℤ b)) o)) (half-least a b (neg_ℤ (pos n) +ℤ o) (low a p) (low b q))))
    (+ℤ-cancel-≤ (half (a +ℤ b) -ℤ o) (pos n) o
    (subst (λ (z : ℤ). z ≤ℤ (pos n +ℤ o)) (sym (-ℤ-+ℤ_cancel (half (a +ℤ b)) o)) (half-most a b (pos n +ℤ o) (high a p) (high b q))))
  where
    low : (z : ℤ) → Within n (z -ℤ o) → (neg_ℤ (pos n) +ℤ o) ≤ℤ z
    low z h = subst (λ (y : ℤ). (neg_ℤ (pos n) +ℤ o) ≤ℤ y) (-ℤ-+ℤ_cancel z o) (+ℤ-mono (within-least n (z -ℤ o) h) (≤ℤ_refl o))

    high : (z : ℤ) → Within n (z -ℤ o) → z ≤ℤ (pos n +ℤ o)
    high z h = subst (λ (y : ℤ). y ≤ℤ (pos n +ℤ o)) (-ℤ-+ℤ_cancel z o) (+ℤ-mono (within-most n (z -ℤ o) h) (≤ℤ_refl o))

pub half-moved : (a b o : ℤ) → half ((a -ℤ o) +ℤ (b -ℤ o)) ≡ half (a +ℤ b) -ℤ o
half-moved a b o = half-only s (half s) (h -ℤ o) (half_down s) (record { below = low; next_above = high })
  where
    s : ℤ
    s = (a -ℤ o) +ℤ (b -ℤ o)

    h : ℤ
    h = half (a +ℤ b)

    -- twice o, taken from both sides
    less : (z : ℤ) → ((z -ℤ o) +ℤ (z -ℤ o)) ≡ (z +ℤ z) -ℤ (o +ℤ o)
    less z = solve (z ∷ o ∷ []) ((var 0 ⊖ var 1) ⊕ (var 0 ⊖ var 1)) ((var 0 ⊕ var 0) ⊖ (var 1 ⊕ var 1)) tt

    sum : (a +ℤ b) -ℤ (o +ℤ o) ≡ s
    sum = solve (a ∷ b ∷ o ∷ []) ((var 0 ⊕ var 1) ⊖ (var 2 ⊕ var 2)) ((var 0 ⊖ var 2) ⊕ (var 1 ⊖ var 2)) tt

    next : (h +ℤ pos 1) -ℤ o ≡ (h -ℤ o) +ℤ pos 1
    next = solve (h ∷ o ∷ []) ((var 0 ⊕ con (pos 1)) ⊖ var 1) ((var 0 ⊖ var 1) ⊕ con (pos 1)) tt

    low : ((h -ℤ o) +ℤ (h -ℤ o)) ≤ℤ s
    low = rw (less h, ← sum) (+ℤ-mono (below (a +ℤ b)) (≤ℤ_refl (neg_ℤ (o +ℤ o))))

    high : s <ℤ (((h -ℤ o) +ℤ pos 1) +ℤ ((h -ℤ o) +ℤ pos 1))
    high = rw (← sum, ← next, less (h +ℤ pos 1)) (+ℤ-mono-< (above (a +ℤ b)) (≤ℤ_refl (neg_ℤ (o +ℤ o))))

-- ---- the machine's numbers: -h ≤ z < h, where mag z < h
mag-least : (n : ℕ) (z : ℤ) → mag z ≤ n → negsuc n ≤ℤ z
mag-least n (pos a) h = record { le = tt }
mag-least n (negsuc a) h = record { le = le→leb a n h }

mag-most : (n : ℕ) (z : ℤ) → mag z ≤ n → z ≤ℤ pos n
mag-most n (pos a) h = record { le = le→leb a n h }
mag-most n (negsuc a) h = record { le = tt }

mag_of : (n : ℕ) (z : ℤ) → negsuc n ≤ℤ z → z ≤ℤ pos n → mag z ≤ n
mag_of n (pos a) h k = leb→le a n k.le
mag_of n (negsuc a) h k = leb→le a n h.le

mag-half : (h : ℕ) (a b : ℤ) → mag a < h → mag b < h → mag (half (a +ℤ b)) < h
mag-half zero a b p q = absurd (N.not-suc-le-zero p)
mag-half (suc n) a b p q =
    suc-le-suc
    (mag_of n (half (a +ℤ b)) (half-least a b (negsuc n) (mag-least n a (N.le_of_suc-le-suc p)) (mag-least n b (N.le_of_suc-le-suc q)))
    (half-most a b (pos n) (mag-most n a (N.le_of_suc-le-suc p)) (mag-most n b (N.le_of_suc-le-suc q))))

pub half-held : (a b : ℤ) → Held a → Held b → Held (half (a +ℤ b))
half-held a b p q = mag-half 2147483648 a b p q

pub half-fits : {w : Width} {a b : ℤ} → SFits w a → SFits w b → SFits w (half (a +ℤ b))
half-fits {w} {a} {b} p q = record { sfits = mag-half (2 ^ hbits w) a b p.sfits q.sfits }

pub half-stays : {w : Width} {s : ℤ} → SFits w s → SFits w (half s)
half-stays {w} {s} p = record { sfits = N.le_trans (suc-le-suc (go s)) p.sfits }
  where
    go : (s : ℤ) → mag (half s) ≤ mag s
    go (pos n) = omega arith
    go (negsuc n) = omega arith

pub half-shift : (z : ℤ) → shr_z z 2 ≡ half z
half-shift (pos n) = refl
half-shift (negsuc n) = refl
