-- The range of coordinates, as a test tells it and as the refusal does (02, Ask 7).
--   each-inside, inside-each : numbers that are all within a limit are not beyond it, and the other way round
--   each_or          : they are the one or the other
--   each-held        : numbers within a limit below 2^31 are i32
--   ranged-inside    : numbers of i32 that lie within n, as they stand or from the first node, are not astray
--   inside-ranged    : what is not astray lies within n, as it stands or from the first node
--   inside-held      : and is of i32
--   limit-held, held_at : so it is with the limit of each kind
--   unheld-or        : a list has a number that is no i32, or none
--   unheld-outside   : one that has is outside, whatever the kind
-- Assumes nothing.
use mathlib.Core.List.{List, [], ◌∷◌}
use mathlib.Core.Logic.{◌⊎◌, inl, inr, ⊎_elim}
use Prim.Native.Nat.{ℕ, zero, suc, ◌≤◌, ◌<◌, zero-le, suc-le-suc}
use native.Mathlib.Nat as N
use native.Mathlib.Decide.{dec_le}
use native.Mathlib.Omega.{arith}
use lib.Dec.{lit<}
use lib.IntN.{ℤ, pos, negsuc, nat_abs}
use lib.ListN.{length, get_or-eq_default}
use lib.Signed.{mag}
use Rattle.algebra.specs.Within.{Each}
use Rattle.algebra.proofs.Within.{each_nil, each-cons}
use Rattle.element.specs.Kinds.{Kind, six, eight, nine, ten, coordinate_limit}
use Rattle.element.specs.Control.{at}
use Rattle.element.specs.Origin.{from_first, Ranged, Held, Unheld}
use Rattle.element.specs.Refusals.{Beyond, Astray, Outside}

pub each-inside : {n : ℕ} {xs : List ℤ} → Each n xs → ¬ Beyond n xs
each-inside p (i, h, l) = N.not-le_of_lt l (p.at i).size

pub each_or : (n : ℕ) (xs : List ℤ) → Each n xs ⊎ Beyond n xs
each_or n [] = inl each_nil
each_or n (x ∷ xs) = go (dec_le (nat_abs x) n) (each_or n xs)
  where
    go : Dec (nat_abs x ≤ n) → Each n xs ⊎ Beyond n xs → Each n (x ∷ xs) ⊎ Beyond n (x ∷ xs)
    go (no l) r = inr (0, suc-le-suc zero-le, N.lt_of_not-le l)
    go (yes l) (inl p) = inl (each-cons (record { size = l }) p)
    go (yes l) (inr (i, h, m)) = inr (suc i, suc-le-suc h, m)

pub inside-each : {n : ℕ} {xs : List ℤ} → ¬ Beyond n xs → Each n xs
inside-each {n} {xs} f = ⊎_elim (λ p. p) (λ b. absurd (f b)) (each_or n xs)

-- ---- i32
mag-small : (z : ℤ) → mag z ≤ nat_abs z
mag-small (pos n) = N.le_refl n
mag-small (negsuc n) = omega arith

pub size_small : (z : ℤ) → nat_abs z ≤ suc (mag z)
size_small (pos n) = omega arith
size_small (negsuc n) = N.le_refl (suc n)

pub each-held : {n : ℕ} {xs : List ℤ} → n < 2147483648 → Each n xs → ¬ Unheld xs
each-held {n} {xs} l p (i, h, f) = f (N.lt_of_le_of_lt (mag-small (at xs i)) (N.lt_of_le_of_lt (p.at i).size l))

-- ---- the two rules
pub ranged-inside : (n : ℕ) (xs : List ℤ) → ¬ Unheld xs → Ranged n xs → ¬ Astray n xs
ranged-inside n xs f (inl p) (b, c) = each-inside p b
ranged-inside n xs f (inr p) (b, inl c) = each-inside p c
ranged-inside n xs f (inr p) (b, inr u) = f u

pub inside-ranged : (n : ℕ) (xs : List ℤ) → ¬ Astray n xs → Ranged n xs
inside-ranged n xs f = go (each_or n xs) (each_or n (from_first xs))
  where
    go : Each n xs ⊎ Beyond n xs → Each n (from_first xs) ⊎ Beyond n (from_first xs) → Ranged n xs
    go (inl p) q = inl p
    go (inr b) (inl p) = inr p
    go (inr b) (inr c) = absurd (f (b, inl c))

pub inside-held : (n : ℕ) (xs : List ℤ) → n < 2147483648 → ¬ Astray n xs → ¬ Unheld xs
inside-held n xs l f u = go (each_or n xs)
  where
    go : Each n xs ⊎ Beyond n xs → ⊥
    go (inl p) = each-held l p u
    go (inr b) = f (b, inr u)

pub limit-held : (k : Kind) → coordinate_limit k < 2147483648
limit-held six = lit< tt
limit-held eight = lit< tt
limit-held nine = lit< tt
limit-held ten = lit< tt

-- past the end stands 0
pub held_at : (k : Kind) (xs : List ℤ) → ¬ Outside k xs → (i : ℕ) → Held (at xs i)
held_at k xs f i = go (dec_le (suc i) (length xs)) (dec_le (suc (mag (at xs i))) 2147483648)
  where
    go : Dec (i < length xs) → Dec (Held (at xs i)) → Held (at xs i)
    go d (yes l) = l
    go (yes h) (no l) = absurd (inside-held (coordinate_limit k) xs (limit-held k) f (i, h, l))
    go (no h) (no l) = rw (get_or-eq_default xs (pos 0) (N.le_of_suc-le-suc (N.lt_of_not-le h))) (lit< tt)

pub unheld-or : (xs : List ℤ) → ¬ Unheld xs ⊎ Unheld xs
unheld-or [] = inl (λ (i, h, f). absurd (omega arith))
unheld-or (x ∷ xs) = go (dec_le (suc (mag x)) 2147483648) (unheld-or xs)
  where
    at_place : Held x → ¬ Unheld xs → (i : ℕ) → i < suc (length xs) → ¬ Held (at (x ∷ xs) i) → ⊥
    at_place l f zero h g = g l
    at_place l f (suc i) h g = f (i, N.le_of_suc-le-suc h, g)

    go : Dec (Held x) → ¬ Unheld xs ⊎ Unheld xs → ¬ Unheld (x ∷ xs) ⊎ Unheld (x ∷ xs)
    go (no l) r = inr (0, suc-le-suc zero-le, l)
    go (yes l) (inl f) = inl (λ (i, h, g). at_place l f i h g)
    go (yes l) (inr (i, h, g)) = inr (suc i, suc-le-suc h, g)

pub unheld-outside : (k : Kind) (xs : List ℤ) → Unheld xs → Outside k xs
unheld-outside k xs (i, h, f) =
    let l : 2147483648 ≤ mag (at xs i) = N.le_of_suc-le-suc (N.lt_of_not-le f) in
    ((i, h, N.lt_of_lt_of_le (limit-held k) (N.le_trans l (mag-small (at xs i)))), inr (i, h, f))
