-- The binomials that the code tells apart.
--   choose-self   : C(n, n) is 1
--   choose-inside : up to 3, what stands between the ones of a row is its number
--   choose2-both  : C(2, k)·C(2, m) is at most 4
--   ninth-is      : a part of nine is small
-- Assumes nothing.
use mathlib.Core.Path.{◌≡◌, refl}
use mathlib.Core.Bool.{Bool, ◌||◌}
use mathlib.Core.List.{List, [], ◌∷◌}
use Prim.Native.Nat.{ℕ, zero, suc, ◌*◌, ◌/◌, ◌≤◌}
use native.Mathlib.Nat as N
use native.Mathlib.Omega.{arith}
use lib.Dec.{lit≤, leb, leb→le, eqb, eqb→eq}
use lib.IntN.{pos}
use lib.ListN.{get_or}
use Rattle.algebra.specs.Within.{Within, Is}
use Rattle.algebra.proofs.Truth.{T-or}
use Rattle.algebra.proofs.Within.{within-pos, within-≤}
use Rattle.forms.specs.Binomials.{choose}
use Rattle.forms.proofs.Cells.{every-at}

-- past the end of a row stands 0
choose-past : (n k : ℕ) → n ≤ k → choose n (suc k) ≡ 0
choose-past zero k h = refl
choose-past (suc n) zero h = absurd (N.not-suc-le-zero h)
choose-past (suc n) (suc k) h = rw (choose-past n k (N.le_of_suc-le-suc h), choose-past n (suc k) (omega arith)) refl

pub choose-self : (n : ℕ) → choose n n ≡ 1
choose-self zero = refl
choose-self (suc n) = rw (choose-self n, choose-past n n (N.le_refl n)) refl

pub choose-inside : (n k : ℕ) → n ≤ 3 → k ≤ n → ¬ (k ≡ 0) → ¬ (k ≡ n) → choose n k ≡ n
choose-inside n k h l a b =
    T-or (eqb k 0) (leb n k || eqb (choose n k) n) (choose n k ≡ n) (λ t. absurd (a (eqb→eq k 0 t)))
    (T-or (leb n k) (eqb (choose n k) n) (choose n k ≡ n) (λ t. absurd (b (N.le_antisymm l (leb→le n k t)))) (eqb→eq (choose n k) n))
    (every-at (4 ∷ 4 ∷ []) rule tt (n ∷ k ∷ []) (omega arith, (omega arith, tt)))
  where
    rule : List ℕ → Bool
    rule ks = let n : ℕ = get_or ks 0 0 in let k : ℕ = get_or ks 1 0 in eqb k 0 || (leb n k || eqb (choose n k) n)

choose2-small : (k : ℕ) → choose 2 k ≤ 2
choose2-small zero = lit≤ tt
choose2-small (suc zero) = lit≤ tt
choose2-small (suc (suc zero)) = lit≤ tt
choose2-small (suc (suc (suc k))) = lit≤ tt

pub choose2-both : (k m : ℕ) → Within 4 (pos (choose 2 k * choose 2 m))
choose2-both k m = within-≤ (within-pos (choose 2 k * choose 2 m)) (N.mul-le-mul (choose2-small k) (choose2-small m))

pub ninth-is : (m : ℕ) → Is 9 (pos (9 / m)) (pos (9 / m))
ninth-is m = record { same = refl; within = record { size = N.div-le_self 9 m } }
