-- What an accepted call of `floor_verdict` tells, and the tests that the code makes.
--   not-above      : what is at most n is not above it
--   percent        : a percentage
--   small          : the coordinates of a triangle without a fault of its list are within their limit, as they stand or from the first node
--   Parts, accepted-parts : what an accepted call tells
--   accepted-lower, accepted-plain : it is accepted with a lower floor, and by `verdict`
--   straight-positive : and S is positive
--   not_positive, positive : the sign of S, as the code tests it
-- Assumes nothing.
use mathlib.Core.Path.{◌≡◌, sym, subst}
use mathlib.Core.Bool.{true, false}
use mathlib.Core.List.{List}
use mathlib.Core.Logic.{◌⊎◌, inl, inr}
use Prim.Native.Nat.{ℕ, ◌≤◌, ◌<◌}
use native.Mathlib.Nat as N
use native.Mathlib.Omega.{arith}
use lib.Dec.{T}
use lib.IntN.{ℤ, pos}
use lib.Signed.{◌≤ℤ◌, ◌<ℤ◌, le_z, le_z_yes}
use Rattle.algebra.proofs.Truth.{true-T, T_false, not-not}
use Rattle.algebra.proofs.Order.{<-cases}
use Rattle.element.specs.Kinds.{six, kind_of}
use Rattle.element.specs.Origin.{Inside}
use Rattle.element.specs.Refusals.{Accepted, AboveLevel, WrongLength, Outside, verdict_codes}
use Rattle.faults.proofs.Limits.{listed-inside}
use Rattle.floor.specs.Floor.{straight}
use Rattle.floor.specs.Calls.{NoPercent, floor_codes}

pub not-above : {m n : ℕ} → m ≤ n → ¬ (n < m)
not-above h k = N.not-le_of_lt k h

pub percent : (p : ℕ) → ¬ (p < 1) → ¬ (99 < p) → ¬ NoPercent p
percent p f g (inl h) = f h
percent p f g (inr h) = g h

pub small : (n : ℕ) (xs : List ℤ) → n ≡ 6 → ¬ WrongLength n xs → ¬ Outside (kind_of n) xs → Inside six xs
small n xs e g h = subst (λ m. Inside (kind_of m) xs) e (listed-inside n xs (λ f. f.0.0 e) g h)

pub record Parts (n l : ℕ) (xs : List ℤ) (p : ℕ) : Type 0 where
  pub kind : n ≡ 6
  pub limit : l ≤ 7
  pub share : p ≤ 99
  pub small : Inside six xs

module _ (n l : ℕ) (xs : List ℤ) (p : ℕ) where
  pub accepted-parts : Accepted (floor_codes n l xs p) → Parts n l xs p
  accepted-parts (k, (h, (f, (g, (d, (q, u)))))) =
      record {
        kind = not-not n 6 k;
        limit = N.le_of_suc-le-suc (N.lt_of_not-le h);
        share = N.le_of_suc-le-suc (N.lt_of_not-le (λ b. q (inr b)));
        small = small n xs (not-not n 6 k) f g;
      }

  pub straight-positive : Accepted (floor_codes n l xs p) → pos 0 <ℤ straight xs
  straight-positive a = go (<-cases (pos 0) (straight xs))
    where
      go : (pos 0 <ℤ straight xs) ⊎ (straight xs ≤ℤ pos 0) → pos 0 <ℤ straight xs
      go (inl h) = h
      go (inr h) = absurd (a.1.1.1.1.1.1.0 h)

  -- what is accepted with a floor is accepted with a lower one and without, under any limit that the floor takes
  pub accepted-lower : (m q : ℕ) → m ≤ 7 → 0 < q → q ≤ p → Accepted (floor_codes n l xs p) → Accepted (floor_codes n m xs q)
  accepted-lower m q c h i a =
      let (k, (b, (f, (g, (d, (r, u)))))) = a in let s = (accepted-parts a).share in
      (k, (not-above c, (f, (g, (d, (percent q (λ b. omega arith) (λ b. omega arith), u))))))

  pub accepted-plain : (m : ℕ) → m ≤ 10 → Accepted (floor_codes n l xs p) → Accepted (verdict_codes n m xs)
  accepted-plain m c a =
      let (k, (b, (f, (g, (d, u))))) = a in
      ((λ x. k x.0.0), (below (not-not n 6 k), (f, (g, (d, tt)))))
    where
      below : n ≡ 6 → ¬ AboveLevel (kind_of n) m
      below e = rw e (not-above c)

-- ---- the sign of S, from the test that the code makes of u, which is S
pub not_positive : {u s : ℤ} → u ≡ s → le_z u (pos 0) ≡ true → s ≤ℤ pos 0
not_positive e h = le_z_yes (subst (λ z. T (le_z z (pos 0))) e (true-T h))

pub positive : {u s : ℤ} → u ≡ s → le_z u (pos 0) ≡ false → ¬ (s ≤ℤ pos 0)
positive {u} e h p = T_false (le_z u (pos 0)) h (subst (λ z. T (le_z z (pos 0))) (sym e) p.le)
