-- The kinds that a block holds, and the one more that control values, bounds and verdict take (02, Ask 11: "no other call").
--   stored-kind      : what a block holds is a kind
--   stored-not-ten   : and it is not 10
--   ten-refused      : where kind 10 is not taken it is code 1, whatever else
--   stored-accepted, accepted-stored : what is accepted for a block is accepted by the verdict, and the other way round but for kind 10
--   stored-alike     : but for kind 10 the two orders refuse alike
-- Assumes nothing.
use mathlib.Core.Path.{◌≡◌, refl, sym, subst}
use mathlib.Core.List.{List}
use mathlib.Core.Logic.{inl, inr}
use Prim.Native.Nat.{ℕ}
use native.Mathlib.Omega.{arith}
use lib.IntN.{ℤ}
use Rattle.element.specs.Kinds.{NotStored, NotKind}
use Rattle.element.specs.Refusals.{Refused, Accepted, verdict_codes, stored_codes}

pub stored-kind : {n : ℕ} → ¬ NotStored n → ¬ NotKind n
stored-kind f k = f k.0

ten-apart : NotStored 10
ten-apart = ((λ e. omega arith), (λ e. omega arith), (λ e. omega arith))

pub stored-not-ten : {n : ℕ} → ¬ NotStored n → ¬ (n ≡ 10)
stored-not-ten f e = f (subst NotStored (sym e) ten-apart)

pub ten-refused : (l : ℕ) (xs : List ℤ) → Refused (stored_codes 10 l xs) 1
ten-refused l xs = inl (ten-apart, refl)

module _ (n l : ℕ) (xs : List ℤ) where
  pub stored-accepted : Accepted (stored_codes n l xs) → Accepted (verdict_codes n l xs)
  stored-accepted (f, a) = (stored-kind f, a)

  pub accepted-stored : ¬ NotStored n → Accepted (verdict_codes n l xs) → Accepted (stored_codes n l xs)
  accepted-stored f (k, a) = (f, a)

  pub stored-alike : ¬ (n ≡ 10) → (c : ℕ)
      → (Refused (stored_codes n l xs) c → Refused (verdict_codes n l xs) c)
      × (Refused (verdict_codes n l xs) c → Refused (stored_codes n l xs) c)
  stored-alike h c = (to, from)
    where
      to : Refused (stored_codes n l xs) c → Refused (verdict_codes n l xs) c
      to (inl (f, e)) = inl ((f, h), e)
      to (inr (f, r)) = inr (stored-kind f, r)

      from : Refused (verdict_codes n l xs) c → Refused (stored_codes n l xs) c
      from (inl (f, e)) = inl (f.0, e)
      from (inr (f, r)) = inr ((λ k. f (k, h)), r)
