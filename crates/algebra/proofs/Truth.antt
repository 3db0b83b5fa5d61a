-- Tests that compute, taken apart and put together.
--   T_and, and_T   : both of a conjunction hold, and the other way round
--   T-or           : by cases on a disjunction
--   and-true, and_assoc : a conjunction with what holds, and of three
--   T_true, true-T : a test that holds is true; T_false, false-T, false-not: one that does not is false
--   cond_ind       : by cases on what a test picks
--   not-not        : two numbers that are not different are the same
-- Assumes nothing.
use mathlib.Core.Path.{◌≡◌, refl}
use mathlib.Core.Bool.{Bool, true, false, not, cond, ◌&&◌, ◌||◌}
use Prim.Native.Nat.{ℕ}
use borrow.Author.Tests.{eqb-true, eqb-false}
use lib.Dec.{T, eqb}

pub T_and : (a b : Bool) → T (a && b) → T a × T b
T_and true b t = (tt, t)
T_and false b t = absurd t

pub and_T : (a b : Bool) → T a → T b → T (a && b)
and_T true b s t = t
and_T false b s t = absurd s

pub T-or {ℓ} : (a b : Bool) (X : Type ℓ) → (T a → X) → (T b → X) → T (a || b) → X
T-or true b X f g t = f tt
T-or false b X f g t = g t

pub and-true : (b : Bool) → b && true ≡ b
and-true true = refl
and-true false = refl

pub and_assoc : (a b c : Bool) → a && (b && c) ≡ (a && b) && c
and_assoc true b c = refl
and_assoc false b c = refl

pub T_true : (b : Bool) → T b → b ≡ true
T_true true t = refl
T_true false t = absurd t

pub true-T : {b : Bool} → b ≡ true → T b
true-T e = rw e tt

pub false-not : {b : Bool} → b ≡ false → T (not b)
false-not e = rw e tt

pub T_false : (b : Bool) → b ≡ false → ¬ T b
T_false b e t = rw e at t

pub false-T : (b : Bool) → ¬ T b → b ≡ false
false-T true f = absurd (f tt)
false-T false f = refl

pub cond_ind {ℓ} : {A : Type 0} (c : Bool) (x y : A) (P : A → Type ℓ) → (T c → P x) → (T (not c) → P y) → P (cond c x y)
cond_ind true x y P f g = f tt
cond_ind false x y P f g = g tt

pub not-not : (m n : ℕ) → ¬ (¬ (m ≡ n)) → m ≡ n
not-not m n f = go (eqb m n) (eqb-true m n) (eqb-false m n)
  where
    go : (b : Bool) → (b ≡ true → m ≡ n) → (b ≡ false → ¬ (m ≡ n)) → m ≡ n
    go true p q = p refl
    go false p q = absurd (f (q refl))
