-- What the tests of a stored record tell.
--   known_small : a kind is at most 9
--   known-level : and its level limit at most 10
--   each-zero   : numbers within 0 are 0
-- Assumes nothing.
use mathlib.Core.Path.{◌≡◌, ap}
use mathlib.Core.List.{List}
use Prim.Native.Nat.{ℕ, ◌≤◌}
use native.Mathlib.Nat as N
use native.Mathlib.Omega.{arith}
use native.Mathlib.Decide.{dec_le}
use lib.IntN.{ℤ, pos, negsuc, nat_abs}
use lib.ListN.{get_or}
use Rattle.algebra.specs.Within.{Each}
use Rattle.element.specs.Kinds.{Kind, six, eight, nine, ten, NotStored, greatest_level}
use Rattle.element.specs.Refusals.{AboveLevel}

pub known_small : (n : ℕ) → ¬ NotStored n → n ≤ 9
known_small n f = go (dec_le n 9)
  where
    go : Dec (n ≤ 9) → n ≤ 9
    go (yes h) = h
    go (no h) = absurd (f ((λ e. h (omega arith)), (λ e. h (omega arith)), λ e. h (omega arith)))

pub known-level : (k : Kind) (n : ℕ) → ¬ AboveLevel k n → n ≤ 10
known-level k n f = N.le_trans (N.le_of_suc-le-suc (N.lt_of_not-le f)) (most k)
  where
    most : (k : Kind) → greatest_level k ≤ 10
    most six = omega arith
    most eight = omega arith
    most nine = omega arith
    most ten = omega arith

pub each-zero : {l : List ℤ} → Each 0 l → (k : ℕ) → get_or l k (pos 0) ≡ pos 0
each-zero {l} p k = none (get_or l k (pos 0)) (p.at k).size
  where
    none : (z : ℤ) → nat_abs z ≤ 0 → z ≡ pos 0
    none (pos n) h = ap pos (let e : n ≡ 0 = omega arith in e)
    none (negsuc n) h = absurd (omega arith)
