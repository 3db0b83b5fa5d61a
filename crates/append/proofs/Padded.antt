-- Nine pairs: the coordinates given, and then zeros.
--   padded-length  : at most 18 numbers become 18
--   padded-used, padded-rest : the coordinates come first, and behind them stands 0
-- Assumes nothing.
use mathlib.Core.Path.{◌≡◌, refl, ap, ◌∙◌}
use mathlib.Core.List.{List}
use Prim.Native.Nat.{ℕ, zero, suc, ◌+◌, ◌-◌, ◌≤◌}
use native.Mathlib.Omega.{arith}
use lib.IntN.{ℤ, pos}
use lib.ListN.{length, get_or, take, drop, replicate, length-append, length-replicate}
use lib.Seq.{take_at, drop_at}
use Rattle.append.specs.Append.{padded}

pub padded-length : (xs : List ℤ) → length xs ≤ 18 → length (padded xs) ≡ 18
padded-length xs h =
    let m = replicate (18 - length xs) (pos 0) in
    length-append xs m ∙ ap (λ (n : ℕ). length xs + n) (length-replicate (18 - length xs) (pos 0)) ∙ omega arith

pub padded-used : (xs : List ℤ) (n : ℕ) → length xs ≡ n → take n (padded xs) ≡ xs
padded-used xs n e = take_at xs (replicate (18 - length xs) (pos 0)) n e

zeros-at : (n k : ℕ) → get_or (replicate n (pos 0)) k (pos 0) ≡ pos 0
zeros-at zero k = refl
zeros-at (suc n) zero = refl
zeros-at (suc n) (suc k) = zeros-at n k

pub padded-rest : (xs : List ℤ) (n k : ℕ) → length xs ≡ n → get_or (drop n (padded xs)) k (pos 0) ≡ pos 0
padded-rest xs n k e =
    let m = replicate (18 - length xs) (pos 0) in
    ap (λ (l : List ℤ). get_or l k (pos 0)) (drop_at xs m n e) ∙ zeros-at (18 - length xs) k
