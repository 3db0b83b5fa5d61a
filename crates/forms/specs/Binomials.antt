-- Binomial and multinomial coefficients, and factorials.
--   choose n k  == C(n, k)
--   factorial n == n!
--   multinomial i j k == (i + j + k)! / (i! j! k!)
-- Definitions only.
use Rattle.std.specs.Prelude.{ℕ, zero, suc, ◌+◌, ◌*◌}

abbrev pub choose : ℕ → ℕ → ℕ
choose n zero = 1
choose zero (suc k) = 0
choose (suc n) (suc k) = choose n k + choose n (suc k)

abbrev pub factorial : ℕ → ℕ
factorial zero = 1
factorial (suc n) = suc n * factorial n

abbrev pub multinomial : ℕ → ℕ → ℕ → ℕ
multinomial i j k = choose (i + j + k) i * choose (j + k) j
