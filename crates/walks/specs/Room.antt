-- How large values, columns and rows may be with n cuts to go, and how many cells there are then at most (01: "Within these limits
-- every value stays below 2^62 in size").
--   cap g n   == the size of the values, where a cut lets them grow by g
--   span n    == the size of columns and rows
--   most n    == the number of cells
--   Few m w   == a walk counts at most m cells, and answers a bad point or none
-- Definitions only.
use Rattle.std.specs.Prelude.{ℕ, zero, suc, ◌*◌, ◌/◌, ◌^◌, ◌≤◌}
use Rattle.steps.specs.Steps.{Plain}
use Rattle.steps.specs.declared.Walk.{Walk}

unfoldable pub cap : ℕ → ℕ → ℕ
cap g zero = 2 ^ 62
cap g (suc n) = cap g n / g

unfoldable pub span : ℕ → ℕ
span zero = 2 ^ 20
span (suc n) = span n / 2

unfoldable pub most : ℕ → ℕ
most zero = 1
most (suc n) = 4 * most n

pub record Few (m : ℕ) (w : Walk) : Type 0 where
  pub cells : w.cells ≤ m
  pub failing : w.failing ≤ m
  pub plain : Plain w.best
