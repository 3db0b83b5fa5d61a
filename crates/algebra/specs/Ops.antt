-- The operations of a ring as a record, so that one formula can be read by the solver as an expression.
--   Ops A  == sum, difference, product and literals of a carrier A
-- Definitions only.
use Rattle.std.specs.Prelude.{ℕ}

pub record Ops (A : Type 0) : Type 0 where
  pub add : A → A → A
  pub sub : A → A → A
  pub mul : A → A → A
  pub num : ℕ → A
