-- Room for a sum of values by a row of weights (01: "every value stays below 2^62 in size").
--   Room row c  == each weight has a value, and no part of the sum leaves 64 bits
--   TableRoom t c == no part of a sum by a row of the table t leaves 64 bits
-- Definitions only.
use Rattle.std.specs.Prelude.{List, [], get_or, ℕ, ◌*◌, ◌^◌, ◌≤◌, ◌<◌, ℤ, length}
use Rattle.algebra.specs.Within.{Each}
use Rattle.forms.specs.Rows.{Row, total}

pub record Room (row : Row) (c : List ℤ) : Type 0 where
  pub long : length row ≤ length c
  pub size : ℕ
  pub each : Each size c
  pub below : total row * size < 2 ^ 63

pub record TableRoom (t : List Row) (c : List ℤ) : Type 0 where
  pub size : ℕ
  pub each : Each size c
  pub below : (k : ℕ) → total (get_or t k []) * size < 2 ^ 63
