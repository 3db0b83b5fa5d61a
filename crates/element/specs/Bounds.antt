-- The bounds for a solver (01: "The least and the greatest level 0 control value").
--   Least c z    == z is the least of the numbers c
--   Greatest c z == z is the greatest
--   Between k xs lo hi x == the scaled J at the place x lies between lo and hi
-- Definitions only.
use Rattle.std.specs.Prelude.{◌≡◌, List, ℕ, ◌<◌, ℤ, pos, ◌*ℤ◌, length, ◌≤ℤ◌}
use Rattle.element.specs.Kinds.{Kind, scale}
use Rattle.element.specs.Places.{Place}
use Rattle.element.specs.Jacobian.{jacobian, factor}
use Rattle.element.specs.Control.{at}

pub record Least (c : List ℤ) (z : ℤ) : Type 0 where
  pub place : ℕ
  pub in_list : place < length c
  pub there : at c place ≡ z
  pub below : (k : ℕ) → k < length c → z ≤ℤ at c k

pub record Greatest (c : List ℤ) (z : ℤ) : Type 0 where
  pub place : ℕ
  pub in_list : place < length c
  pub there : at c place ≡ z
  pub above : (k : ℕ) → k < length c → at c k ≤ℤ z

-- lo ≤ scale·J ≤ hi, times the factor of the place
pub record Between (k : Kind) (xs : List ℤ) (lo hi : ℤ) (x : Place k) : Type 0 where
  pub low : (pos (factor k x) *ℤ lo) ≤ℤ (pos (scale k 0) *ℤ jacobian k xs x)
  pub high : (pos (scale k 0) *ℤ jacobian k xs x) ≤ℤ (pos (factor k x) *ℤ hi)
