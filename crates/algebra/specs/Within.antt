-- How large a whole number is, and the relation between a machine's number and the whole number that it is meant to be.
--   Within n z  == z is at most n in size: -n ≤ z ≤ n
--   Each n l    == every number of the list l is within n
--   Is n z v    == the machine's v is z, and z is within n
-- Definitions only.
use Rattle.std.specs.Prelude.{◌≡◌, List, ℕ, ◌≤◌, ℤ, pos, nat_abs, get_or}

pub record Within (n : ℕ) (z : ℤ) : Type 0 where
  pub size : nat_abs z ≤ n

-- past the list's end stands 0
pub record Each (n : ℕ) (l : List ℤ) : Type 0 where
  pub at : (k : ℕ) → Within n (get_or l k (pos 0))

pub record Is (n : ℕ) (z v : ℤ) : Type 0 where
  pub same : v ≡ z
  pub within : Within n z
