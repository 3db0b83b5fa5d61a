-- Lists that a loop fills from the front, one store a turn.
--   list_to n f     == f 0, f 1, .. : n of them
--   Filled n r f l == of the n numbers l, the first r are f's
-- Definitions only.
use Rattle.std.specs.Prelude.{◌≡◌, List, [], ◌∷◌, ◌++◌, ℕ, zero, suc, ℤ, length, take}

abbrev pub list_to : ℕ → (ℕ → ℤ) → List ℤ
list_to zero f = []
list_to (suc n) f = list_to n f ++ (f n ∷ [])

pub record Filled (n r : ℕ) (f : ℕ → ℤ) (l : List ℤ) : Type 0 where
  pub long : length l ≡ n
  pub front : take r l ≡ list_to r f
