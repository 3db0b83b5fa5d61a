-- A word without bytes.
--   nil-of         : one of length 0 has none
-- Assumes nothing.
use mathlib.Core.Path.{◌≡◌, refl}
use mathlib.Core.List.{List, [], ◌∷◌}
use Prim.Native.Nat.{ℕ}
use native.Mathlib.Omega.{arith}
use lib.ListN.{length}

pub nil-of : (w : List ℕ) → length w ≡ 0 → w ≡ []
nil-of [] h = refl
nil-of (b ∷ w) h = absurd (omega arith)
