-- Elements far from the origin (02, Ask 7: "the coordinates are accepted if all lie within the kind's limit, as before, or if every
-- node's difference from the first node, in x and in y, does").
--   by_axis a b k   == a at a place of the list that has an x, b at one that has a y
--   moved_by a b xs == the list with a taken from each x and b from each y
--   from_first xs   == each node's difference from the first node
--   Ranged n xs    == all lie within n, as they stand or from the first node
--   Inside k xs    == two numbers a node, and all lie within the kind's limit, as they stand or from the first node
--   Held z, Unheld xs == z is an i32; some number of xs is none
-- Definitions only.
use Rattle.std.specs.Prelude.{◌≡◌, cond, List, ◌⊎◌, ℕ, ◌*◌, ◌%◌, ◌<◌, eqb, ℤ, ◌-ℤ◌, length}
use Rattle.std.specs.Int.Signed.{mag}
use Rattle.algebra.specs.Fill.{list_to}
use Rattle.algebra.specs.Within.{Each}
use Rattle.element.specs.Kinds.{Kind, node_count, coordinate_limit}
use Rattle.element.specs.Control.{at}

-- "x then y for each node": x stands at the even places
abbrev pub by_axis : ℤ → ℤ → ℕ → ℤ
by_axis a b k = cond (eqb (k % 2) 0) a b

abbrev pub moved_by : ℤ → ℤ → List ℤ → List ℤ
moved_by a b xs = list_to (length xs) (λ k. at xs k -ℤ by_axis a b k)

abbrev pub from_first : List ℤ → List ℤ
from_first xs = moved_by (at xs 0) (at xs 1) xs

-- one axis by the one and one by the other is neither
abbrev pub Ranged : ℕ → List ℤ → Type 0
Ranged n xs = Each n xs ⊎ Each n (from_first xs)

pub record Inside (k : Kind) (xs : List ℤ) : Type 0 where
  pub long : length xs ≡ 2 * node_count k
  pub range : Ranged (coordinate_limit k) xs

-- ---- what a record can hold
-- -2^31 ≤ z < 2^31: `mag z` is z, or -z - 1 below zero
abbrev pub Held : ℤ → Type 0
Held z = mag z < 2147483648

abbrev pub Unheld : List ℤ → Type 0
Unheld xs = (i : ℕ) × (i < length xs) × ¬ Held (at xs i)
