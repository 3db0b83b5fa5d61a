-- The nodes of an element, from its coordinate list (01: "x then y for each node in the kind's order").
--   node xs k    == node k of the list
--   A0 .. M02 xs == the triangle's: corners and edge middles
--   A9 xs i j    == the node ij of a nine-node quad; nodes stand in rows, first index along u
--   A8 xs i j    == the node ij of an eight-node quad, which omits 11
-- Definitions only.
use Rattle.std.specs.Prelude.{List, ℕ, zero, suc, ◌+◌, ◌*◌, ℤ, pos, get_or}
use Rattle.element.specs.Plane.{Vec}

abbrev pub node : List ℤ → ℕ → Vec
node xs k = record { x = get_or xs (2 * k) (pos 0); y = get_or xs (2 * k + 1) (pos 0) }

-- "A0, A1, A2, M01, M12, M02"
abbrev pub A0 : List ℤ → Vec
A0 xs = node xs 0

abbrev pub A1 : List ℤ → Vec
A1 xs = node xs 1

abbrev pub A2 : List ℤ → Vec
A2 xs = node xs 2

abbrev pub M01 : List ℤ → Vec
M01 xs = node xs 3

abbrev pub M12 : List ℤ → Vec
M12 xs = node xs 4

abbrev pub M02 : List ℤ → Vec
M02 xs = node xs 5

-- "00, 10, 20, 01, 11, 21, 02, 12, 22"
abbrev pub A9 : List ℤ → ℕ → ℕ → Vec
A9 xs i j = node xs (i + 3 * j)

-- the place of the node ij among the eight; 11 has none, and shares one here that no rule looks at
abbrev pub place8 : ℕ → ℕ → ℕ
place8 i zero = i
place8 zero (suc zero) = 3
place8 (suc i) (suc zero) = 4
place8 i (suc (suc j)) = 5 + i

abbrev pub A8 : List ℤ → ℕ → ℕ → Vec
A8 xs i j = node xs (place8 i j)
