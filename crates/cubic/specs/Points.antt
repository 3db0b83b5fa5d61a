-- What the code of a ten-node triangle keeps on the way to its control values. A list n has the nodes' numbers along one coordinate;
-- control points stand by rising k, then rising j.
--   nodes xs a        == the coordinates of the ten nodes along x (a = 0) or y (a = 1)
--   spot j k          == the place of the control point (3 - j - k, j, k)
--   beside n a m o b  == twelve times the control point next to a on the edge from a to b with the nodes m, o
--   corners n, edges n == the sum of the corners, and of the edge nodes
--   inner n           == twelve times the inner control point
--   points10 n        == twelve times the ten control points
--   grid u v i j k    == the point (i, j, k), from the points u along x and v along y
--   row u v I J K i1 j1 k1 == the terms of value (I, J, K) with these i1, j1, k1
--   combine10 u v     == the control values
-- Definitions only.
use Rattle.std.specs.Prelude.{List, [], ◌∷◌, ℕ, ◌+◌, ◌*◌, ◌-◌, ◌/◌, ℤ, pos, ◌+ℤ◌, ◌-ℤ◌, ◌*ℤ◌, get_or}
use Rattle.algebra.specs.Fill.{list_to}
use Rattle.forms.specs.Triangles.{degrees10}
use Rattle.element.specs.Plane.{Vec, sum3}
use Rattle.element.specs.Control.{at}
use Rattle.element.specs.Cubic.{term10, value10}
use Rattle.points.specs.Points.{point}

abbrev pub nodes : List ℤ → ℕ → List ℤ
nodes xs a = list_to 10 (λ k. at xs (2 * k + a))

-- from 0, 4, 7 and 9 on
abbrev pub spot : ℕ → ℕ → ℕ
spot j k = k * (9 - k) / 2 + j

-- "(-5A + 18M - 9N + 2B)/6"
abbrev pub beside : List ℤ → ℕ → ℕ → ℕ → ℕ → ℤ
beside n a m o b = pos 2 *ℤ (pos 18 *ℤ at n m -ℤ pos 5 *ℤ at n a -ℤ pos 9 *ℤ at n o +ℤ pos 2 *ℤ at n b)

abbrev pub corners : List ℤ → ℤ
corners n = at n 0 +ℤ at n 1 +ℤ at n 2

abbrev pub edges : List ℤ → ℤ
edges n = at n 3 +ℤ at n 4 +ℤ at n 5 +ℤ at n 6 +ℤ at n 7 +ℤ at n 8

-- "54 times the centre plus 4 times the corners minus 9 times the edge nodes"
abbrev pub inner : List ℤ → ℤ
inner n = pos 54 *ℤ at n 9 +ℤ pos 4 *ℤ corners n -ℤ pos 9 *ℤ edges n

abbrev pub points10 : List ℤ → List ℤ
points10 n =
    (pos 12 *ℤ at n 0) ∷ beside n 0 3 4 1 ∷ beside n 1 4 3 0 ∷ (pos 12 *ℤ at n 1)
    ∷ beside n 0 8 7 2 ∷ inner n ∷ beside n 1 5 6 2
    ∷ beside n 2 7 8 0 ∷ beside n 2 6 5 1
    ∷ (pos 12 *ℤ at n 2) ∷ []

abbrev pub grid : List ℤ → List ℤ → ℕ → ℕ → ℕ → Vec
grid u v i j k = point u v (spot j k)

abbrev pub row : List ℤ → List ℤ → ℕ → ℕ → ℕ → ℕ → ℕ → ℕ → ℤ
row u v I J K i1 j1 k1 = sum3 2 (λ i2 j2 k2. term10 (grid u v) I J K i1 j1 k1 i2 j2 k2)

-- of these degrees
abbrev pub value_of : List ℤ → List ℤ → List ℕ → ℤ
value_of u v ds = value10 (grid u v) (get_or ds 0 0) (get_or ds 1 0) (get_or ds 2 0)

abbrev pub combine10 : List ℤ → List ℤ → List ℤ
combine10 u v = list_to 15 (λ n. value_of u v (get_or degrees10 n []))
