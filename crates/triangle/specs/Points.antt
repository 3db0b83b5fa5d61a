-- What the code of a triangle keeps on the way to its control values. A list n has the nodes' numbers along one coordinate.
--   between n m a b == the doubled control point of the edge from a to b with the middle m
--   points6 n    == the six: Q00, Q11, Q22, Q01, Q12, Q02
--   combine6 u v == the control values, from the points u along x and v along y
-- Definitions only.
use Rattle.std.specs.Prelude.{List, [], ◌∷◌, ℕ, ℤ, pos, ◌+ℤ◌, ◌-ℤ◌, ◌*ℤ◌}
use Rattle.element.specs.Control.{at}
use Rattle.points.specs.Points.{across}

-- "Qkk = 2Ak, Qkl = 4Mkl - Ak - Al"
abbrev pub between : List ℤ → ℕ → ℕ → ℕ → ℤ
between n m a b = pos 4 *ℤ at n m -ℤ at n a -ℤ at n b

abbrev pub points6 : List ℤ → List ℤ
points6 n =
    (pos 2 *ℤ at n 0) ∷ (pos 2 *ℤ at n 1) ∷ (pos 2 *ℤ at n 2)
    ∷ between n 3 0 1 ∷ between n 4 1 2 ∷ between n 5 0 2 ∷ pos 0 ∷ pos 0 ∷ pos 0 ∷ pos 0 ∷ []

-- "ckk = 2 det(ak,bk); ckl = det(ak,bl) + det(al,bk)"; a0, a1, a2 run from 0 to 3, from 3 to 1 and from 5 to 4, and b0, b1, b2
-- from 0 to 5, from 3 to 4 and from 5 to 2
abbrev pub combine6 : List ℤ → List ℤ → List ℤ
combine6 u v =
    (pos 2 *ℤ across u v 0 3 0 5) ∷ (pos 2 *ℤ across u v 3 1 3 4) ∷ (pos 2 *ℤ across u v 5 4 5 2)
    ∷ (across u v 0 3 3 4 +ℤ across u v 3 1 0 5) ∷ (across u v 3 1 5 2 +ℤ across u v 5 4 3 4)
    ∷ (across u v 0 3 5 2 +ℤ across u v 5 4 0 5) ∷ []
