-- What the code of a quad keeps on the way to its control values. A list n has the nodes' numbers along one coordinate; nodes and
-- points stand in rows, ij at i + 3j.
--   quad_kind b        == eight nodes if b, else nine
--   gap b             == where the nodes have a gap; some number stands for the missing node
--   edge n m a b      == the fourfold control point of the edge from a to b with the middle m
--   four n a b c d    == a sum of four nodes
--   centre n b        == the fourfold control point 11
--   points9 n b       == the nine fourfold control points
--   grid u v i j      == the point ij, from the points u along x and v along y
--   vec v             == the code's vector v, as a vector of the plane
--   sums9 u v         == the sums of relation 27, (I, J) at I + 4J
--   combine9 u v      == the control values, in the same places
-- Definitions only.
use Rattle.std.specs.Prelude.{Bool, cond, List, [], ◌∷◌, ℕ, ◌+◌, ◌*◌, ℤ, pos, ◌+ℤ◌, ◌-ℤ◌, ◌*ℤ◌}
use Rattle.forms.specs.Quads.{sixteen}
use Rattle.element.specs.Kinds.{Kind, eight, nine}
use Rattle.element.specs.Plane.{Vec}
use Rattle.element.specs.Control.{at, value}
use Rattle.element.specs.Paper.{relation27}
use Rattle.points.specs.Points.{point}
use Rattle.quad.specs.declared.sum.Vector.{Vector}

abbrev pub quad_kind : Bool → Kind
quad_kind b = cond b eight nine

-- "Kind 8 omits 11", which is node 4; from the next on, nodes stand one earlier
abbrev pub gap : Bool → ℕ
gap b = cond b 5 9

-- "corner 4A; edge 8M - 2A - 2B; centre 16·A11 - 4·(sum of edge nodes) + (sum of corners)"
abbrev pub edge : List ℤ → ℕ → ℕ → ℕ → ℤ
edge n m a b = pos 8 *ℤ at n m -ℤ pos 2 *ℤ at n a -ℤ pos 2 *ℤ at n b

abbrev pub four : List ℤ → ℕ → ℕ → ℕ → ℕ → ℤ
four n a b c d = at n a +ℤ at n b +ℤ at n c +ℤ at n d

-- of eight nodes "four times the edge sum minus three times the corner sum"
abbrev pub centre : List ℤ → Bool → ℤ
centre n b =
    cond b (pos 4 *ℤ four n 1 3 5 7 -ℤ pos 3 *ℤ four n 0 2 6 8) (pos 16 *ℤ at n 4 -ℤ pos 4 *ℤ four n 1 3 5 7 +ℤ four n 0 2 6 8)

abbrev pub points9 : List ℤ → Bool → List ℤ
points9 n b =
    (pos 4 *ℤ at n 0) ∷ edge n 1 0 2 ∷ (pos 4 *ℤ at n 2)
    ∷ edge n 3 0 6 ∷ centre n b ∷ edge n 5 2 8
    ∷ (pos 4 *ℤ at n 6) ∷ edge n 7 6 8 ∷ (pos 4 *ℤ at n 8) ∷ pos 0 ∷ []

abbrev pub grid : List ℤ → List ℤ → ℕ → ℕ → Vec
grid u v i j = point u v (i + 3 * j)

abbrev pub vec : Vector → Vec
vec v = record { x = v.x; y = v.y }

-- "Place in the list: I + 4J"
abbrev pub sums9 : List ℤ → List ℤ → List ℤ
sums9 u v = sixteen (relation27 (grid u v))

abbrev pub combine9 : List ℤ → List ℤ → List ℤ
combine9 u v = sixteen (value (grid u v))
