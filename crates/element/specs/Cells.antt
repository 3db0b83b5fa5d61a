-- The cells of an element (01, "Cutting a cell", "The sign test and the verdict"), by the shape of its kind.
--   shape_of k       == the shape: a triangle of degree 2 or, of ten nodes, of degree 4; or a quad of bidegree (3, 3)
--   rows_of k x      == the place x as weights of the shape, a row for each direction
--   cell k path c   == the cell of c that the quarters of the path lead to; its level is the path's length
--   LiesAt k path x y == the place x of that cell is the place y of the element
--   Means k f c     == the values c are those of the numbers f at places: at each place their form is f there, times the scale of level 0
-- Definitions only.
use Rattle.std.specs.Prelude.{◌≡◌, List, [], ◌∷◌, ◌*◌, ◌-◌, ℤ, pos, ◌*ℤ◌}
use Rattle.forms.specs.Rows.{Row}
use Rattle.forms.specs.Cuttings.{Four}
use Rattle.forms.specs.Shapes.{Shape, scaled}
use Rattle.forms.specs.Grids.{cell_at, in_whole}
use Rattle.forms.specs.Triangles as T
use Rattle.forms.specs.Quads.{quad}
use Rattle.element.specs.Kinds.{Kind, six, eight, nine, ten, scale}
use Rattle.element.specs.Places.{InTriangle, InQuad, Place}
use Rattle.element.specs.Jacobian.{fold}

abbrev pub shape_of : Kind → Shape
shape_of six = T.six
shape_of eight = quad
shape_of nine = quad
shape_of ten = T.ten

abbrev pub triangle_rows : InTriangle → List Row
triangle_rows x = (x.p ∷ x.q ∷ x.r ∷ []) ∷ []

abbrev pub quad_rows : InQuad → List Row
quad_rows x = ((x.m - x.p) ∷ x.p ∷ []) ∷ ((x.n - x.q) ∷ x.q ∷ []) ∷ []

abbrev pub rows_of : (k : Kind) → Place k → List Row
rows_of six x = triangle_rows x
rows_of eight x = quad_rows x
rows_of nine x = quad_rows x
rows_of ten x = triangle_rows x

abbrev pub cell : Kind → List Four → List ℤ → List ℤ
cell k path c = cell_at (shape_of k) path c

abbrev pub LiesAt : (k : Kind) → List Four → Place k → Place k → Type 0
LiesAt k path x y = rows_of k y ≡ in_whole (shape_of k) path (rows_of k x)

-- without division, as f is `factor` times what it stands for
abbrev pub Means : (k : Kind) → (Place k → ℤ) → List ℤ → Type 0
Means k f c = (x : Place k) → pos (fold k * fold k) *ℤ scaled (shape_of k) c (rows_of k x) ≡ pos (scale k 0) *ℤ f x
