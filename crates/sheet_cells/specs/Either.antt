-- The cells of triangles and quads in one form: sixteen numbers, of which a triangle's values are the first six.
--   shape_by b      == the shape of the cell: a triangle if b, else a quad
--   values_by b c   == its values
--   growth_by b     == what a cut lets them grow by
-- Definitions only.
use Rattle.std.specs.Prelude.{Bool, true, false, List, ℕ, ℤ, take}
use Rattle.forms.specs.Shapes.{Shape}
use Rattle.forms.specs.Triangles.{six}
use Rattle.forms.specs.Quads.{quad}

abbrev pub shape_by : Bool → Shape
shape_by true = six
shape_by false = quad

abbrev pub values_by : Bool → List ℤ → List ℤ
values_by true c = take 6 c
values_by false c = c

abbrev pub growth_by : Bool → ℕ
growth_by b = (shape_by b).growth
