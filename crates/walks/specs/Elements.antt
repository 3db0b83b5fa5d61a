-- The walk of an element.
--   chart_of k      == where the cells of an element of the kind stand
--   walk_of k L c   == the walk of an element of the kind with the control values c, under the limit L
-- Definitions only.
use Rattle.std.specs.Prelude.{List, ℕ, ℤ}
use Rattle.element.specs.Kinds.{Kind, six, eight, nine, ten}
use Rattle.element.specs.Cells.{shape_of}
use Rattle.steps.specs.declared.Walk.{Walk}
use Rattle.walks.specs.Walk.{Chart, walk}
use Rattle.walks.specs.Triangles.{triangle_chart}
use Rattle.walks.specs.Quads.{quad_chart}

abbrev pub chart_of : Kind → Chart
chart_of six = triangle_chart
chart_of eight = quad_chart
chart_of nine = quad_chart
chart_of ten = triangle_chart

abbrev pub walk_of : Kind → ℕ → List ℤ → Walk
walk_of k L c = walk (shape_of k) (chart_of k) L 0 L (chart_of k).start c
