-- `triangle::values` meets its contract: the points along x and along y make the control values.
use mathlib.Core.Path.{◌∙◌, ap, ap₂}
use Rattle.triangle.specs.Points.{points6, combine6}
use Rattle.element.proofs.Origin.{inside-first}
use Rattle.points.proofs.Points.{coordinates-ten}
use Rattle.triangle.proofs.Points.{points6-ten, combine6-is}
use Rattle.triangle.proofs.values.Goals as goal

pub points6-x-requires : goal.points6-x-requires
points6-x-requires c = rw c.coordinates.ensures (coordinates-ten (inside-first c.requires) 9 0)

pub points6-y-requires : goal.points6-y-requires
points6-y-requires c = rw c.coordinates-2.ensures (coordinates-ten (inside-first c.requires) 9 1)

pub invariant_of-combine-clause-along_x : goal.invariant_of-combine-clause-along_x
invariant_of-combine-clause-along_x c = rw (c.points6-x.ensures, c.coordinates.ensures) (points6-ten (coordinates-ten (inside-first c.requires) 9 0))

pub invariant_of-combine-clause-along_y : goal.invariant_of-combine-clause-along_y
invariant_of-combine-clause-along_y c = rw (c.points6-y.ensures, c.coordinates-2.ensures) (points6-ten (coordinates-ten (inside-first c.requires) 9 1))

pub returns : goal.returns
returns c =
    c.combine.ensures
    ∙ ap₂ combine6 (c.points6-x.ensures ∙ ap points6 c.coordinates.ensures)
    (c.points6-y.ensures ∙ ap points6 c.coordinates-2.ensures)
    ∙ combine6-is c.args.xs.now c.requires
