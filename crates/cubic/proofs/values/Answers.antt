-- `cubic::values` meets its contract: the points along x and along y make the control values.
use mathlib.Core.Path.{◌∙◌, ap, ap₂}
use Rattle.cubic.specs.Points.{points10, combine10}
use Rattle.element.proofs.Origin.{inside-first}
use Rattle.cubic.proofs.Points.{nodes-ten, points10-ten, combine10-is}
use Rattle.cubic.proofs.values.Goals as goal

pub points10-x-requires : goal.points10-x-requires
points10-x-requires c =
    rw c.nodes.ensures (nodes-ten (inside-first c.requires) 0)

pub points10-y-requires : goal.points10-y-requires
points10-y-requires c =
    rw c.nodes-2.ensures (nodes-ten (inside-first c.requires) 1)

pub combine-requires-clause-first : goal.combine-requires-clause-first
combine-requires-clause-first c =
    rw (c.points10-x.ensures, c.nodes.ensures) (points10-ten (nodes-ten (inside-first c.requires) 0))

pub combine-requires-clause-second : goal.combine-requires-clause-second
combine-requires-clause-second c =
    rw (c.points10-y.ensures, c.nodes-2.ensures) (points10-ten (nodes-ten (inside-first c.requires) 1))

pub returns : goal.returns
returns c =
    c.combine.ensures
    ∙ ap₂ combine10 (c.points10-x.ensures ∙ ap points10 c.nodes.ensures)
    (c.points10-y.ensures ∙ ap points10 c.nodes-2.ensures)
    ∙ combine10-is c.args.xs.now c.requires
