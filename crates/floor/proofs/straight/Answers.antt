-- `straight` meets its contract: the determinant of the differences from A0. Assumes nothing.
use mathlib.Core.Path.{◌∙◌, ap₂}
use mathlib.Core.List.{List}
use lib.IntN.{ℤ}
use mir.Syntax.{w64}
use mir.Facts.{to_z-of_z}
use borrow.Author.Rules.{sfits_of}
use Rattle.points.specs.Points.{across}
use Rattle.floor.proofs.Room.{straight-is, ten-wide}
use Rattle.floor.proofs.straight.Goals as goal

pub invariant_of-across : goal.invariant_of-across
invariant_of-across c =
    let p = c.requires in
    record { along_x = rw c.coordinates-x.ensures (ten-wide p 0); along_y = rw c.coordinates-y.ensures (ten-wide p 1) }

pub returns : goal.returns
returns c = to_z-of_z {w = w64} (sfits_of c.across.type_inv) ∙ c.across.ensures ∙ ap₂ (λ (u v : List ℤ). across u v 0 1 0 2) c.coordinates-x.ensures c.coordinates-y.ensures ∙ straight-is c.args.coords.now c.requires
