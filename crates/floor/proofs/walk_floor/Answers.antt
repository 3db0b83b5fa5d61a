-- `walk_floor` meets its contract: the shifted values of an accepted triangle have room for seven cuts. Assumes nothing.
use mathlib.Core.Path.{◌∙◌, ap, ap₂}
use mathlib.Core.List.{List}
use lib.IntN.{ℤ}
use mir.Syntax.{w64}
use mir.Facts.{to_z-of_z}
use borrow.Author.Rules.{sfits_of}
use Rattle.element.specs.Kinds.{six}
use Rattle.walks.specs.Elements.{walk_of}
use Rattle.floor.specs.Steps.{shifted_by}
use Rattle.floor.proofs.Room.{shifted-is, values-room, floor-room}
use Rattle.floor.proofs.walk_floor.Goals as goal

pub shifted-c-requires : goal.shifted-c-requires
shifted-c-requires c =
    values-room c.args.p c.requires.1 c.requires.2 c.values.ensures
    (to_z-of_z {w = w64} (sfits_of c.twice_share-less.type_inv) ∙ c.twice_share-less.ensures)

pub walk_cell-requires : goal.walk_cell-requires
walk_cell-requires c =
    floor-room c.args.limit c.requires.0 (values-room c.args.p c.requires.1 c.requires.2 c.values.ensures
    (to_z-of_z {w = w64} (sfits_of c.twice_share-less.type_inv) ∙ c.twice_share-less.ensures)) c.shifted-c.ensures

pub returns : goal.returns
returns c =
    c.walk_cell.ensures ∙ ap (λ (v : List ℤ). walk_of six c.args.limit v)
    (c.shifted-c.ensures
    ∙ ap₂ shifted_by (to_z-of_z {w = w64} (sfits_of c.twice_share-less.type_inv) ∙ c.twice_share-less.ensures) c.values.ensures
    ∙ shifted-is c.args.p c.args.coords.now)
