-- `either::sixteen` meets its contract: the numbers, one by one. Assumes nothing.
use mathlib.Core.Path.{◌∙◌}
use native.Mathlib.Omega.{arith}
use mir.Syntax.{w64}
use mir.Facts.{to_z-of_z}
use borrow.Author.Rules.{rules}
use Rattle.sheet_cells.proofs.Shapes.{first-six, only-six}
use Rattle.sheet_cells.proofs.either.sixteen.Goals as goal

pub returns : goal.returns
returns c =
    let six = c.args.c in
    first-six six (omega arith) (to_z-of_z {w = w64} (search rules)) (to_z-of_z {w = w64} (search rules)) (to_z-of_z {w = w64} (search rules)) (to_z-of_z {w = w64} (search rules))
    (to_z-of_z {w = w64} (search rules)) (to_z-of_z {w = w64} (search rules)) ∙ only-six six (omega arith)
