-- `corners_positive` meets its contract: its tests are those of the corners, one by one. Assumes nothing.
use mathlib.Core.Path.{◌≡◌}
use borrow.Author.Rules.{rules}
use lib.IntN.{pos}
use lib.ListN.{get_or}
use mir.Syntax.{w64}
use mir.Val.{to_z, of_z}
use Rattle.cells.proofs.Parts.{three-test}
use Rattle.triangle_cuts.proofs.corners_positive.Goals as goal

pub returns : goal.returns
returns c =
    let v = c.args.c in
    let e0 : to_z w64 (of_z w64 (get_or v 0 (pos 0))) ≡ get_or v 0 (pos 0) = search rules in
    let e1 : to_z w64 (of_z w64 (get_or v 1 (pos 0))) ≡ get_or v 1 (pos 0) = search rules in
    let e2 : to_z w64 (of_z w64 (get_or v 2 (pos 0))) ≡ get_or v 2 (pos 0) = search rules in
    rw (e0, e1, e2) (three-test v 0 1 2)
