-- `corners_positive` meets its contract: its tests are those of the corners, one by one. Assumes nothing.
use mathlib.Core.Path.{◌≡◌}
use borrow.Author.Rules.{rules}
use lib.IntN.{pos}
use lib.ListN.{get_or}
use mir.Syntax.{w64}
use mir.Val.{to_z, of_z}
use Rattle.cells.proofs.Parts.{four-test}
use Rattle.quad_cuts.proofs.corners_positive.Goals as goal

pub returns : goal.returns
returns c =
    let v = c.args.c.now in
    let e0 : to_z w64 (of_z w64 (get_or v 0 (pos 0))) ≡ get_or v 0 (pos 0) = search rules in
    let e3 : to_z w64 (of_z w64 (get_or v 3 (pos 0))) ≡ get_or v 3 (pos 0) = search rules in
    let e12 : to_z w64 (of_z w64 (get_or v 12 (pos 0))) ≡ get_or v 12 (pos 0) = search rules in
    let e15 : to_z w64 (of_z w64 (get_or v 15 (pos 0))) ≡ get_or v 15 (pos 0) = search rules in
    rw (e0, e3, e12, e15) (four-test v 0 3 12 15)
