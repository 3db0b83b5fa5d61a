-- `none_negative` meets its contract: the loop keeps that it has the test of the values before place k. Assumes nothing.
use mathlib.Core.Path.{◌≡◌, sym}
use native.Mathlib.Numerals.{add-one}
use native.Mathlib.Omega.{arith}
use lib.IntN.{pos}
use lib.ListN.{get_or}
use borrow.Author.Rules.{rules}
use mir.Syntax.{w64}
use mir.Val.{to_z, of_z}
use Rattle.cells.proofs.Parts.{non_negatives-more}
use Rattle.cells.proofs.none_negative.Goals as goal

pub loop-x-preserved : goal.loop-x-preserved
loop-x-preserved c =
    let k = c.loop-x.x-index in
    let v = c.args.c.now in
    let e : to_z w64 (of_z w64 (get_or v k (pos 0))) ≡ get_or v k (pos 0) = search rules in
    rw (e, c.loop-x.invariant, add-one k) (sym (non_negatives-more v k (omega arith)))
