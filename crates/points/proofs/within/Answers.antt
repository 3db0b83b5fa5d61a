-- `points::within` meets its contract: the loop keeps whether the first k are within the limit. Assumes nothing.
use mathlib.Core.Path.{◌≡◌, refl, ap₂}
use native.Mathlib.Omega.{arith}
use borrow.Author.Rules.{rules}
use lib.Dec.{lit<}
use lib.IntN.{pos, neg_ℤ, ◌-ℤ◌, +ℤ_idl}
use lib.ListN.{get_or}
use lib.Signed.{le_z}
use mir.Syntax.{w32}
use mir.Val.{to_z, of_z}
use Rattle.algebra.specs.Within.{Is}
use Rattle.algebra.proofs.Within.{stored, named, lit, i-sub}
use Rattle.points.proofs.Limits.{limit-more}
use Rattle.points.proofs.within.Goals as goal

pub loop-x-preserved : goal.loop-x-preserved
loop-x-preserved c =
    let limit_is : Is 2147483647 (pos c.args.limit) (pos c.args.limit) = record { same = refl; within = record { size = omega (arith, c.requires) } } in
    let most-is : Is 2147483647 (pos c.args.limit) (to_z w32 c.args.limit) = stored w32 limit_is (lit< tt) in
    let least-is : Is 2147483647 (neg_ℤ (pos c.args.limit)) (to_z w32 (of_z w32 (pos 0 -ℤ to_z w32 c.args.limit))) = named (stored w32 (i-sub (lit 0) most-is) (lit< tt)) (+ℤ_idl (neg_ℤ (pos c.args.limit))) in
    let turn = c.loop-x in let v = c.args.xs.now in
    let e : to_z w32 (of_z w32 (get_or v turn.x-index (pos 0))) ≡ get_or v turn.x-index (pos 0) = search rules in
    limit-more v c.args.limit turn.x-index turn.all _ _ turn.invariant (ap₂ le_z e most-is.same) (ap₂ le_z least-is.same e)
