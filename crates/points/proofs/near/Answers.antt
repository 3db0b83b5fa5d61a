-- `points::near` meets its contract: the loop keeps whether the first i differences are within the limit, and that the numbers are of 32
-- bits. Assumes nothing.
use mathlib.Core.Path.{◌≡◌, refl, ◌∙◌, ap, ap₂}
use native.Mathlib.Omega.{arith}
use borrow.Author.Count.{below_more}
use borrow.Author.Rules.{sfits_of}
use lib.IntN.{pos, neg_ℤ, ◌-ℤ◌, +ℤ_idl}
use lib.Signed.{le_z}
use mir.Syntax.{w64}
use mir.Val.{to_z, of_z}
use mir.Facts.{to_z-of_z}
use Rattle.algebra.specs.Within.{Is}
use Rattle.algebra.proofs.Within.{st, named, lit, i-sub}
use Rattle.element.specs.Control.{at}
use Rattle.element.specs.Origin.{by_axis, from_first}
use Rattle.element.proofs.Origin.{first-length}
use Rattle.points.specs.Points.{less}
use Rattle.points.proofs.First.{less-first}
use Rattle.points.proofs.Limits.{limit-more, limit-each, limit-beyond}
use Rattle.points.proofs.near.Goals as goal

pub loop-i-preserved : goal.loop-i-preserved
loop-i-preserved c =
    let v = c.args.xs.now in
    let i = c.loop-i.i in
    let limit_is : Is 4294967295 (pos c.args.limit) (pos c.args.limit) = record { same = refl; within = record { size = omega arith } } in
    let most-is : Is 4294967295 (pos c.args.limit) (to_z w64 c.args.limit) = st limit_is tt in
    let least-is : Is 4294967295 (neg_ℤ (pos c.args.limit)) (to_z w64 (of_z w64 (pos 0 -ℤ to_z w64 c.args.limit))) = named (st (i-sub (lit 0) most-is) tt) (+ℤ_idl (neg_ℤ (pos c.args.limit))) in
    let e : to_z w64 (of_z w64 c.less-d.result) ≡ at (from_first v) i = to_z-of_z {w = w64} (sfits_of c.less-d.type_inv) ∙ c.less-d.ensures.value
    ∙ ap (less v i) (to_z-of_z {w = w64} (sfits_of c.by_axis.type_inv) ∙ c.by_axis.ensures ∙ ap₂ (λ a b. by_axis a b i) (to_z-of_z {w = w64} (sfits_of c.coord-x.type_inv) ∙ c.coord-x.ensures.value) (to_z-of_z {w = w64} (sfits_of c.coord-y.type_inv) ∙ c.coord-y.ensures.value))
    ∙ less-first v i in (
      limit-more (from_first v) c.args.limit i c.loop-i.close _ _ c.loop-i.invariant.0 (ap₂ le_z e most-is.same) (ap₂ le_z least-is.same e),
      below_more _ _ c.loop-i.invariant.1 c.less-d.ensures.held,
    )

pub returns-clause-yes : goal.returns-clause-yes
returns-clause-yes c = λ h. limit-each c.loop-i.invariant.0 (omega (arith, first-length c.args.xs.now)) h

pub returns-clause-no : goal.returns-clause-no
returns-clause-no c = λ h. limit-beyond c.loop-i.invariant.0 (omega (arith, first-length c.args.xs.now)) h
