-- `control::extremes` meets its contract: the loop keeps the least and the greatest of the first k.
use mathlib.Core.Path.{◌≡◌, ◌∙◌, ap}
use native.Mathlib.Omega.{arith}
use borrow.Author.Rules.{rules, sfits_of}
use mir.Syntax.{w64}
use mir.Val.{to_z, of_z}
use mir.Facts.{to_z-of_z}
use lib.ListN.{length}
use Rattle.element.specs.Control.{at}
use Rattle.control.proofs.Running.{lesser, greater, least-one, greatest-one, least_more, greatest-more, least-all, greatest-all}
use Rattle.control.proofs.extremes.Goals as goal

pub loop-k-init : goal.loop-k-init
loop-k-init c =
    let v = c.args.c.now in
    let e : to_z w64 (of_z w64 (at v 0)) ≡ at v 0 = search rules in
    (rw e (least-one v), rw e (greatest-one v))

pub loop-k-preserved : goal.loop-k-preserved
loop-k-preserved c =
    let v = c.args.c.now in
    let x : to_z w64 (of_z w64 (at v c.loop-k.k)) ≡ at v c.loop-k.k = search rules in
    let low = to_z-of_z {w = w64} (sfits_of c.min-lo.type_inv) ∙ c.min-lo.ensures.value ∙ ap (lesser _) x in
    let high = to_z-of_z {w = w64} (sfits_of c.max-hi.type_inv) ∙ c.max-hi.ensures.value ∙ ap (greater _) x in
    (rw low (least_more c.loop-k.invariant.0), rw high (greatest-more c.loop-k.invariant.1))

pub returns : goal.returns
returns c =
    let e : c.loop-k.k ≡ length c.args.c.now = omega (arith, c.requires) in
    record { first = least-all c.loop-k.invariant.0 e; second = greatest-all c.loop-k.invariant.1 e }
