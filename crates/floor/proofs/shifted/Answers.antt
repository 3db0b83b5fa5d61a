-- `shifted` meets its contract: the loop keeps that the first k places are filled. Assumes nothing.
use mathlib.Core.Path.{sym, ◌∙◌, ap}
use native.Mathlib.Omega.{arith}
use lib.IntN.{pos, ◌-ℤ◌, ◌*ℤ◌}
use Rattle.algebra.proofs.Fill.{fill_more, fill_end}
use Rattle.algebra.proofs.Within.{rd, st, lit, i-sub, i-mul}
use Rattle.element.specs.Control.{at}
use Rattle.floor.specs.Steps.{shifted_by}
use Rattle.floor.proofs.shifted.Goals as goal

pub loop-k-preserved : goal.loop-k-preserved
loop-k-preserved c =
    let p = c.requires in
    fill_more c.loop-k.invariant (omega arith)
    ((st (i-sub (st (i-mul (lit 100) (rd (p.values.at _) tt)) tt) (rd p.share tt)) tt).same
    ∙ ap (λ y. pos 100 *ℤ at c.args.c c.loop-k.k -ℤ y) (sym (rd p.share tt).same))

pub returns : goal.returns
returns c = fill_end c.loop-k.invariant (omega arith) ∙ ap (λ y. shifted_by y c.args.c) (rd c.requires.share tt).same
