-- `quad::four` meets its contract: its terms are small.
use Rattle.algebra.proofs.Within.{got, st, fits, i-add}
use Rattle.quad.proofs.four.Goals as goal

pub overflow_add-result-3 : goal.overflow_add-result-3
overflow_add-result-3 c =
    let p = c.requires.each in
    fits (i-add (st (i-add (st (i-add (got c.pick.ensures (p.at _) tt) (got c.pick-2.ensures (p.at _) tt)) tt)
    (got c.pick-3.ensures (p.at _) tt)) tt) (got c.pick-4.ensures (p.at _) tt)) tt

pub returns : goal.returns
returns c =
    let p = c.requires.each in
    (st (i-add (st (i-add (st (i-add (got c.pick.ensures (p.at _) tt) (got c.pick-2.ensures (p.at _) tt)) tt)
    (got c.pick-3.ensures (p.at _) tt)) tt) (got c.pick-4.ensures (p.at _) tt)) tt).same
