-- `cubic::corners` meets its contract: its terms are small. Assumes nothing.
use Rattle.algebra.proofs.Within.{got, st, fits, i-add}
use Rattle.cubic.proofs.corners.Goals as goal

pub overflow_add-result-2 : goal.overflow_add-result-2
overflow_add-result-2 c =
    let p = c.requires.each in
    fits (i-add (st (i-add (got c.pick.ensures (p.at _) tt) (got c.pick-2.ensures (p.at _) tt)) tt) (got c.pick-3.ensures (p.at _) tt)) tt

pub returns : goal.returns
returns c =
    let p = c.requires.each in
    (st (i-add (st (i-add (got c.pick.ensures (p.at _) tt) (got c.pick-2.ensures (p.at _) tt)) tt) (got c.pick-3.ensures (p.at _) tt)) tt).same
