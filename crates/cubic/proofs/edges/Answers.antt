-- `cubic::edges` meets its contract: its terms are small. Assumes nothing.
use Rattle.algebra.proofs.Within.{got, st, fits, i-add}
use Rattle.cubic.proofs.edges.Goals as goal

pub overflow_add-result-2 : goal.overflow_add-result-2
overflow_add-result-2 c =
    let p = c.requires.each in
    fits (i-add (st (i-add (got c.pick.ensures (p.at _) tt) (got c.pick-2.ensures (p.at _) tt)) tt) (got c.pick-3.ensures (p.at _) tt)) tt

pub overflow_add-result-3 : goal.overflow_add-result-3
overflow_add-result-3 c =
    let p = c.requires.each in
    fits (i-add (st (i-add (st (i-add (got c.pick.ensures (p.at _) tt) (got c.pick-2.ensures (p.at _) tt)) tt) (got c.pick-3.ensures (p.at _) tt)) tt) (got c.pick-4.ensures (p.at _) tt)) tt

pub overflow_add-result-4 : goal.overflow_add-result-4
overflow_add-result-4 c =
    let p = c.requires.each in
    fits (i-add (st (i-add (st (i-add (st (i-add (got c.pick.ensures (p.at _) tt) (got c.pick-2.ensures (p.at _) tt)) tt) (got c.pick-3.ensures (p.at _) tt)) tt) (got c.pick-4.ensures (p.at _) tt)) tt) (got c.pick-5.ensures (p.at _) tt)) tt

pub overflow_add-result-5 : goal.overflow_add-result-5
overflow_add-result-5 c =
    let p = c.requires.each in
    fits (i-add (st (i-add (st (i-add (st (i-add (st (i-add (got c.pick.ensures (p.at _) tt) (got c.pick-2.ensures (p.at _) tt)) tt) (got c.pick-3.ensures (p.at _) tt)) tt) (got c.pick-4.ensures (p.at _) tt)) tt) (got c.pick-5.ensures (p.at _) tt)) tt) (got c.pick-6.ensures (p.at _) tt)) tt

pub returns : goal.returns
returns c =
    let p = c.requires.each in
    (st (i-add (st (i-add (st (i-add (st (i-add (st (i-add (got c.pick.ensures (p.at _) tt) (got c.pick-2.ensures (p.at _) tt)) tt) (got c.pick-3.ensures (p.at _) tt)) tt) (got c.pick-4.ensures (p.at _) tt)) tt) (got c.pick-5.ensures (p.at _) tt)) tt) (got c.pick-6.ensures (p.at _) tt)) tt).same
