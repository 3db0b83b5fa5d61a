-- `quad::edge` meets its contract: its terms are small.
use Rattle.algebra.proofs.Within.{got, st, lit, fits, i-sub, i-mul}
use Rattle.quad.proofs.edge.Goals as goal

pub overflow_sub-result-2 : goal.overflow_sub-result-2
overflow_sub-result-2 c =
    let p = c.requires.each in
    let start = st (i-sub (st (i-mul (lit 8) (got c.pick.ensures (p.at _) tt)) tt)
    (st (i-mul (lit 2) (got c.pick-2.ensures (p.at _) tt)) tt)) tt in
    fits (i-sub start (st (i-mul (lit 2) (got c.pick-3.ensures (p.at _) tt)) tt)) tt

pub returns : goal.returns
returns c =
    let p = c.requires.each in
    let start = st (i-sub (st (i-mul (lit 8) (got c.pick.ensures (p.at _) tt)) tt)
    (st (i-mul (lit 2) (got c.pick-2.ensures (p.at _) tt)) tt)) tt in
    (st (i-sub start (st (i-mul (lit 2) (got c.pick-3.ensures (p.at _) tt)) tt)) tt).same
