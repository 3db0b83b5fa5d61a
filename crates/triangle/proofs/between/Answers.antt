-- `triangle::between` meets its contract: its terms are small.
use Rattle.algebra.proofs.Within.{got, st, lit, fits, i-sub, i-mul}
use Rattle.triangle.proofs.between.Goals as goal

pub overflow_sub-result-2 : goal.overflow_sub-result-2
overflow_sub-result-2 c =
    let p = c.requires.each in
    let four = st (i-mul (lit 4) (got c.pick.ensures (p.at _) tt)) tt in
    let less-a = st (i-sub four (got c.pick-2.ensures (p.at _) tt)) tt in
    fits (i-sub less-a (got c.pick-3.ensures (p.at _) tt)) tt

pub returns : goal.returns
returns c =
    let p = c.requires.each in
    let four = st (i-mul (lit 4) (got c.pick.ensures (p.at _) tt)) tt in
    let less-a = st (i-sub four (got c.pick-2.ensures (p.at _) tt)) tt in
    (st (i-sub less-a (got c.pick-3.ensures (p.at _) tt)) tt).same
