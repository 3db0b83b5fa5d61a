-- `cubic::beside` meets its contract: its terms are small. Assumes nothing.
use Rattle.algebra.proofs.Within.{got, st, lit, fits, i-add, i-sub, i-mul}
use Rattle.cubic.proofs.beside.Goals as goal

pub overflow_sub-result-2 : goal.overflow_sub-result-2
overflow_sub-result-2 c =
    let p = c.requires.each in
    let most = i-sub (st (i-mul (lit 18) (got c.pick.ensures (p.at _) tt)) tt) (st (i-mul (lit 5) (got c.pick-2.ensures (p.at _) tt)) tt) in
    let three = i-sub (st most tt) (st (i-mul (lit 9) (got c.pick-3.ensures (p.at _) tt)) tt) in
    fits three tt

pub overflow_add-result : goal.overflow_add-result
overflow_add-result c =
    let p = c.requires.each in
    let most = i-sub (st (i-mul (lit 18) (got c.pick.ensures (p.at _) tt)) tt) (st (i-mul (lit 5) (got c.pick-2.ensures (p.at _) tt)) tt) in
    let three = i-sub (st most tt) (st (i-mul (lit 9) (got c.pick-3.ensures (p.at _) tt)) tt) in
    let four = i-add (st three tt) (st (i-mul (lit 2) (got c.pick-4.ensures (p.at _) tt)) tt) in
    fits four tt

pub overflow_mul-result-5 : goal.overflow_mul-result-5
overflow_mul-result-5 c =
    let p = c.requires.each in
    let most = i-sub (st (i-mul (lit 18) (got c.pick.ensures (p.at _) tt)) tt) (st (i-mul (lit 5) (got c.pick-2.ensures (p.at _) tt)) tt) in
    let three = i-sub (st most tt) (st (i-mul (lit 9) (got c.pick-3.ensures (p.at _) tt)) tt) in
    let four = i-add (st three tt) (st (i-mul (lit 2) (got c.pick-4.ensures (p.at _) tt)) tt) in
    fits (i-mul (lit 2) (st four tt)) tt

pub returns : goal.returns
returns c =
    let p = c.requires.each in
    let most = i-sub (st (i-mul (lit 18) (got c.pick.ensures (p.at _) tt)) tt) (st (i-mul (lit 5) (got c.pick-2.ensures (p.at _) tt)) tt) in
    let three = i-sub (st most tt) (st (i-mul (lit 9) (got c.pick-3.ensures (p.at _) tt)) tt) in
    let four = i-add (st three tt) (st (i-mul (lit 2) (got c.pick-4.ensures (p.at _) tt)) tt) in
    (st (i-mul (lit 2) (st four tt)) tt).same
