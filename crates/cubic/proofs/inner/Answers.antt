-- `cubic::inner` meets its contract: its terms are small. Assumes nothing.
use Rattle.algebra.proofs.Within.{got, st, lit, fits, i-add, i-sub, i-mul}
use Rattle.cubic.proofs.Points.{corners-small, edges-small}
use Rattle.cubic.proofs.inner.Goals as goal

pub overflow_mul-result-2 : goal.overflow_mul-result-2
overflow_mul-result-2 c =
    let p = c.requires in
    fits (i-mul (lit 4) (got c.corners.ensures (corners-small p) tt)) tt

pub overflow_add-result : goal.overflow_add-result
overflow_add-result c =
    let p = c.requires in
    fits (i-add (st (i-mul (lit 54) (got c.pick.ensures (p.each.at _) tt)) tt) (st (i-mul (lit 4) (got c.corners.ensures (corners-small p) tt)) tt)) tt

pub overflow_mul-result-3 : goal.overflow_mul-result-3
overflow_mul-result-3 c =
    let p = c.requires in
    fits (i-mul (lit 9) (got c.edges.ensures (edges-small p) tt)) tt

pub overflow_sub-result : goal.overflow_sub-result
overflow_sub-result c =
    let p = c.requires in
    fits (i-sub (st (i-add (st (i-mul (lit 54) (got c.pick.ensures (p.each.at _) tt)) tt) (st (i-mul (lit 4) (got c.corners.ensures (corners-small p) tt)) tt)) tt) (st (i-mul (lit 9) (got c.edges.ensures (edges-small p) tt)) tt)) tt

pub returns : goal.returns
returns c =
    let p = c.requires in
    (st (i-sub (st (i-add (st (i-mul (lit 54) (got c.pick.ensures (p.each.at _) tt)) tt) (st (i-mul (lit 4) (got c.corners.ensures (corners-small p) tt)) tt)) tt) (st (i-mul (lit 9) (got c.edges.ensures (edges-small p) tt)) tt)) tt).same
