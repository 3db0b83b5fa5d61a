-- `quad::centre` meets its contract: its terms are small.
use Rattle.algebra.proofs.Within.{got, st, lit, fits, i-add, i-sub, i-mul}
use Rattle.quad.proofs.Points.{four-small}
use Rattle.quad.proofs.centre.Goals as goal

pub overflow_mul-result : goal.overflow_mul-result
overflow_mul-result c = fits (i-mul (lit 4) (got c.four-edges.ensures (four-small c.requires 1 3 5 7) tt)) tt

pub overflow_mul-result-then-eight : goal.overflow_mul-result-then-eight
overflow_mul-result-then-eight c = fits (i-mul (lit 3) (got c.four-corners.ensures (four-small c.requires 0 2 6 8) tt)) tt

pub overflow_sub-result : goal.overflow_sub-result
overflow_sub-result c =
    let edges = st (i-mul (lit 4) (got c.four-edges.ensures (four-small c.requires 1 3 5 7) tt)) tt in
    let corners = st (i-mul (lit 3) (got c.four-corners.ensures (four-small c.requires 0 2 6 8) tt)) tt in
    fits (i-sub edges corners) tt

pub returns-then-eight : goal.returns-then-eight
returns-then-eight c =
    let edges = st (i-mul (lit 4) (got c.four-edges.ensures (four-small c.requires 1 3 5 7) tt)) tt in
    let corners = st (i-mul (lit 3) (got c.four-corners.ensures (four-small c.requires 0 2 6 8) tt)) tt in
    rw c.if-eight.true (st (i-sub edges corners) tt).same

pub overflow_mul-result-3 : goal.overflow_mul-result-3
overflow_mul-result-3 c = fits (i-mul (lit 4) (got c.four-edges.ensures (four-small c.requires 1 3 5 7) tt)) tt

pub overflow_sub-result-2 : goal.overflow_sub-result-2
overflow_sub-result-2 c =
    let middle = st (i-mul (lit 16) (got c.pick.ensures (c.requires.each.at 4) tt)) tt in
    let edges = st (i-mul (lit 4) (got c.four-edges.ensures (four-small c.requires 1 3 5 7) tt)) tt in
    fits (i-sub middle edges) tt

pub overflow_add-result : goal.overflow_add-result
overflow_add-result c =
    let middle = st (i-mul (lit 16) (got c.pick.ensures (c.requires.each.at 4) tt)) tt in
    let edges = st (i-mul (lit 4) (got c.four-edges.ensures (four-small c.requires 1 3 5 7) tt)) tt in
    fits (i-add (st (i-sub middle edges) tt) (got c.four-corners.ensures (four-small c.requires 0 2 6 8) tt)) tt

pub returns : goal.returns
returns c =
    let middle = st (i-mul (lit 16) (got c.pick.ensures (c.requires.each.at 4) tt)) tt in
    let edges = st (i-mul (lit 4) (got c.four-edges.ensures (four-small c.requires 1 3 5 7) tt)) tt in
    rw c.if-eight.false (st (i-add (st (i-sub middle edges) tt) (got c.four-corners.ensures (four-small c.requires 0 2 6 8) tt)) tt).same
