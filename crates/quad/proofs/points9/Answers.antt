-- `quad::points9` meets its contract: each point is small.
use mathlib.Core.Path.{refl}
use Rattle.algebra.proofs.Within.{rd, got, st, lit, fits, i-mul}
use Rattle.algebra.proofs.Fill.{cons}
use Rattle.quad.proofs.Points.{edge-small, centre-small}
use Rattle.quad.proofs.points9.Goals as goal

pub overflow_mul-result : goal.overflow_mul-result
overflow_mul-result c = fits (i-mul (lit 4) (rd (c.requires.each.at 0) tt)) tt

pub returns : goal.returns
returns c =
    let p = c.requires in
    cons (st (i-mul (lit 4) (rd (p.each.at 0) tt)) tt).same
    (cons (got c.edge-below.ensures (edge-small p _ _ _) tt).same
    (cons (st (i-mul (lit 4) (rd (p.each.at 2) tt)) tt).same
    (cons (got c.edge-left.ensures (edge-small p _ _ _) tt).same
    (cons (got c.centre-middle.ensures (centre-small p c.args.eight) tt).same
    (cons (got c.edge-right.ensures (edge-small p _ _ _) tt).same
    (cons (st (i-mul (lit 4) (rd (p.each.at 6) tt)) tt).same
    (cons (got c.edge-above.ensures (edge-small p _ _ _) tt).same
    (cons (st (i-mul (lit 4) (rd (p.each.at 8) tt)) tt).same refl))))))))
