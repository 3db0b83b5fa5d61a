-- `cubic::points10` meets its contract: each point is small. Assumes nothing.
use mathlib.Core.Path.{refl}
use Rattle.algebra.proofs.Within.{rd, got, st, lit, fits, i-mul}
use Rattle.algebra.proofs.Fill.{cons}
use Rattle.cubic.proofs.Points.{beside-small, inner-small}
use Rattle.cubic.proofs.points10.Goals as goal

pub overflow_mul-result : goal.overflow_mul-result
overflow_mul-result c =
    fits (i-mul (lit 12) (rd (c.requires.each.at 0) tt)) tt

pub overflow_mul-result-2 : goal.overflow_mul-result-2
overflow_mul-result-2 c =
    fits (i-mul (lit 12) (rd (c.requires.each.at 1) tt)) tt

pub overflow_mul-result-3 : goal.overflow_mul-result-3
overflow_mul-result-3 c =
    fits (i-mul (lit 12) (rd (c.requires.each.at 2) tt)) tt

pub returns : goal.returns
returns c =
    let p = c.requires in
    cons (st (i-mul (lit 12) (rd (p.each.at 0) tt)) tt).same
    (cons (got c.beside-r210.ensures (beside-small p _ _ _ _) tt).same
    (cons (got c.beside-r120.ensures (beside-small p _ _ _ _) tt).same
    (cons (st (i-mul (lit 12) (rd (p.each.at 1) tt)) tt).same
    (cons (got c.beside-r201.ensures (beside-small p _ _ _ _) tt).same
    (cons (got c.inner-r111.ensures (inner-small p) tt).same
    (cons (got c.beside-r021.ensures (beside-small p _ _ _ _) tt).same
    (cons (got c.beside-r102.ensures (beside-small p _ _ _ _) tt).same
    (cons (got c.beside-r012.ensures (beside-small p _ _ _ _) tt).same
    (cons (st (i-mul (lit 12) (rd (p.each.at 2) tt)) tt).same refl)))))))))
