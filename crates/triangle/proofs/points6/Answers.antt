-- `triangle::points6` meets its contract: each point is small.
use mathlib.Core.Path.{refl}
use Rattle.algebra.proofs.Within.{rd, got, st, lit, i-mul}
use Rattle.algebra.proofs.Fill.{cons}
use Rattle.triangle.proofs.Points.{between-small}
use Rattle.triangle.proofs.points6.Goals as goal

pub returns : goal.returns
returns c =
    let p = c.requires in
    cons (st (i-mul (lit 2) (rd (p.each.at 0) tt)) tt).same
    (cons (st (i-mul (lit 2) (rd (p.each.at 1) tt)) tt).same
    (cons (st (i-mul (lit 2) (rd (p.each.at 2) tt)) tt).same
    (cons (got c.between-q01.ensures (between-small p _ _ _) tt).same
    (cons (got c.between-q12.ensures (between-small p _ _ _) tt).same
    (cons (got c.between-q02.ensures (between-small p _ _ _) tt).same refl)))))
