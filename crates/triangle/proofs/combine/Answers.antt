-- `triangle::combine` meets its contract: a determinant is small, and so is a sum of two.
use mathlib.Core.Path.{refl}
use Rattle.algebra.proofs.Within.{got, st, lit, fits, i-add, i-mul}
use Rattle.algebra.proofs.Fill.{cons}
use Rattle.points.proofs.Points.{across-small}
use Rattle.triangle.proofs.combine.Goals as goal

pub overflow_mul-result : goal.overflow_mul-result
overflow_mul-result c =
    fits (i-mul (lit 2) (got c.across.ensures (across-small c.args.p.now.along_x c.args.p.now.along_y _ _ _ _) tt)) tt

pub overflow_mul-result-2 : goal.overflow_mul-result-2
overflow_mul-result-2 c =
    fits (i-mul (lit 2) (got c.across-2.ensures (across-small c.args.p.now.along_x c.args.p.now.along_y _ _ _ _) tt)) tt

pub overflow_mul-result-3 : goal.overflow_mul-result-3
overflow_mul-result-3 c =
    fits (i-mul (lit 2) (got c.across-3.ensures (across-small c.args.p.now.along_x c.args.p.now.along_y _ _ _ _) tt)) tt

pub overflow_add-result : goal.overflow_add-result
overflow_add-result c =
    let p = c.args.p.now.along_x in let q = c.args.p.now.along_y in
    fits (i-add (got c.across-4.ensures (across-small p q _ _ _ _) tt) (got c.across-5.ensures (across-small p q _ _ _ _) tt)) tt

pub overflow_add-result-2 : goal.overflow_add-result-2
overflow_add-result-2 c =
    let p = c.args.p.now.along_x in let q = c.args.p.now.along_y in
    fits (i-add (got c.across-6.ensures (across-small p q _ _ _ _) tt) (got c.across-7.ensures (across-small p q _ _ _ _) tt)) tt

pub overflow_add-result-3 : goal.overflow_add-result-3
overflow_add-result-3 c =
    let p = c.args.p.now.along_x in let q = c.args.p.now.along_y in
    fits (i-add (got c.across-8.ensures (across-small p q _ _ _ _) tt) (got c.across-9.ensures (across-small p q _ _ _ _) tt)) tt

pub returns : goal.returns
returns c =
    let p = c.args.p.now.along_x in let q = c.args.p.now.along_y in
    cons (st (i-mul (lit 2) (got c.across.ensures (across-small p q _ _ _ _) tt)) tt).same
    (cons (st (i-mul (lit 2) (got c.across-2.ensures (across-small p q _ _ _ _) tt)) tt).same
    (cons (st (i-mul (lit 2) (got c.across-3.ensures (across-small p q _ _ _ _) tt)) tt).same
    (cons (st (i-add (got c.across-4.ensures (across-small p q _ _ _ _) tt)
    (got c.across-5.ensures (across-small p q _ _ _ _) tt)) tt).same
    (cons (st (i-add (got c.across-6.ensures (across-small p q _ _ _ _) tt)
    (got c.across-7.ensures (across-small p q _ _ _ _) tt)) tt).same
    (cons (st (i-add (got c.across-8.ensures (across-small p q _ _ _ _) tt)
    (got c.across-9.ensures (across-small p q _ _ _ _) tt)) tt).same refl)))))
