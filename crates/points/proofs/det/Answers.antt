-- `points::det` meets its contract: the products of four small numbers fit, and so does their difference.
use Rattle.algebra.proofs.Within.{rd, st, fits, i-mul, i-sub}
use Rattle.points.proofs.det.Goals as goal

pub overflow_mul-result : goal.overflow_mul-result
overflow_mul-result c = fits (i-mul (rd (c.requires.at 0) tt) (rd (c.requires.at 3) tt)) tt

pub overflow_mul-result-2 : goal.overflow_mul-result-2
overflow_mul-result-2 c = fits (i-mul (rd (c.requires.at 1) tt) (rd (c.requires.at 2) tt)) tt

pub overflow_sub-result : goal.overflow_sub-result
overflow_sub-result c =
    fits (i-sub (st (i-mul (rd (c.requires.at 0) tt) (rd (c.requires.at 3) tt)) tt)
    (st (i-mul (rd (c.requires.at 1) tt) (rd (c.requires.at 2) tt)) tt)) tt

pub returns : goal.returns
returns c =
    (st (i-sub (st (i-mul (rd (c.requires.at 0) tt) (rd (c.requires.at 3) tt)) tt)
    (st (i-mul (rd (c.requires.at 1) tt) (rd (c.requires.at 2) tt)) tt)) tt).same
