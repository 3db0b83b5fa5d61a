-- `points::across` meets its contract: differences of points are as small as the determinant asks.
use Rattle.algebra.proofs.Within.{each_nil, each-cons, got, seen}
use Rattle.points.proofs.Points.{step_small}
use Rattle.points.proofs.across.Goals as goal

pub det-requires : goal.det-requires
det-requires c =
    each-cons (seen (got c.step.ensures (step_small c.requires.first _ _) tt))
    (each-cons (seen (got c.step-2.ensures (step_small c.requires.second _ _) tt))
    (each-cons (seen (got c.step-3.ensures (step_small c.requires.first _ _) tt))
    (each-cons (seen (got c.step-4.ensures (step_small c.requires.second _ _) tt)) each_nil)))
