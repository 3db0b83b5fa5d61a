-- `solver_grid::put` meets its contract: the loop keeps that the first k places are answered.
use Rattle.std.proofs.Common.{◌∙◌, subst, arith, length-set}
use Rattle.solver_grid.proofs.Pairs.{filled_more}
use Rattle.solver_grid.proofs.put.Goals as goal

pub loop-k-preserved : goal.loop-k-preserved
loop-k-preserved g c = (
  length-set c.loop-k.out c.loop-k.k _ ∙ c.loop-k.invariant.0,
  filled_more _ c.index-xs-k.result c.loop-k.k _ c.loop-k.invariant.1 (omega arith) (omega (arith, c.requires.room))
      (subst (λ x. goal.F-post g c.args.convert x c.convert.result) c.index-xs-k.is c.convert.ensures),
)
