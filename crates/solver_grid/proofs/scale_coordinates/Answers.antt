-- `solver_grid::scale_coordinates` meets its contract: where no number is off the grid, each stands for one.
use Rattle.std.proofs.Common.{subst}
use Rattle.std.proofs.lemmas.List.{get_or_default}
use Rattle.std.specs.Float.{nan}
use Rattle.element.proofs.Refusals.{coded_none}
use Rattle.faults.proofs.Refusals.{passed}
use Rattle.solver_grid.specs.Grid.{Stands}
use Rattle.solver_grid.proofs.scale_coordinates.Goals as goal

pub put-requires-clause-ready : goal.put-requires-clause-ready
put-requires-clause-ready c =
    let ok = coded_none c.scale_code.ensures tt (passed _ c.in_default.not-Err) in
    λ k d h n. ok.1.1.0 (k, h, subst (λ x. ¬ Stands x) (get_or_default c.args.xs.now k d nan h) n)
