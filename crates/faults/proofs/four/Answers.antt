-- `faults::four` meets its contract: pair by pair. Assumes nothing.
use Rattle.element.proofs.Corners.{one-first, two-first, two-later}
use Rattle.faults.proofs.four.Goals as goal

pub returns-then-same_place-4-clause-yes : goal.returns-then-same_place-4-clause-yes
returns-then-same_place-4-clause-yes c =
    λ e. two-later _ _ _ (two-later _ _ _ (two-first _ _ _ (one-first _ _ _ _ (c.same_place-4.ensures.yes c.if-same_place-4.true))))
