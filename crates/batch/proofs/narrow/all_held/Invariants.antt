-- `batch::narrow::all_held` meets its contract: the loop keeps whether the first k are i32. Assumes nothing.
use Rattle.batch.proofs.Held.{AllHeld}
use Rattle.batch.proofs.narrow.all_held.Given as goal

abbrev pub invariant-loop-x : goal.invariant-loop-x
invariant-loop-x l = AllHeld l.xs l.x-index l.all
