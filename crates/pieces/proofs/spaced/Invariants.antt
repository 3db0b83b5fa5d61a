-- `pieces::spaced` meets its contract: before the first value nothing is written.
use mathlib.Core.Path.{◌≡◌}
use Rattle.pieces.proofs.spaced.Given as goal

abbrev pub invariant-loop-x : goal.invariant-loop-x
invariant-loop-x g l = l.x-index ≡ 0 → l.at ≡ l.from
