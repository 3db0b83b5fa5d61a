-- `block::check_signs` meets its contract: the loop keeps that no record before the record `from` differs from its sign. Assumes nothing.
use Prim.Native.Nat.{◌-◌, ◌≤◌}
use Rattle.block.specs.Faults.{sign_at}
use Rattle.block.proofs.Walk.{Passed}
use Rattle.block.proofs.check_signs.Given as goal

abbrev pub invariant-loop-k : goal.invariant-loop-k
invariant-loop-k l = (l.from ≤ l.count) × Passed (sign_at l.bytes) l.from

abbrev pub decreases-loop-k : goal.decreases-loop-k
decreases-loop-k l = l.count - l.from
