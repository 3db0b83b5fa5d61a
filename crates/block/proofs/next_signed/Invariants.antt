-- `block::next_signed` meets its contract: the loop keeps that no record before record k is signed. Assumes nothing.
use mathlib.Core.Path.{◌≡◌}
use Prim.Native.Nat.{ℕ, ◌-◌, ◌≤◌, ◌<◌}
use Rattle.block.specs.Block.{record_at}
use Rattle.block.proofs.next_signed.Given as goal

abbrev pub invariant-loop-k : goal.invariant-loop-k
invariant-loop-k l = (l.k ≤ l.count) × (l.from ≤ l.k) × ((j : ℕ) → l.from ≤ j → j < l.k → (record_at l.bytes j).signed ≡ 0)

abbrev pub decreases-loop-k : goal.decreases-loop-k
decreases-loop-k l = l.count - l.k
