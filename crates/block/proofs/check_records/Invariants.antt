-- `block::check_records` meets its contract: the loop keeps that no record before record k has a fault.
use mathlib.Core.Path.{◌≡◌}
use Rattle.block.specs.Block.{place}
use Rattle.block.specs.Faults.{lowest, codes_at}
use Rattle.block.proofs.Walk.{Passed}
use Rattle.block.proofs.check_records.Given as goal

abbrev pub invariant-loop-k : goal.invariant-loop-k
invariant-loop-k l = (l.at ≡ place l.k) × (l.low ≡ lowest l.bytes l.k) × Passed (codes_at l.bytes) l.k
