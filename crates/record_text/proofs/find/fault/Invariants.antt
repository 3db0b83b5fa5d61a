-- `record_text::find::fault` meets its contract: the loop keeps that no line before has the fault.
use Prim.Native.Nat.{◌+◌, ◌-◌, ◌≤◌, ◌<◌}
use lib.ListN.{length, drop}
use Rattle.mesh_text.specs.Rows.{lines}
use Rattle.record_text.specs.Finds.{lines_by, codes_by}
use Rattle.record_text.proofs.Searches.{Ahead}
use Rattle.record_text.proofs.find.fault.Given as goal

abbrev pub invariant-loop-at : goal.invariant-loop-at
invariant-loop-at l = (l.at ≤ length l.t) × (0 < l.n) × (l.n ≤ l.at + 1) × Ahead (codes_by l.test l.t) (lines_by l.test l.n (lines (drop l.at l.t)))

abbrev pub decreases-loop-at : goal.decreases-loop-at
decreases-loop-at l = length l.t - l.at
