use Rattle.mesh_form.specs.Walk.{left_b}
use Rattle.mesh_text.specs.Rows.{line}
use lib.ListN.{length, drop}
use Prim.Native.Nat.{◌-◌, ◌≤◌}
use mathlib.Core.Path.{◌≡◌}
use Rattle.mesh_form.proofs.rows.is_left.Given as goal

abbrev pub invariant-loop-at : goal.invariant-loop-at
invariant-loop-at l = (l.at ≤ length l.t) × (l.n ≤ l.at) × (left_b l.tags 0 l.kind (line l.t) ≡ left_b l.left l.n l.kind (line (drop l.at l.t)))

abbrev pub decreases-loop-at : goal.decreases-loop-at
decreases-loop-at l = length l.t - l.at
