-- `mesh_numbers::in_a_window` meets its contract: the loop keeps that nothing is found below the window. Assumes nothing.
use Prim.Native.Nat.{◌-◌, ◌≤◌}
use Rattle.mesh_numbers.specs.Windows.{Swept}
use Rattle.mesh_numbers.proofs.in_a_window.Given as goal

abbrev pub invariant-loop-base : goal.invariant-loop-base
invariant-loop-base g l = (l.base ≤ 4294967296) × Swept (goal.F-post g l.pass) l.base

abbrev pub decreases-loop-base : goal.decreases-loop-base
decreases-loop-base g l = 4294967296 - l.base
