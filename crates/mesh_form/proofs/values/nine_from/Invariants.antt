use mathlib.Core.Path.{◌≡◌}
use mathlib.Core.List.{◌++◌}
use Prim.Native.Nat.{◌-◌, ◌≤◌}
use lib.ListN.{length, take, drop}
use Rattle.mesh_text.specs.Rows.{line}
use Rattle.mesh_form.proofs.Said.{padded}
use Rattle.mesh_form.proofs.values.nine_from.Given as goal

abbrev pub invariant-loop-n : goal.invariant-loop-n
invariant-loop-n l =
    (length l.n-items ≡ 9)
    × (l.p ≤ length l.t)
    × (padded 9 (line (drop l.at l.t)) ≡ take l.n-index l.n-items ++ padded (9 - l.n-index) (line (drop l.p l.t)))
