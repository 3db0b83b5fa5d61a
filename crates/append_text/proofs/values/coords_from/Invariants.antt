-- `append_text::values::coords_from` meets its contract: the loop keeps that the words so far are read.
use mathlib.Core.Path.{◌≡◌}
use mathlib.Core.List.{map}
use Prim.Native.Nat.{◌≤◌}
use lib.ListN.{length, take, drop}
use Rattle.mesh_text.specs.Rows.{line}
use Rattle.mesh_text.specs.Tests.{clipped}
use Rattle.append_text.proofs.values.coords_from.Given as goal

abbrev pub invariant-loop-i : goal.invariant-loop-i
invariant-loop-i l =
    (l.p ≤ length l.t)
    × (length l.xs ≡ length l.initial.xs)
    × (take l.i l.xs ≡ map (clipped 4294967295) (take l.i (line (drop l.at l.t))))
    × (line (drop l.p l.t) ≡ drop l.i (line (drop l.at l.t)))
