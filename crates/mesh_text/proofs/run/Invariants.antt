-- `mesh_text::run` meets its contract: the loop keeps that what is passed and the run from there on make the whole run.
use Rattle.mesh_text.specs.Rows.{in_class, run}
use lib.ListN.{length, drop}
use Prim.Native.Nat.{◌+◌}
use mathlib.Core.Path.{◌≡◌}
use Rattle.mesh_text.proofs.run.Given as goal

abbrev pub invariant-loop-i : goal.invariant-loop-i
invariant-loop-i l = length (run (in_class l.class) l.t) ≡ l.i + length (run (in_class l.class) (drop l.i l.t))
