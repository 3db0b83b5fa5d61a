use Rattle.text.specs.Writing.{reads, reads_on}
use lib.ListN.{drop}
use Prim.Native.Nat.{◌≤◌, min}
use mathlib.Core.Path.{◌≡◌}
use Rattle.mesh_text.proofs.word.reads_to.Given as goal

abbrev pub invariant-loop-b : goal.invariant-loop-b
invariant-loop-b l = (l.v ≤ l.most) × (min l.most (reads l.w) ≡ min l.most (reads_on l.v (drop l.b-index l.w)))
