use mathlib.Core.Path.{◌≡◌}
use lib.ListN.{take}
use Rattle.forms.specs.Cells.{non_negatives}
use Rattle.cells.proofs.none_negative.Given as goal

abbrev pub invariant-loop-x : goal.invariant-loop-x
invariant-loop-x l = (l.none ≡ non_negatives (take l.x-index l.c))
