use mathlib.Core.Path.{◌≡◌}
use lib.IntN.{pos}
use lib.ListN.{take, get_or}
use Rattle.forms.specs.Rows.{weigh}
use Rattle.cells.proofs.weighed.Given as goal

abbrev pub invariant-loop-k : goal.invariant-loop-k
invariant-loop-k l = (l.sum ≡ weigh (take l.k l.row) (λ i. get_or l.c i (pos 0)))
