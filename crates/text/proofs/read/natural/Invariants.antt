-- `text::read::natural` meets its contract: the number so far is that of the digits before.
use mathlib.Core.Path.{◌≡◌}
use lib.ListN.{take}
use Rattle.text.specs.Writing.{reads}
use Rattle.text.proofs.read.natural.Given as goal

abbrev pub invariant-loop-b : goal.invariant-loop-b
invariant-loop-b l = l.n ≡ reads (take l.b-index l.word)
