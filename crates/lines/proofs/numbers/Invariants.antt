-- `lines::numbers` meets its contract: the first numbers are written.
use lib.ListN.{take}
use Rattle.text.specs.Writing.{Wrote}
use Rattle.lines.specs.Words.{spaced}
use Rattle.lines.proofs.numbers.Given as goal

abbrev pub invariant-loop-n : goal.invariant-loop-n
invariant-loop-n l = Wrote l.initial.out l.from (spaced (take l.n-index l.values)) l.out l.at
