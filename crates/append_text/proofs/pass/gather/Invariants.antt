-- `append_text::pass::gather` meets its contract: the loop keeps what was taken of the lines so far.
use Prim.Native.Nat.{◌-◌}
use lib.ListN.{length}
use Rattle.append_text.proofs.Gathers.{Keeps}
use Rattle.append_text.proofs.pass.gather.Given as goal

abbrev pub invariant-loop-at : goal.invariant-loop-at
invariant-loop-at l = Keeps l.t l.initial.s l.initial.out l.s l.out l.at l.n

abbrev pub decreases-loop-at : goal.decreases-loop-at
decreases-loop-at l = length l.t - l.at
