-- `mesh_numbers::look::look_among` meets its contract: the loop keeps what looking up the numbers so far gives. Assumes nothing.
use lib.ListN.{take}
use Rattle.mesh_numbers.specs.Windows.{Looks}
use Rattle.mesh_numbers.proofs.look.look_among.Given as goal

abbrev pub invariant-loop-n : goal.invariant-loop-n
invariant-loop-n l = Looks l.w.base l.w.lim l.flags (record { found = l.initial.found; above = l.initial.above }) (take l.n-index l.names) (record { found = l.found; above = l.above })
