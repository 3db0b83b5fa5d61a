-- `mesh_numbers::twice_from` meets its contract: the flags are clear. No search here: it would count to the array's length. Assumes nothing.
use mathlib.Core.Path.{sym}
use Prim.Native.Nat.{ℕ}
use lib.ListN.{length-replicate}
use Rattle.mesh_numbers.proofs.Bits.{zeros-length}
use Rattle.mesh_numbers.proofs.twice_from.Goals as goal

pub slice_bounds-mark-end : goal.slice_bounds-mark-end
slice_bounds-mark-end c = sym (length-replicate {A = ℕ} 1048576 0)

pub mark-requires-clause-base_bound : goal.mark-requires-clause-base_bound
mark-requires-clause-base_bound c = c.requires

pub mark-requires-clause-flags_len_bound : goal.mark-requires-clause-flags_len_bound
mark-requires-clause-flags_len_bound c = zeros-length 1048576

pub returns : goal.returns
returns c = record { found = c.mark.ensures.found; above = c.mark.ensures.above }
