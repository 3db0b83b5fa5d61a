-- `mesh_numbers::unlisted_from` meets its contract: the flags are clear. No search here: it would count to the array's length. Assumes nothing.
use mathlib.Core.Path.{sym}
use Prim.Native.Nat.{ℕ}
use lib.ListN.{length-replicate}
use Rattle.mesh_numbers.proofs.Bits.{zeros-length}
use Rattle.mesh_numbers.proofs.unlisted_from.Goals as goal

pub slice_bounds-marked_look-end : goal.slice_bounds-marked_look-end
slice_bounds-marked_look-end c = sym (length-replicate {A = ℕ} 1048576 0)

pub marked_look-requires-clause-base_bound : goal.marked_look-requires-clause-base_bound
marked_look-requires-clause-base_bound c = c.requires

pub marked_look-requires-clause-flags_len_bound : goal.marked_look-requires-clause-flags_len_bound
marked_look-requires-clause-flags_len_bound c = zeros-length 1048576

pub returns : goal.returns
returns c = c.marked_look.ensures
