-- `mesh_file::input::in_large` is safe and ends: the room keeps its length. No search here: it would count to it.
use mathlib.Core.Path.{sym, ◌∙◌}
use Prim.Native.Nat.{ℕ}
use lib.ListN.{length-replicate}
use Rattle.mesh_file.proofs.input.in_large.Goals as goal

pub slice_bounds-read_on-end : goal.slice_bounds-read_on-end
slice_bounds-read_on-end g c = sym (length-replicate {A = ℕ} 67108865 0)

pub slice_bounds-settle_last-end : goal.slice_bounds-settle_last-end
slice_bounds-settle_last-end g c = sym (c.read_on-read.auto.room ∙ length-replicate {A = ℕ} 67108865 0)
