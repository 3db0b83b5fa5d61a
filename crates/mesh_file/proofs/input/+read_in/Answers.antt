-- `mesh_file::input::read_in` is safe and ends: the rooms left fall, and the room keeps its length. No search here: it would count to it.
use mathlib.Core.Path.{sym, ◌∙◌}
use Prim.Native.Nat.{ℕ, ◌-◌, ◌<◌, ◌≤◌}
use native.Mathlib.Omega.{arith}
use borrow.Author.Rules.{rules}
use lib.ListN.{length-replicate}
use Rattle.mesh_file.proofs.input.+read_in.Goals as goal

-- what is at least 2 has one before it
some : (n : ℕ) → 2 ≤ n → 1 ≤ n
some n h = omega arith

fewer : (n : ℕ) → 2 ≤ n → n - 1 < n
fewer n h = omega arith

pub slice_bounds-fill-end : goal.slice_bounds-fill-end
slice_bounds-fill-end g t c = sym (length-replicate {A = ℕ} 1048576 0)

least : (n : ℕ) → 0 ≤ n
least n = omega arith

pub fill-read-requires : goal.fill-read-requires
fill-read-requires g t c = least _

pub slice_bounds-settle-end : goal.slice_bounds-settle-end
slice_bounds-settle-end g t c = sym (c.fill-read.auto.room ∙ length-replicate {A = ℕ} 1048576 0)

pub slice_bounds-read_in-end : goal.slice_bounds-read_in-end
slice_bounds-read_in-end g t c = sym (c.fill-read.auto.room ∙ length-replicate {A = ℕ} 1048576 0)

pub overflow_sub-rooms : goal.overflow_sub-rooms
overflow_sub-rooms g t c = some c.args.rooms c.if-rooms-lt2.false

pub read_in-requires : goal.read_in-requires
read_in-requires g t c κs within = (rw (sym c.decreases) (fewer c.args.rooms c.if-rooms-lt2.false), search rules)
