-- `pack::main` is safe and ends: the room keeps its length. No search here: it would count to it.
use mathlib.Core.Path.{sym, ◌∙◌}
use Prim.Native.Nat.{ℕ, ◌≤◌}
use native.Mathlib.Omega.{arith}
use lib.ListN.{length-replicate}
use Rattle.pack.proofs.main.Goals as goal

least : (n : ℕ) → 0 ≤ n
least n = omega arith

pub slice_bounds-fill-end : goal.slice_bounds-fill-end
slice_bounds-fill-end c = sym (length-replicate {A = ℕ} 1048577 0)

pub fill-read-requires : goal.fill-read-requires
fill-read-requires c = least _

pub slice_bounds-settle-end : goal.slice_bounds-settle-end
slice_bounds-settle-end c = sym (c.fill-read.auto.room ∙ length-replicate {A = ℕ} 1048577 0)
