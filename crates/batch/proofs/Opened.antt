-- A buffer with a good block: its sizes.
--   used-within, block_size, block-few : what such a buffer is like
--   zeros-long     : an array that is clear is as long as it says
-- Assumes nothing.
use mathlib.Core.Path.{◌≡◌, sym, ◌∙◌}
use mathlib.Core.List.{List}
use Prim.Native.Nat.{ℕ, ◌+◌, ◌*◌, ◌≤◌}
use native.Mathlib.Nat as N
use native.Mathlib.Omega.{arith}
use lib.ListN.{length, take, replicate, length-replicate}
use lib.Seq.{length-take-le}
use Rattle.element.specs.Refusals.{Accepted}
use Rattle.block.specs.Block.{count_of}
use Rattle.block.proofs.Header.{header-few, header-size}
use Rattle.block.proofs.Walk.{accepted-header}
use Rattle.append.specs.Append.{buffer_codes}

module _ (b : List ℕ) (used : ℕ) (a : Accepted (buffer_codes b used)) where
  pub used-within : used ≤ length b
  used-within = N.le_of_suc-le-suc (N.lt_of_not-le a.0)

  pub block_size : used ≡ 9 + 80 * count_of (take used b)
  block_size = sym (length-take-le used b used-within) ∙ header-size (take used b) (accepted-header (take used b) a.1)

  pub block-few : count_of (take used b) ≤ 800
  block-few = header-few (take used b) (accepted-header (take used b) a.1)

pub zeros-long : (w : ℕ) → w ≤ length (replicate {A = ℕ} w 0)
zeros-long w = omega (arith, length-replicate {A = ℕ} w 0)
