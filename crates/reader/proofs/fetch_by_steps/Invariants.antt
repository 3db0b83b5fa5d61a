-- `reader::fetch_by_steps` meets its contract: the loop keeps that the next step begins at record j.
use mathlib.Core.Path.{◌≡◌}
use Prim.Native.Nat.{◌≤◌}
use Rattle.block.specs.Block.{count_of, place}
use Rattle.reader.proofs.fetch_by_steps.Given as goal

abbrev pub invariant-loop-j : goal.invariant-loop-j
invariant-loop-j l = (l.j ≤ count_of l.bytes) × (l.at ≡ place l.j)
