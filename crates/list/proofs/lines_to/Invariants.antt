-- `list::lines_to` meets its contract: the loop keeps that the lines of the first k records are written.
use mathlib.Core.Path.{◌≡◌}
use mathlib.Core.List.{List}
use Prim.Native.Nat.{ℕ, ◌≤◌}
use lib.ListN.{length, take}
use Rattle.record.specs.declared.Record.{Record}
use Rattle.block.specs.Block.{Holds}
use Rattle.list.specs.Steps.{LinesWritten}
use Rattle.list.proofs.lines_to.Given as goal

abbrev pub invariant-loop-k : goal.invariant-loop-k
invariant-loop-k l =
    (length l.out ≡ length l.initial.out)
    × ((v : ℕ) (rs : List Record) → Holds v l.bytes rs → l.count ≤ length rs → LinesWritten l.by (take l.k rs) l.initial.out l.from l.out l.at)
