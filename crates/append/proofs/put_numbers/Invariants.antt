-- `append::put_numbers` meets its contract: the loop keeps that the first k numbers are written.
use mathlib.Core.Path.{◌≡◌}
use lib.ListN.{length, take}
use Rattle.endian.specs.Numbers.{over}
use Rattle.record.specs.Record.{numbers_bytes}
use Rattle.append.proofs.put_numbers.Given as goal

abbrev pub invariant-loop-k : goal.invariant-loop-k
invariant-loop-k l = (length l.zs ≡ 18) × (l.s ≡ over l.initial.s l.at (numbers_bytes (take l.k l.zs)))
