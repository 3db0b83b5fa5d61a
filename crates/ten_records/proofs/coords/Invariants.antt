-- `ten_records::coords` meets its contract: the first k coordinates are read.
use Prim.Native.Nat.{◌+◌, ◌*◌}
use Rattle.algebra.specs.Fill.{Filled}
use Rattle.endian.specs.Numbers.{signed_number, part}
use Rattle.ten_records.proofs.coords.Given as goal

abbrev pub invariant-loop-k : goal.invariant-loop-k
invariant-loop-k l = Filled 20 l.k (λ m. signed_number (part (l.at + 4 + 4 * m) 4 l.bytes)) l.out
