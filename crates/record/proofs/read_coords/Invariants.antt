use Prim.Native.Nat.{◌+◌, ◌*◌}
use Rattle.algebra.specs.Fill.{Filled}
use Rattle.endian.specs.Numbers.{signed_number, part}
use Rattle.record.proofs.read_coords.Given as goal

abbrev pub invariant-loop-k : goal.invariant-loop-k
invariant-loop-k l = Filled 18 l.k (λ m. signed_number (part (l.at + 8 + 4 * m) 4 l.s)) l.out
