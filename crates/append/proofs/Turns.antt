-- The record of an element without a fault, in bytes.
--   short-given    : an element without a fault has at most 18 numbers
--   given-length   : its record has 80 bytes
-- Assumes nothing.
use mathlib.Core.Path.{◌≡◌}
use mathlib.Core.List.{List}
use Prim.Native.Nat.{ℕ, ◌*◌, ◌≤◌}
use native.Mathlib.Omega.{arith}
use lib.IntN.{ℤ}
use lib.ListN.{length}
use Rattle.algebra.proofs.Truth.{not-not}
use Rattle.element.specs.Refusals.{Accepted, stored_codes}
use Rattle.record.specs.Record.{record_bytes}
use Rattle.record.proofs.Known.{known_small}
use Rattle.record.proofs.Codec.{numbers-length}
use Rattle.append.specs.Append.{padded}
use Rattle.append.specs.Series.{Given, given}
use Rattle.append.proofs.Padded.{padded-length}

pub short-given : (n level : ℕ) (xs : List ℤ) → Accepted (stored_codes n level xs) → length xs ≤ 18
short-given n level xs a = omega (arith, not-not (length xs) (2 * n) a.1.1.0, known_small n a.0)

pub given-length : (g : Given) → length g.coords ≤ 18 → length (record_bytes (given g)) ≡ 80
given-length g h = omega (arith, numbers-length (padded g.coords), padded-length g.coords h)
