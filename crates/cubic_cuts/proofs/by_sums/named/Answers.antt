-- `by_sums::named` meets its contract: small values are held as they are. Assumes nothing.
use mathlib.Core.Path.{refl}
use Prim.Native.Nat.{◌^◌}
use Rattle.cubic_cuts.specs.Cells.{places}
use Rattle.cubic_cuts.proofs.Sums.{from, taken-each, sums-words}
use Rattle.cubic_cuts.proofs.by_sums.named.Goals as goal

pub returns : goal.returns
returns c = sums-words (taken-each places c.requires) (2 ^ 58) (from 0 15) tt refl
