-- `cubic::spot` meets its contract: places are small. Assumes nothing.
use native.Mathlib.Nat as N
use native.Mathlib.Omega.{arith}
use lib.Dec.{lit<}
use Rattle.cubic.proofs.Counts.{place-small}
use Rattle.cubic.proofs.spot.Goals as goal

pub overflow_mul-result : goal.overflow_mul-result
overflow_mul-result c =
    record { fits = N.lt_of_le_of_lt (place-small c.args.k c.requires.1) (lit< tt) }

pub overflow_add-result : goal.overflow_add-result
overflow_add-result c =
    omega (arith, place-small c.args.k c.requires.1)
