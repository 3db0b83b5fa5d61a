-- `cubic::multinomial` meets its contract: up to degree 4 it is small. Assumes nothing.
use native.Mathlib.Nat as N
use lib.Dec.{lit<}
use mathlib.Core.Path.{refl}
use Rattle.cubic.proofs.Counts.{multinomial-small}
use Rattle.cubic.proofs.multinomial.Goals as goal

pub overflow_mul-result : goal.overflow_mul-result
overflow_mul-result c =
    let a = c.args in
    rw (c.choose.ensures, c.choose-2.ensures) (record { fits = N.lt_of_le_of_lt (multinomial-small a.i a.j a.k c.requires).1 (lit< tt) })

pub returns : goal.returns
returns c =
    let a = c.args in
    rw (c.choose.ensures, c.choose-2.ensures) (record { rule = refl; small = multinomial-small a.i a.j a.k c.requires })
