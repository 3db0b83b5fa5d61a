-- `mesh_numbers::flag::is_set` meets its contract: the bit of the byte. Assumes nothing.
use native.Mathlib.Omega.{arith}
use Rattle.mesh_numbers.specs.Bits.{width}
use Rattle.mesh_numbers.proofs.Bits.{bit_is}
use Rattle.mesh_numbers.proofs.flag.is_set.Goals as goal

pub bounds-flags-i : goal.bounds-flags-i
unfolding width
bounds-flags-i c = omega arith

pub returns : goal.returns
returns c = let a = c.args in bit_is a.flags.now a.k c.power-p.result c.power-p.ensures
