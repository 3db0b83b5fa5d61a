-- `element_lines::whole` is safe and ends: the tests leave what fits 64 bits.
use Rattle.std.proofs.Common.{T, sym, subst}
use lib.Ieee.{of_bits, neg}
use Rattle.element_lines.proofs.whole.Goals as goal

pub truncating_f64_to_i64-requires-clause-lower_bound : goal.truncating_f64_to_i64-requires-clause-lower_bound
unfolding of_bits neg
truncating_f64_to_i64-requires-clause-lower_bound c = subst T (sym c.if-x.true) tt

pub truncating_f64_to_i64-requires-clause-upper_bound : goal.truncating_f64_to_i64-requires-clause-upper_bound
unfolding of_bits neg
truncating_f64_to_i64-requires-clause-upper_bound c = subst T (sym c.if-x-2.true) tt
