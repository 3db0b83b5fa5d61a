-- `solver_lines::bits::bits` meets its contract: what is no number has one pattern.
use mathlib.Core.Path.{sym, ap, ◌∙◌}
use lib.Ieee.{binary64, to_bits}
use Rattle.algebra.proofs.Truth.{true-T}
use Rattle.solver_lines.proofs.Nans.{only_nan, nan_pattern}
use Rattle.solver_lines.proofs.bits.bits.Goals as goal

pub returns-then-is_nan : goal.returns-then-is_nan
returns-then-is_nan c = sym (ap (to_bits binary64) (only_nan c.args.x (true-T (sym c.is_nan.ensures.value ∙ c.if-is_nan.true))) ∙ nan_pattern)
