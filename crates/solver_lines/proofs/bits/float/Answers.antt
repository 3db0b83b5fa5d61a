-- `solver_lines::bits::float` meets its contract: with the sign's bit taken off, the pattern of what is no number is above the infinity's.
use mathlib.Core.Path.{sym, ◌∙◌}
use borrow.Author.Tests.{lt-ltb, le-ltb}
use lib.Ieee.{binary64, of_bits}
use lib.Ieee.Bits.{nan_bits_is, nan_bits_above}
use Rattle.algebra.proofs.Truth.{true-T, false-not}
use Rattle.solver_lines.proofs.Nans.{only_nan, nan_value}
use Rattle.solver_lines.proofs.bits.float.Goals as goal

pub returns-then-pattern-gt9218868437227405312 : goal.returns-then-pattern-gt9218868437227405312
returns-then-pattern-gt9218868437227405312 c =
    let n = c.args.pattern in
    nan_value ∙ sym (only_nan (of_bits binary64 n) (true-T (sym (nan_bits_is binary64 n) ∙ nan_bits_above binary64 n ∙ lt-ltb _ _ c.if-pattern-gt9218868437227405312.true)))

pub float_from_bits-result : goal.float_from_bits-result
float_from_bits-result c =
    let n = c.args.pattern in
    false-not (nan_bits_above binary64 n ∙ le-ltb _ _ c.if-pattern-gt9218868437227405312.false)
