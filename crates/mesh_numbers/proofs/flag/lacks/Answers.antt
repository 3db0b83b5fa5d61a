-- `mesh_numbers::flag::lacks` meets its contract: below the window, past it, in it. Assumes nothing.
use mathlib.Core.Path.{sym, ap, ◌∙◌}
use mathlib.Core.Bool.{not}
use native.Mathlib.Omega.{arith}
use Rattle.mesh_numbers.specs.Bits.{width}
use Rattle.mesh_numbers.proofs.Flags.{win-below, win-past, win_in, lack-in, lack-out}
use Rattle.mesh_numbers.proofs.flag.lacks.Goals as goal

pub returns-then-n-base : goal.returns-then-n-base
returns-then-n-base c = let a = c.args in sym (lack-out a.base a.flags.now a.n (win-below a.base (width a.flags.now) a.n c.if-n-base.true))

pub returns-then-flags-k : goal.returns-then-flags-k
unfolding width
returns-then-flags-k c = let a = c.args in sym (lack-out a.base a.flags.now a.n (win-past a.base (width a.flags.now) a.n (omega arith)))

pub is_set-requires : goal.is_set-requires
unfolding width
is_set-requires c = omega arith

pub returns : goal.returns
unfolding width
returns c =
    let a = c.args in
    ap not c.is_set.ensures ∙ sym (lack-in a.base a.flags.now a.n (win_in a.base (width a.flags.now) a.n (omega arith) (omega arith)))
