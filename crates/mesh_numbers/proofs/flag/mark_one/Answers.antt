-- `mesh_numbers::flag::mark_one` meets its contract: below the window, past it, in it. Assumes nothing.
use mathlib.Core.Path.{sym, ◌∙◌}
use native.Mathlib.Omega.{arith}
use Rattle.mesh_numbers.specs.Bits.{width}
use Rattle.mesh_numbers.proofs.Flags.{win-below, win-past, win_in, marked-in, marked-out, marks-in, marks-out}
use Rattle.mesh_numbers.proofs.flag.mark_one.Goals as goal

pub returns-then-n-base : goal.returns-then-n-base
returns-then-n-base c =
    let a = c.args in
    let w = win-below a.base (width a.flags.now) a.n c.if-n-base.true in
    (sym (marked-out a.base a.flags.now a.n w), sym (marks-out a.base a.flags.now a.n w))

pub returns-then-flags-k : goal.returns-then-flags-k
unfolding width
returns-then-flags-k c =
    let a = c.args in
    let w = win-past a.base (width a.flags.now) a.n (omega arith) in
    (sym (marked-out a.base a.flags.now a.n w), sym (marks-out a.base a.flags.now a.n w))

pub set-requires : goal.set-requires
unfolding width
set-requires c = omega arith

pub returns : goal.returns
unfolding width
returns c =
    let a = c.args in
    let w = win_in a.base (width a.flags.now) a.n (omega arith) (omega arith) in
    let s = c.set.ensures in
    (s.0 ∙ sym (marked-in a.base a.flags.now a.n w), s.1 ∙ sym (marks-in a.base a.flags.now a.n w))
