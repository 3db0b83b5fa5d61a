-- `mesh_numbers::flag::set` meets its contract: adding the power of a bit that is clear sets it. Assumes nothing.
use mathlib.Core.Path.{◌≡◌, sym, ◌∙◌}
use mathlib.Core.Bool.{true, false}
use Prim.Native.Nat.{◌/◌, ◌<◌}
use lib.ListN.{get_or}
use native.Mathlib.Omega.{arith}
use borrow.Author.Tests.{eq-eqb, ne_eqb}
use Rattle.mesh_numbers.specs.Bits.{bit_b, width}
use Rattle.mesh_numbers.proofs.Bits.{bit_is, set-kept, set_new, set-small}
use Rattle.mesh_numbers.proofs.flag.set.Goals as goal

pub bounds-flags-i : goal.bounds-flags-i
unfolding width
bounds-flags-i c = omega arith

pub returns-then-b-p-eq1 : goal.returns-then-b-p-eq1
returns-then-b-p-eq1 c =
    let a = c.args in
    let p = c.power-p in
    let e = bit_is a.flags.now a.k p.result p.ensures in
    let f : bit_b a.flags.now a.k ≡ true = sym e ∙ eq-eqb _ 1 c.if-b-p-eq1.true in
    (sym f, set-kept a.flags.now a.k f)

pub overflow_add-flags : goal.overflow_add-flags
overflow_add-flags c =
    let a = c.args in
    let p = c.power-p in
    let b : get_or a.flags.now (a.k / 8) 0 < 256 = omega arith in
    let f : bit_b a.flags.now a.k ≡ false = sym (bit_is a.flags.now a.k p.result p.ensures) ∙ ne_eqb _ 1 c.if-b-p-eq1.false in
    omega (arith, set-small a.flags.now a.k p.result p.ensures b f)

pub bounds-flags-i-2 : goal.bounds-flags-i-2
unfolding width
bounds-flags-i-2 c = omega arith

pub returns : goal.returns
returns c =
    let a = c.args in
    let p = c.power-p in
    let f : bit_b a.flags.now a.k ≡ false = sym (bit_is a.flags.now a.k p.result p.ensures) ∙ ne_eqb _ 1 c.if-b-p-eq1.false in
    (sym f, set_new a.flags.now a.k p.result p.ensures f)
