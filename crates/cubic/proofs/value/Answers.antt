-- `cubic::value` meets its contract: a value is its six rows. Assumes nothing.
use mathlib.Core.Path.{sym, ◌∙◌}
use Rattle.algebra.proofs.Within.{rd, got, st, named, fits, i-add, i-mul}
use Rattle.forms.specs.Binomials.{multinomial}
use Rattle.cubic.proofs.Counts.{twelfth-is}
use Rattle.cubic.proofs.Terms.{value-rows}
use Rattle.cubic.proofs.value.Goals as goal

pub overflow_add-result : goal.overflow_add-result
overflow_add-result c =
    fits (i-add (named (rd c.row-a.ensures.small tt) c.row-a.ensures.rule) (named (rd c.row-b.ensures.small tt) c.row-b.ensures.rule)) tt

pub overflow_add-result-2 : goal.overflow_add-result-2
overflow_add-result-2 c =
    fits (i-add (st (i-add (named (rd c.row-a.ensures.small tt) c.row-a.ensures.rule) (named (rd c.row-b.ensures.small tt) c.row-b.ensures.rule)) tt) (named (rd c.row-c.ensures.small tt) c.row-c.ensures.rule)) tt

pub overflow_add-result-3 : goal.overflow_add-result-3
overflow_add-result-3 c =
    fits (i-add (st (i-add (st (i-add (named (rd c.row-a.ensures.small tt) c.row-a.ensures.rule) (named (rd c.row-b.ensures.small tt) c.row-b.ensures.rule)) tt) (named (rd c.row-c.ensures.small tt) c.row-c.ensures.rule)) tt) (named (rd c.row-d.ensures.small tt) c.row-d.ensures.rule)) tt

pub overflow_add-result-4 : goal.overflow_add-result-4
overflow_add-result-4 c =
    fits (i-add (st (i-add (st (i-add (st (i-add (named (rd c.row-a.ensures.small tt) c.row-a.ensures.rule) (named (rd c.row-b.ensures.small tt) c.row-b.ensures.rule)) tt) (named (rd c.row-c.ensures.small tt) c.row-c.ensures.rule)) tt) (named (rd c.row-d.ensures.small tt) c.row-d.ensures.rule)) tt) (named (rd c.row-e.ensures.small tt) c.row-e.ensures.rule)) tt

pub overflow_add-result-5 : goal.overflow_add-result-5
overflow_add-result-5 c =
    fits (i-add (st (i-add (st (i-add (st (i-add (st (i-add (named (rd c.row-a.ensures.small tt) c.row-a.ensures.rule) (named (rd c.row-b.ensures.small tt) c.row-b.ensures.rule)) tt) (named (rd c.row-c.ensures.small tt) c.row-c.ensures.rule)) tt) (named (rd c.row-d.ensures.small tt) c.row-d.ensures.rule)) tt) (named (rd c.row-e.ensures.small tt) c.row-e.ensures.rule)) tt) (named (rd c.row-f.ensures.small tt) c.row-f.ensures.rule)) tt

pub overflow_mul-result : goal.overflow_mul-result
overflow_mul-result c =
    let a = c.args in
    let w = got c.weight.ensures (twelfth-is (multinomial a.i a.j a.k)).within tt in
    let s = st (i-add (st (i-add (st (i-add (st (i-add (st (i-add (named (rd c.row-a.ensures.small tt) c.row-a.ensures.rule) (named (rd c.row-b.ensures.small tt) c.row-b.ensures.rule)) tt) (named (rd c.row-c.ensures.small tt) c.row-c.ensures.rule)) tt) (named (rd c.row-d.ensures.small tt) c.row-d.ensures.rule)) tt) (named (rd c.row-e.ensures.small tt) c.row-e.ensures.rule)) tt) (named (rd c.row-f.ensures.small tt) c.row-f.ensures.rule)) tt in
    fits (i-mul w s) tt

pub returns : goal.returns
returns c =
    let a = c.args in
    let w = got c.weight.ensures (twelfth-is (multinomial a.i a.j a.k)).within tt in
    let s = st (i-add (st (i-add (st (i-add (st (i-add (st (i-add (named (rd c.row-a.ensures.small tt) c.row-a.ensures.rule) (named (rd c.row-b.ensures.small tt) c.row-b.ensures.rule)) tt) (named (rd c.row-c.ensures.small tt) c.row-c.ensures.rule)) tt) (named (rd c.row-d.ensures.small tt) c.row-d.ensures.rule)) tt) (named (rd c.row-e.ensures.small tt) c.row-e.ensures.rule)) tt) (named (rd c.row-f.ensures.small tt) c.row-f.ensures.rule)) tt in
    (st (i-mul w s) tt).same ∙ sym (value-rows a.x.now a.y.now a.i a.j a.k)
