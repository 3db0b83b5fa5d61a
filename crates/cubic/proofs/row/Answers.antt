-- `cubic::row` meets its contract: it is its six terms. Assumes nothing.
use mathlib.Core.Path.{sym, ◌∙◌}
use Rattle.algebra.proofs.Within.{rd, st, named, seen, fits, i-add}
use Rattle.element.specs.Cubic.{term10}
use Rattle.cubic.specs.Points.{grid}
use Rattle.cubic.proofs.Terms.{six-sum}
use Rattle.cubic.proofs.row.Goals as goal

pub overflow_add-result : goal.overflow_add-result
overflow_add-result c =
    fits (i-add (named (rd c.term-a.ensures.small tt) c.term-a.ensures.rule) (named (rd c.term-b.ensures.small tt) c.term-b.ensures.rule)) tt

pub overflow_add-result-2 : goal.overflow_add-result-2
overflow_add-result-2 c =
    fits (i-add (st (i-add (named (rd c.term-a.ensures.small tt) c.term-a.ensures.rule) (named (rd c.term-b.ensures.small tt) c.term-b.ensures.rule)) tt) (named (rd c.term-c.ensures.small tt) c.term-c.ensures.rule)) tt

pub overflow_add-result-3 : goal.overflow_add-result-3
overflow_add-result-3 c =
    fits (i-add (st (i-add (st (i-add (named (rd c.term-a.ensures.small tt) c.term-a.ensures.rule) (named (rd c.term-b.ensures.small tt) c.term-b.ensures.rule)) tt) (named (rd c.term-c.ensures.small tt) c.term-c.ensures.rule)) tt) (named (rd c.term-d.ensures.small tt) c.term-d.ensures.rule)) tt

pub overflow_add-result-4 : goal.overflow_add-result-4
overflow_add-result-4 c =
    fits (i-add (st (i-add (st (i-add (st (i-add (named (rd c.term-a.ensures.small tt) c.term-a.ensures.rule) (named (rd c.term-b.ensures.small tt) c.term-b.ensures.rule)) tt) (named (rd c.term-c.ensures.small tt) c.term-c.ensures.rule)) tt) (named (rd c.term-d.ensures.small tt) c.term-d.ensures.rule)) tt) (named (rd c.term-e.ensures.small tt) c.term-e.ensures.rule)) tt

pub overflow_add-result-5 : goal.overflow_add-result-5
overflow_add-result-5 c =
    fits (i-add (st (i-add (st (i-add (st (i-add (st (i-add (named (rd c.term-a.ensures.small tt) c.term-a.ensures.rule) (named (rd c.term-b.ensures.small tt) c.term-b.ensures.rule)) tt) (named (rd c.term-c.ensures.small tt) c.term-c.ensures.rule)) tt) (named (rd c.term-d.ensures.small tt) c.term-d.ensures.rule)) tt) (named (rd c.term-e.ensures.small tt) c.term-e.ensures.rule)) tt) (named (rd c.term-f.ensures.small tt) c.term-f.ensures.rule)) tt

pub returns : goal.returns
returns c =
    let a = c.args in
    let s = st (i-add (st (i-add (st (i-add (st (i-add (st (i-add (named (rd c.term-a.ensures.small tt) c.term-a.ensures.rule) (named (rd c.term-b.ensures.small tt) c.term-b.ensures.rule)) tt) (named (rd c.term-c.ensures.small tt) c.term-c.ensures.rule)) tt) (named (rd c.term-d.ensures.small tt) c.term-d.ensures.rule)) tt) (named (rd c.term-e.ensures.small tt) c.term-e.ensures.rule)) tt) (named (rd c.term-f.ensures.small tt) c.term-f.ensures.rule)) tt in record {
      rule = s.same ∙ sym (six-sum (λ i2 j2 k2. term10 (grid a.x.now a.y.now) a.i a.j a.k a.i1 a.j1 a.k1 i2 j2 k2));
      small = seen s;
    }
