-- `mesh_numbers::mark::mark` meets its contract: the loop keeps that what marking the numbers left gives is what marking all gives. Assumes nothing.
use mathlib.Core.Path.{sym, ap, ◌∙◌, subst}
use Prim.Native.Nat.{◌+◌, ◌*◌}
use lib.ListN.{length}
use Rattle.mesh_numbers.specs.Bits.{width}
use Rattle.mesh_numbers.specs.Numbers.{gather, node_number, numbers}
use Rattle.mesh_numbers.specs.Windows.{start, Marks}
use Rattle.mesh_form.proofs.Passes.{text_kept, gives-reads, start-items, gives_none}
use Rattle.mesh_numbers.proofs.Passes.{marks-nil, marks-on}
use Rattle.mesh_numbers.proofs.mark.mark.Goals as goal

pub loop-item-init : goal.loop-item-init
loop-item-init c =
    let a = c.args in
    let e = c.into_iter-item-iterator.ensures.into_iter_gives in (
      ap (λ x. x.t.now) e ∙ c.of-item-items.ensures.text,
      λ s js k. subst (λ l. Marks a.base (a.base + 8 * length a.flags.now) a.flags.now start (gather node_number l) s js)
          (sym (start-items a.t.now c.into_iter-item-iterator.result (ap (λ x. x.c) e ∙ c.of-item-items.ensures.start))) k,
    )

pub loop-item-preserved : goal.loop-item-preserved
loop-item-preserved c =
    let a = c.args in
    let l = c.loop-item in
    let g = c.in-Some.ensures.steps in (
      text_kept a.t.now l.item-iterator _ _ l.invariant.0 g,
      λ s js k. l.invariant.1 s js
          (marks-on a.t.now l.item-iterator.c _ (gives-reads a.t.now l.item-iterator _ _ l.invariant.0 g)
          a.base _ l.flags l.p c.mark_row-p.result s _ js c.mark_row-p.ensures k),
    )

pub returns : goal.returns
unfolding numbers width gather
returns c =
    let a = c.args in
    let l = c.loop-item in
    l.invariant.1 l.p l.flags
    (marks-nil a.base _ l.flags l.p _
    (ap (gather node_number) (gives_none a.t.now l.item-iterator _ l.invariant.0 c.in-None.ensures.steps)))
