-- `mesh_numbers::look::look` meets its contract: the loop keeps that what looking up the numbers left gives is what looking up all gives. Assumes nothing.
use mathlib.Core.Path.{sym, ap, ◌∙◌, subst}
use Prim.Native.Nat.{◌+◌, ◌*◌}
use lib.ListN.{length}
use Rattle.mesh_numbers.specs.Bits.{width}
use Rattle.mesh_numbers.specs.Numbers.{gather, wanted_by, wanted}
use Rattle.mesh_numbers.specs.Windows.{start, Looks}
use Rattle.mesh_form.proofs.Passes.{text_kept, gives-reads, start-items, gives_none}
use Rattle.mesh_numbers.proofs.Passes.{looks-nil, looks_on}
use Rattle.mesh_numbers.proofs.look.look.Goals as goal

pub loop-item-init : goal.loop-item-init
loop-item-init c =
    let a = c.args in
    let e = c.into_iter-item-iterator.ensures.into_iter_gives in (
      ap (λ x. x.t.now) e ∙ c.of-item-items.ensures.text,
      λ s k. subst (λ l. Looks a.base (a.base + 8 * length a.flags.now) a.flags.now start (gather wanted_by l) s)
          (sym (start-items a.t.now c.into_iter-item-iterator.result (ap (λ x. x.c) e ∙ c.of-item-items.ensures.start))) k,
    )

pub loop-item-preserved : goal.loop-item-preserved
loop-item-preserved c =
    let a = c.args in
    let l = c.loop-item in
    let g = c.in-Some.ensures.steps in (
      text_kept a.t.now l.item-iterator _ _ l.invariant.0 g,
      λ s k. l.invariant.1 s
          (looks_on a.t.now l.item-iterator.c _ (gives-reads a.t.now l.item-iterator _ _ l.invariant.0 g)
          a.base _ a.flags.now l.p c.look_row-p.result s c.look_row-p.ensures k),
    )

pub returns : goal.returns
unfolding wanted width gather
returns c =
    let a = c.args in
    let l = c.loop-item in
    l.invariant.1 l.p
    (looks-nil a.base _ a.flags.now l.p _
    (ap (gather wanted_by) (gives_none a.t.now l.item-iterator _ l.invariant.0 c.in-None.ensures.steps)))
