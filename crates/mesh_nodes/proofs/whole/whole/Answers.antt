-- `mesh_nodes::whole::whole` meets its contract: the loop keeps that the rows left give the answer.
use mathlib.Core.Path.{sym, ap, ◌∙◌}
use Rattle.mesh_form.specs.Walk.{node_rows}
use Rattle.mesh_form.proofs.Passes.{kind-some, text_kept, gives-reads, start-items}
use Rattle.mesh_nodes.specs.Nodes.{flats_b}
use Rattle.mesh_nodes.proofs.Passes.{nodes-end}
use Rattle.mesh_nodes.proofs.Rows.{flats-on, flats-off, flats-none}
use Rattle.mesh_nodes.proofs.whole.whole.Goals as goal

pub loop-item-init : goal.loop-item-init
loop-item-init c =
    let e = c.into_iter-item-iterator.ensures.into_iter_gives in (
      ap (λ x. x.t.now) e ∙ c.of-item-items.ensures.text,
      ap (λ l. flats_b (node_rows l)) (start-items c.args.t.now c.into_iter-item-iterator.result (ap (λ x. x.c) e ∙ c.of-item-items.ensures.start)),
    )

pub returns-then-not-is_flat_row : goal.returns-then-not-is_flat_row
returns-then-not-is_flat_row c =
    let t = c.args.t.now in
    let l = c.loop-item in
    let r = gives-reads t l.item-iterator _ _ l.invariant.0 c.in-Some.ensures.steps in
    sym (l.invariant.1 ∙ flats-off t l.item-iterator.c _ r (kind-some c.in-Some.item.kind) (sym c.is_flat_row.ensures ∙ c.if-not-is_flat_row.true))

pub loop-item-preserved : goal.loop-item-preserved
loop-item-preserved c =
    let t = c.args.t.now in
    let l = c.loop-item in
    let r = gives-reads t l.item-iterator _ _ l.invariant.0 c.in-Some.ensures.steps in (
      text_kept t l.item-iterator _ _ l.invariant.0 c.in-Some.ensures.steps,
      l.invariant.1 ∙ flats-on t l.item-iterator.c _ r (kind-some c.in-Some.item.kind) (sym c.is_flat_row.ensures ∙ c.if-not-is_flat_row.false),
    )

pub returns : goal.returns
returns c =
    let t = c.args.t.now in
    let l = c.loop-item in
    sym (l.invariant.1 ∙ ap flats_b (nodes-end t l.item-iterator _ l.invariant.0 c.in-None.ensures.steps) ∙ flats-none)
