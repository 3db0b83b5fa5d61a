-- `mesh_nodes::find::seat` meets its contract: the rows left are rows of the text.
use mathlib.Core.Path.{sym, ap, ◌∙◌, subst}
use mathlib.Core.List.{Memᴰ}
use mathlib.Core.Logic.{inr}
use Rattle.mesh_form.specs.Walk.{node_rows}
use Rattle.mesh_form.proofs.Passes.{kind-some, text_kept, gives-reads, start-items}
use Rattle.mesh_nodes.proofs.Passes.{nodes-node}
use Rattle.mesh_nodes.proofs.Rows.{row_in, rows_behind}
use Rattle.mesh_nodes.proofs.find.seat.Goals as goal

pub loop-item-init : goal.loop-item-init
loop-item-init c =
    let e = c.into_iter-item-iterator.ensures.into_iter_gives in (
      c.requires,
      (
        ap (λ x. x.t.now) e ∙ c.of-item-items.ensures.text,
        λ r m. subst (λ l. Memᴰ r (node_rows l)) (sym (start-items c.args.t.now c.into_iter-item-iterator.result (ap (λ x. x.c) e ∙ c.of-item-items.ensures.start))) m,
      ),
    )

pub seat_row-requires : goal.seat_row-requires
seat_row-requires c =
    let t = c.args.t.now in
    let l = c.loop-item in
    let r = gives-reads t l.item-iterator _ _ l.invariant.1.0 c.in-Some.ensures.steps in
    (l.invariant.0, λ k. inr (l.invariant.1.1 _ (row_in (nodes-node t l.item-iterator.c _ r k))))

pub loop-item-preserved : goal.loop-item-preserved
loop-item-preserved c =
    let t = c.args.t.now in
    let l = c.loop-item in
    let r = gives-reads t l.item-iterator _ _ l.invariant.1.0 c.in-Some.ensures.steps in (
      c.seat_row.ensures.0,
      (
        text_kept t l.item-iterator _ _ l.invariant.1.0 c.in-Some.ensures.steps,
        λ q m. l.invariant.1.1 q (rows_behind t l.item-iterator.c _ r (kind-some c.in-Some.item.kind) q m),
      ),
    )
