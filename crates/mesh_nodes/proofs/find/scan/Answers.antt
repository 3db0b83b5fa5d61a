-- `mesh_nodes::find::scan` meets its contract: the loop keeps that the rows left give the row.
use mathlib.Core.Path.{sym, ap, ◌∙◌}
use native.Mathlib.Omega.{arith}
use lib.ListN.{length, drop_of_length-le}
use Rattle.mesh_text.specs.Rows.{line}
use Rattle.mesh_text.proofs.Rows.{line-nil}
use Rattle.mesh_form.specs.Walk.{node_rows}
use Rattle.mesh_form.proofs.Passes.{kind-some, text_kept, gives-reads, start-items}
use Rattle.mesh_nodes.specs.Nodes.{row_of}
use Rattle.mesh_nodes.proofs.Passes.{nodes-end}
use Rattle.mesh_nodes.proofs.Rows.{row_here, row_on, row-none}
use Rattle.mesh_nodes.proofs.find.scan.Goals as goal

pub loop-item-init : goal.loop-item-init
loop-item-init c =
    let e = c.into_iter-item-iterator.ensures.into_iter_gives in (
      ap (λ x. x.t.now) e ∙ c.of-item-items.ensures.text,
      ap (λ l. row_of c.args.n (node_rows l)) (start-items c.args.t.now c.into_iter-item-iterator.result (ap (λ x. x.c) e ∙ c.of-item-items.ensures.start)),
    )

pub returns-then-is_node : goal.returns-then-is_node
returns-then-is_node c =
    let a = c.args in
    let l = c.loop-item in
    let r = gives-reads a.t.now l.item-iterator _ _ l.invariant.0 c.in-Some.ensures.steps in
    sym (l.invariant.1 ∙ row_here a.t.now l.item-iterator.c _ r (kind-some c.in-Some.item.kind) a.n (sym c.is_node.ensures ∙ c.if-is_node.true))

pub loop-item-preserved : goal.loop-item-preserved
loop-item-preserved c =
    let a = c.args in
    let l = c.loop-item in
    let r = gives-reads a.t.now l.item-iterator _ _ l.invariant.0 c.in-Some.ensures.steps in (
      text_kept a.t.now l.item-iterator _ _ l.invariant.0 c.in-Some.ensures.steps,
      l.invariant.1 ∙ row_on a.t.now l.item-iterator.c _ r (kind-some c.in-Some.item.kind) a.n (sym c.is_node.ensures ∙ c.if-is_node.false),
    )

pub returns : goal.returns
returns c =
    let a = c.args in
    let l = c.loop-item in
    ap line (drop_of_length-le a.t.now {i = length a.t.now} (omega arith)) ∙ line-nil
    ∙ sym (l.invariant.1 ∙ ap (row_of a.n) (nodes-end a.t.now l.item-iterator _ l.invariant.0 c.in-None.ensures.steps) ∙ row-none a.n)
