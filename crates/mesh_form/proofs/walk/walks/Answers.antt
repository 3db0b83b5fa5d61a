-- `mesh_form::walk::walks` meets its contract: the loop keeps that what is left to be tested gives the answer.
use mathlib.Core.Path.{refl, sym, ap, ◌∙◌}
use Rattle.mesh_form.specs.Walk.{meaning}
use Rattle.mesh_form.proofs.Answers.{answer_from, answer-on, answer-off, answer-end}
use Rattle.mesh_form.proofs.Passes.{kind-some, text_kept, gives-reads}
use Rattle.mesh_form.proofs.walk.walks.Goals as goal

pub loop-item-init : goal.loop-item-init
loop-item-init c = (tt, (tt, (c.of-left.ensures.text, ap (answer_from c.args.t.now) (sym c.of-left.ensures.start))))

pub returns-then-not-is_item : goal.returns-then-not-is_item
unfolding answer_from meaning
returns-then-not-is_item c =
    let t = c.args.t.now in
    let l = c.loop-item in
    sym (l.invariant.1.1.1
    ∙ answer-off t l.left.c _ (gives-reads t l.left _ _ l.invariant.1.1.0 c.in-Some.ensures.steps) (kind-some c.in-Some.item.kind) (sym c.is_item.ensures ∙ c.if-not-is_item.true))

pub loop-item-preserved : goal.loop-item-preserved
loop-item-preserved c =
    let t = c.args.t.now in
    let l = c.loop-item in
    let g = c.in-Some.ensures.steps in (
      tt,
      (
        tt,
        (
          text_kept t l.left _ _ l.invariant.1.1.0 g,
          l.invariant.1.1.1
              ∙ answer-on t l.left.c _ (gives-reads t l.left _ _ l.invariant.1.1.0 g) (kind-some c.in-Some.item.kind) (sym c.is_item.ensures ∙ c.if-not-is_item.false),
        ),
      ),
    )

pub returns : goal.returns
unfolding answer_from meaning
returns c =
    let t = c.args.t.now in
    let l = c.loop-item in
    c.is_done.ensures t
    ∙ sym (l.invariant.1.1.1 ∙ answer-end t l.left.c _ (gives-reads t l.left _ _ l.invariant.1.1.0 c.in_default.ensures.steps) refl)
