-- `mesh::pass::gather` meets its contract: the loop keeps what was taken and passed over so far.
use mathlib.Core.Path.{ap, ◌∙◌}
use native.Mathlib.Omega.{arith}
use Rattle.std.proofs.lemmas.Result.{err_from_is_err_and}
use Rattle.batch.proofs.Tallies.{moved_length}
use Rattle.mesh_form.proofs.Passes.{kind-some, text_kept, gives-reads, start-items}
use Rattle.mesh_nodes.proofs.Passes.{elements-end}
use Rattle.mesh.proofs.Gathers.{Fresh, keeps-start, keeps-room, keeps-fit, keeps-next, keeps-halted, keeps-end}
use Rattle.mesh.proofs.pass.gather.Goals as goal

pub loop-item-init : goal.loop-item-init
loop-item-init c =
    let m = c.args.m in
    let e = c.into_iter-item-iterator.ensures.into_iter_gives in (
      ap (λ x. x.t.now) e ∙ c.of-item-items.ensures.text,
      keeps-start m.limit m.t.now c.args.first c.args.out.now _ c.requires.fresh.1 c.requires.fits
          (start-items m.t.now c.into_iter-item-iterator.result (ap (λ x. x.c) e ∙ c.of-item-items.ensures.start)),
    )

pub take_row-requires : goal.take_row-requires
take_row-requires c =
    let m = c.args.m in
    let l = c.loop-item in
    let k = l.invariant.1 in
    let h : Fresh c.args.first c.args.out.now = (c.requires.fresh.0, c.requires.fresh.2, c.requires.long) in
    let r = gives-reads m.t.now l.item-iterator _ _ l.invariant.0 c.in-Some.ensures.steps in
    let n = kind-some c.in-Some.item.kind in
    record {
      seats = c.requires.seats;
      fits = λ e. keeps-fit m.limit m.t.now c.args.first c.args.out.now h k _ r n e;
      few = omega (arith, k.moved.counted, k.moved.carried.count_is, h.0);
      long = omega (arith, h.2, moved_length k.moved (keeps-room m.limit m.t.now c.args.first c.args.out.now h k));
      room = omega (arith, k.few, r.onwards n, r.inside);
    }

pub returns-in_err-s : goal.returns-in_err-s
returns-in_err-s c =
    let m = c.args.m in
    let l = c.loop-item in
    let h : Fresh c.args.first c.args.out.now = (c.requires.fresh.0, c.requires.fresh.2, c.requires.long) in
    let r = gives-reads m.t.now l.item-iterator _ _ l.invariant.0 c.in-Some.ensures.steps in
    let p = err_from_is_err_and c.from_residual.result c.from_residual.ensures.1 in
    rw (p.1, p.2) (keeps-halted m.limit m.t.now c.args.first c.args.out.now h l.invariant.1 _ r (kind-some c.in-Some.item.kind) c.in_err-s.ensures)

pub loop-item-preserved : goal.loop-item-preserved
loop-item-preserved c =
    let m = c.args.m in
    let l = c.loop-item in
    let h : Fresh c.args.first c.args.out.now = (c.requires.fresh.0, c.requires.fresh.2, c.requires.long) in
    let r = gives-reads m.t.now l.item-iterator _ _ l.invariant.0 c.in-Some.ensures.steps in (
      text_kept m.t.now l.item-iterator _ _ l.invariant.0 c.in-Some.ensures.steps,
      keeps-next m.limit m.t.now c.args.first c.args.out.now h l.invariant.1 _ r (kind-some c.in-Some.item.kind) c.in_ok-s.ensures,
    )

pub returns : goal.returns
returns c =
    let m = c.args.m in
    let l = c.loop-item in
    let h : Fresh c.args.first c.args.out.now = (c.requires.fresh.0, c.requires.fresh.2, c.requires.long) in
    keeps-end m.limit m.t.now c.args.first c.args.out.now h l.invariant.1 (elements-end m.t.now l.item-iterator _ l.invariant.0 c.in-None.ensures.steps)
