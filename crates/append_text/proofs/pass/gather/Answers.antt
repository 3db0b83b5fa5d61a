-- `append_text::pass::gather` meets its contract: the loop keeps what was taken of the lines so far.
use mathlib.Core.Path.{refl}
use Prim.Native.Nat.{suc}
use native.Mathlib.Numerals.{add-one}
use native.Mathlib.Omega.{arith}
use lib.ListN.{drop}
use Rattle.mesh_text.specs.Rows.{line}
use Rattle.append_text.proofs.Gathers.{form-next, form-line, ends-inside, Fresh, keeps-start, keeps-next, keeps-halted, keeps-end}
use Rattle.append_text.proofs.pass.gather.Goals as goal

pub loop-at-init : goal.loop-at-init
loop-at-init c = keeps-start c.args.t.now c.args.first c.args.out.now c.requires.good

pub take_line-requires-clause-fits : goal.take_line-requires-clause-fits
take_line-requires-clause-fits c =
    let l = c.loop-at in
    let t = c.args.t.now in
    let e = c.line_end-end.ensures in
    let i = ends-inside l.n e (omega arith) l.invariant.good in
    form-line l.n (line (drop l.at t)) (form-next l.n (drop l.at t) (drop (suc c.line_end-end.result) t) (e.more i) l.invariant.good).0

pub returns-in-Err : goal.returns-in-Err
returns-in-Err c =
    let l = c.loop-at in
    let g = c.line_end-end in
    let h : Fresh c.args.first c.args.out.now = (c.requires.fresh.0, c.requires.fresh.1, c.requires.long) in
    let i = ends-inside l.n g.ensures (omega arith) l.invariant.good in
    keeps-halted c.args.t.now c.args.first c.args.out.now h l.invariant g.result (g.ensures.more i) _ refl c.in-Err.ensures

pub loop-at-preserved : goal.loop-at-preserved
loop-at-preserved c =
    let l = c.loop-at in
    let g = c.line_end-end in
    let h : Fresh c.args.first c.args.out.now = (c.requires.fresh.0, c.requires.fresh.1, c.requires.long) in
    let i = ends-inside l.n g.ensures (omega arith) l.invariant.good in
    rw (add-one l.n)
    (rw (add-one g.result)
    (keeps-next c.args.t.now c.args.first c.args.out.now h l.invariant g.result (g.ensures.more i) g.ensures.onwards i c.in-Ok.ensures))

pub returns : goal.returns
returns c =
    let h : Fresh c.args.first c.args.out.now = (c.requires.fresh.0, c.requires.fresh.1, c.requires.long) in
    keeps-end c.args.t.now c.args.first c.args.out.now h c.loop-at.invariant (omega arith)
