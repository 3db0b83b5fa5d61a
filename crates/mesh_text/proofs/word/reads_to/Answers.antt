-- `mesh_text::word::reads_to` meets its contract: the loop keeps that reading on from what is read gives the number, cut at the bound.
use Rattle.mesh_text.proofs.Reading.{reads-step}
use Rattle.text.specs.Writing.{reads_on}
use lib.ListN.{drop}
use native.Mathlib.Omega.{arith}
use Prim.Native.Nat.{◌+◌, ◌*◌, min}
use mathlib.Core.Path.{sym, ap, ◌∙◌}
use Rattle.mesh_text.proofs.word.reads_to.Goals as goal

pub loop-b-preserved : goal.loop-b-preserved
loop-b-preserved c =
    let l = c.loop-b in
    let a = c.args in
    let e = c.min-v.ensures ∙ ap (λ d. min a.most (10 * l.v + d)) c.digit.ensures.0 in (
      omega (arith, e),
      reads-step a.most l.v l.b-index a.w.now (omega arith) l.invariant.1
          ∙ ap (λ n. min a.most (reads_on n (drop (l.b-index + 1) a.w.now))) (sym e),
    )
