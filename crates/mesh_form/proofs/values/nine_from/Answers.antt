-- `mesh_form::values::nine_from` meets its contract: the loop keeps that the numbers so far and those of the words left make all nine. Assumes nothing.
use mathlib.Core.Path.{ap, ◌∙◌}
use native.Mathlib.Omega.{arith}
use lib.ListN.{drop, length-set}
use Rattle.mesh_text.specs.Rows.{line, first}
use Rattle.mesh_text.specs.Tests.{number_of}
use Rattle.mesh_form.proofs.Said.{padded, padded-is, padded-step, padded-end}
use Rattle.mesh_form.proofs.values.nine_from.Goals as goal

pub loop-n-preserved : goal.loop-n-preserved
loop-n-preserved c =
    let l = c.loop-n in
    let a = c.args in (
      length-set l.n-items l.n-index _ ∙ l.invariant.0,
      c.word_after-p.ensures.within,
      padded-step 9 l.n-index l.n-items (padded 9 (line (drop a.at a.t.now))) (line (drop l.p a.t.now)) l.invariant.2
          _ (line (drop c.word_after-p.result a.t.now))
          (omega arith) l.invariant.0
          (c.number.ensures ∙ ap number_of c.first.ensures ∙ ap (λ x. number_of (first (line x))) c.from.ensures)
          c.word_after-p.ensures.same,
    )

pub returns : goal.returns
returns c =
    let l = c.loop-n in
    let a = c.args in
    padded-end 9 l.n-index l.n-items (padded 9 (line (drop a.at a.t.now))) (line (drop l.p a.t.now)) l.invariant.2 (omega arith) l.invariant.0
    ∙ padded-is 9 9 (line (drop a.at a.t.now)) (omega arith)
