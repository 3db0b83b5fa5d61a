-- `mesh_form::walk::walks` meets its contract: the loop keeps that what is left to be tested gives the answer.
use mathlib.Core.Path.{◌≡◌}
use mathlib.Core.Bool.{false}
use Rattle.mesh_form.specs.declared.Part.TheVariants.{Outside}
use Rattle.mesh_form.proofs.Answers.{answer_from}
use Rattle.mesh_form.proofs.walk.walks.Given as goal

abbrev pub invariant-loop-item : goal.invariant-loop-item
invariant-loop-item l =
    (goal.iterator-loop-item).can_next l.left × ((goal.iterator-loop-item).is_finite l.left
    × ((l.left.t.now ≡ l.t) × (answer_from l.t (record { at = 0; part = Outside false }) ≡ answer_from l.t l.left.c)))
