-- `verdict` meets its contract: a refusal by the first fault, and else what the walk of the kind shows. Assumes nothing.
use Rattle.std.proofs.Common.{refl, ◌∙◌, ap}
use Rattle.element.proofs.Refusals.{coded_none}
use Rattle.faults.proofs.Limits.{accepted-inside}
use Rattle.faults.proofs.Meant.{meant-of}
use Rattle.faults.proofs.Refusals.{number-some}
use Rattle.verdict.specs.Calls.{refusal}
use Rattle.verdict.proofs.Answers.{accepted-limit, accepted-bounds, refuses, succeeds}
use Rattle.verdict.proofs.verdict.Goals as goal

pub walk-requires : goal.walk-requires
walk-requires c =
    let a = c.args in
    let ok = coded_none c.in-Ok.ensures.code tt refl in
    let k = meant-of c.in-Ok.kind c.in-Ok.ensures.kind in
    (rw k at (accepted-limit a.kind a.limit a.coords.now ok), rw k at (accepted-inside a.kind a.coords.now (accepted-bounds a.kind a.limit a.coords.now ok)))

pub returns-in-Ok : goal.returns-in-Ok
returns-in-Ok c =
    let a = c.args in
    succeeds a.kind a.limit a.coords.now (coded_none c.in-Ok.ensures.code tt refl)
    (meant-of c.in-Ok.kind c.in-Ok.ensures.kind) c.walk.ensures c.told.ensures

pub returns-in-Err : goal.returns-in-Err
returns-in-Err c =
    let a = c.args in
    refuses a.kind a.limit a.coords.now c.in-Err.ensures.code (number-some c.in-Err.refusal)
    (c.refused.ensures ∙ ap refusal c.number.ensures)
