-- `floor_verdict` meets its contract: a refusal by the first fault, and else what the walk over the shifted values shows. Assumes
use mathlib.Core.Path.{◌∙◌, ap}
use Rattle.element.proofs.Refusals.{coded_none}
use Rattle.faults.proofs.Refusals.{number-some, passed}
use Rattle.steps.specs.declared.Walk.{Walk}
use Rattle.walks.specs.Walk.{answer}
use Rattle.element.specs.Kinds.{six}
use Rattle.walks.specs.Elements.{walk_of}
use Rattle.verdict.specs.Calls.{given, refusal}
use Rattle.floor.specs.Floor.{shifted}
use Rattle.verdict.proofs.Judging.{tells-refusal, tells-verdict}
use Rattle.floor.proofs.Values.{floor-walk}
use Rattle.floor.proofs.Parts.{accepted-parts}
use Rattle.floor.proofs.floor_verdict.Goals as goal

pub returns-in-Err : goal.returns-in-Err
returns-in-Err c =
    tells-refusal _ _ c.args.limit c.in-Err.ensures (number-some c.in-Err.refusal) (c.refused.ensures ∙ ap refusal c.number.ensures)

pub walk_floor-requires : goal.walk_floor-requires
walk_floor-requires c =
    let a = c.args in
    let p = accepted-parts a.kind a.limit a.coords.now a.p (coded_none c.floor_code.ensures tt (passed _ c.in_default.not-Err)) in
    (p.limit, p.share, p.small)

pub returns : goal.returns
returns c =
    let a = c.args in
    tells-verdict _ _ a.limit (answer a.limit (walk_of six a.limit (shifted a.p a.coords.now))) (coded_none c.floor_code.ensures tt (passed _ c.in_default.not-Err)) (floor-walk a.p a.coords.now a.limit)
    (c.told.ensures ∙ ap (λ (w : Walk). given (answer a.limit w)) c.walk_floor.ensures)
