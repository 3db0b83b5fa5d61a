-- `control::control_values` meets its contract: kind by kind.
use Rattle.std.proofs.Common.{refl, ◌∙◌, ap}
use Rattle.element.specs.Control.{control_values}
use Rattle.element.proofs.Refusals.{coded_none}
use Rattle.faults.specs.declared.kind.Kind.TheVariants.{Six, Eight, Nine, Ten}
use Rattle.faults.proofs.Refusals.{number-some}
use Rattle.control.specs.Calls.{controlled}
use Rattle.control.proofs.Answers.{kind-inside, kind-values, refuses, handed}
use Rattle.control.proofs.control_values.Goals as goal

pub returns-in-Err : goal.returns-in-Err
returns-in-Err c =
    let a = c.args in
    refuses a.kind a.coords.now a.out.now _ c.in-Err.ensures.code (number-some c.in-Err.refusal)
    (c.answer.ensures ∙ ap (λ n. controlled n 0) c.number.ensures)

pub values-requires : goal.values-requires
values-requires c =
    let arm = c.in-Ok-Six in
    kind-inside Six c.args.coords.now (rw arm.field-0-is at arm.ensures.kind) (coded_none arm.ensures.code tt refl)

pub returns-in-Ok-Six : goal.returns-in-Ok-Six
unfolding control_values
returns-in-Ok-Six c =
    let a = c.args in let arm = c.in-Ok-Six in
    handed a.kind a.coords.now a.out.now (coded_none arm.ensures.code tt refl)
    (kind-values Six a.coords.now (rw arm.field-0-is at arm.ensures.kind) c.values.ensures) c.hand.ensures

pub values-requires-in-Ok-Ten : goal.values-requires-in-Ok-Ten
values-requires-in-Ok-Ten c =
    let arm = c.in-Ok-Ten in
    kind-inside Ten c.args.coords.now (rw arm.field-0-is at arm.ensures.kind) (coded_none arm.ensures.code tt refl)

pub returns-in-Ok-Ten : goal.returns-in-Ok-Ten
unfolding control_values
returns-in-Ok-Ten c =
    let a = c.args in let arm = c.in-Ok-Ten in
    handed a.kind a.coords.now a.out.now (coded_none arm.ensures.code tt refl)
    (kind-values Ten a.coords.now (rw arm.field-0-is at arm.ensures.kind) c.values-in-Ok-Ten.ensures) c.hand-in-Ok-Ten.ensures

pub values-requires-in-Ok-Eight : goal.values-requires-in-Ok-Eight
values-requires-in-Ok-Eight c =
    let arm = c.in-Ok-Eight in
    kind-inside Eight c.args.coords.now (rw arm.field-0-is at arm.ensures.kind) (coded_none arm.ensures.code tt refl)

pub returns-in-Ok-Eight : goal.returns-in-Ok-Eight
unfolding control_values
returns-in-Ok-Eight c =
    let a = c.args in let arm = c.in-Ok-Eight in
    handed a.kind a.coords.now a.out.now (coded_none arm.ensures.code tt refl)
    (kind-values Eight a.coords.now (rw arm.field-0-is at arm.ensures.kind) c.values-in-Ok-Eight.ensures) c.hand-in-Ok-Eight.ensures

pub values-requires-in-Ok-Nine : goal.values-requires-in-Ok-Nine
values-requires-in-Ok-Nine c =
    let arm = c.in-Ok-Nine in
    kind-inside Nine c.args.coords.now (rw arm.field-0-is at arm.ensures.kind) (coded_none arm.ensures.code tt refl)

pub returns-in-Ok-Nine : goal.returns-in-Ok-Nine
unfolding control_values
returns-in-Ok-Nine c =
    let a = c.args in let arm = c.in-Ok-Nine in
    handed a.kind a.coords.now a.out.now (coded_none arm.ensures.code tt refl)
    (kind-values Nine a.coords.now (rw arm.field-0-is at arm.ensures.kind) c.values-in-Ok-Nine.ensures) c.hand-in-Ok-Nine.ensures
