-- `control::solver_bounds` meets its contract: kind by kind.
use Rattle.std.proofs.Common.{refl}
use Rattle.element.specs.Control.{control_values}
use Rattle.element.proofs.Refusals.{coded_none}
use Rattle.faults.specs.declared.kind.Kind.TheVariants.{Six, Eight, Nine, Ten}
use Rattle.control.proofs.Answers.{kind-inside, kind-values, values-small, bounds-told}
use Rattle.control.proofs.solver_bounds.Goals as goal

pub values-requires : goal.values-requires
values-requires c =
    kind-inside Six c.args.coords.now (rw c.in-Six.is at c.in_ok-element_code.ensures.kind) (coded_none c.in_ok-element_code.ensures.code tt refl)

pub bounds_of-requires-clause-small : goal.bounds_of-requires-clause-small
unfolding control_values
bounds_of-requires-clause-small c =
    let a = c.args in
    values-small a.kind a.coords.now (coded_none c.in_ok-element_code.ensures.code tt refl)
    (kind-values Six a.coords.now (rw c.in-Six.is at c.in_ok-element_code.ensures.kind) c.values.ensures)

pub returns-in-Six : goal.returns-in-Six
unfolding control_values
returns-in-Six c =
    let a = c.args in
    bounds-told a.kind a.coords.now (coded_none c.in_ok-element_code.ensures.code tt refl)
    (kind-values Six a.coords.now (rw c.in-Six.is at c.in_ok-element_code.ensures.kind) c.values.ensures) c.bounds_of.ensures

pub values-requires-in-Ten : goal.values-requires-in-Ten
values-requires-in-Ten c =
    kind-inside Ten c.args.coords.now (rw c.in-Ten.is at c.in_ok-element_code.ensures.kind) (coded_none c.in_ok-element_code.ensures.code tt refl)

pub bounds_of-requires-in-Ten-clause-small : goal.bounds_of-requires-in-Ten-clause-small
unfolding control_values
bounds_of-requires-in-Ten-clause-small c =
    let a = c.args in
    values-small a.kind a.coords.now (coded_none c.in_ok-element_code.ensures.code tt refl)
    (kind-values Ten a.coords.now (rw c.in-Ten.is at c.in_ok-element_code.ensures.kind) c.values-in-Ten.ensures)

pub returns-in-Ten : goal.returns-in-Ten
unfolding control_values
returns-in-Ten c =
    let a = c.args in
    bounds-told a.kind a.coords.now (coded_none c.in_ok-element_code.ensures.code tt refl)
    (kind-values Ten a.coords.now (rw c.in-Ten.is at c.in_ok-element_code.ensures.kind) c.values-in-Ten.ensures) c.bounds_of-in-Ten.ensures

pub values-requires-in-Eight : goal.values-requires-in-Eight
values-requires-in-Eight c =
    kind-inside Eight c.args.coords.now (rw c.in-Eight.is at c.in_ok-element_code.ensures.kind) (coded_none c.in_ok-element_code.ensures.code tt refl)

pub bounds_of-requires-in-Eight-clause-small : goal.bounds_of-requires-in-Eight-clause-small
unfolding control_values
bounds_of-requires-in-Eight-clause-small c =
    let a = c.args in
    values-small a.kind a.coords.now (coded_none c.in_ok-element_code.ensures.code tt refl)
    (kind-values Eight a.coords.now (rw c.in-Eight.is at c.in_ok-element_code.ensures.kind) c.values-in-Eight.ensures)

pub returns-in-Eight : goal.returns-in-Eight
unfolding control_values
returns-in-Eight c =
    let a = c.args in
    bounds-told a.kind a.coords.now (coded_none c.in_ok-element_code.ensures.code tt refl)
    (kind-values Eight a.coords.now (rw c.in-Eight.is at c.in_ok-element_code.ensures.kind) c.values-in-Eight.ensures) c.bounds_of-in-Eight.ensures

pub values-requires-in-Nine : goal.values-requires-in-Nine
values-requires-in-Nine c =
    kind-inside Nine c.args.coords.now (rw c.in-Nine.is at c.in_ok-element_code.ensures.kind) (coded_none c.in_ok-element_code.ensures.code tt refl)

pub bounds_of-requires-in-Nine-clause-small : goal.bounds_of-requires-in-Nine-clause-small
unfolding control_values
bounds_of-requires-in-Nine-clause-small c =
    let a = c.args in
    values-small a.kind a.coords.now (coded_none c.in_ok-element_code.ensures.code tt refl)
    (kind-values Nine a.coords.now (rw c.in-Nine.is at c.in_ok-element_code.ensures.kind) c.values-in-Nine.ensures)

pub returns-in-Nine : goal.returns-in-Nine
unfolding control_values
returns-in-Nine c =
    let a = c.args in
    bounds-told a.kind a.coords.now (coded_none c.in_ok-element_code.ensures.code tt refl)
    (kind-values Nine a.coords.now (rw c.in-Nine.is at c.in_ok-element_code.ensures.kind) c.values-in-Nine.ensures) c.bounds_of-in-Nine.ensures
