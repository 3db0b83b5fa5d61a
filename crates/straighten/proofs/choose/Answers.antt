-- `straighten::choose` meets its contract: a refusal by the first fault, and else the first set in the order of trial that gives valid.
-- Assumes nothing.
use mathlib.Core.Path.{refl, ap}
use Rattle.std.proofs.lemmas.Result.{err_from_is_err_and}
use Rattle.faults.proofs.Refusals.{number-some}
use Rattle.element.proofs.Refusals.{coded_none}
use Rattle.straighten.specs.Calls.{given}
use Rattle.straighten.proofs.Answers.{six-accepted, refuses, refuses-22, succeeds}
use Rattle.straighten.proofs.choose.Goals as goal

pub returns-in_err-six_code : goal.returns-in_err-six_code
returns-in_err-six_code c =
    let a = c.args in
    let p = err_from_is_err_and c.from_residual.result c.from_residual.ensures.1 in
    rw (p.1, p.2) (refuses a.kind a.limit a.coords.now c.in_err-six_code.ensures (number-some _) refl)

pub first_set-requires : goal.first_set-requires
first_set-requires c = let a = c.args in (six-accepted a.kind a.limit a.coords.now (coded_none c.in_ok-six_code.ensures tt refl)).1

pub returns-in-None : goal.returns-in-None
returns-in-None c =
    let a = c.args in
    refuses-22 a.kind a.limit a.coords.now (coded_none c.in_ok-six_code.ensures tt refl) 8 c.in-None.ensures refl refl

pub returns-in-Some : goal.returns-in-Some
returns-in-Some c =
    let a = c.args in
    let f = c.in-Some.ensures in
    succeeds a.kind a.limit a.coords.now (coded_none c.in_ok-six_code.ensures tt refl) f.place f.first f.below (ap (given a.coords.now) f.set)
