-- `floor_code` meets its contract: fault by fault. Assumes nothing.
use mathlib.Core.Path.{refl}
use Rattle.std.proofs.lemmas.Result.{err_from_is_err_and}
use Rattle.element.specs.Refusals.{no_more, element_codes}
use Rattle.element.proofs.Refusals.{coded_none, coded-past, coded-first}
use Rattle.faults.proofs.Refusals.{number-some}
use Rattle.floor.proofs.Parts.{not-above, small}
use Rattle.floor.proofs.floor_code.Goals as goal

pub returns-in_err-list_code : goal.returns-in_err-list_code
returns-in_err-list_code c =
    let a = c.args in
    let p = err_from_is_err_and c.from_residual.result c.from_residual.ensures.1 in
    rw (p.1, p.2, c.if-kind-ne6.false)
    (coded-past (λ f. f refl) (coded-past (not-above c.if-limit-gt7.false)
    (coded-first (element_codes 6 a.coords.now no_more) _ _ c.in_err-list_code.ensures (number-some _))))

pub straight-requires : goal.straight-requires
straight-requires c =
    let a = c.args in
    let none = coded_none c.in_ok-list_code.ensures tt refl in
    small 6 a.coords.now refl none.0 none.1.0
