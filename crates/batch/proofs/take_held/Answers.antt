-- `batch::take_held` meets its contract: what is refused changes nothing, and what passes is written behind what was taken.
use mathlib.Core.Path.{refl, ap, ◌∙◌}
use mathlib.Core.List.{List}
use Prim.Native.Nat.{◌*◌}
use lib.IntN.{ℤ}
use Rattle.std.proofs.lemmas.Result.{err_from_is_err_and}
use Rattle.faults.proofs.Refusals.{number-some}
use Rattle.element.specs.Refusals.{Accepted}
use Rattle.element.proofs.Refusals.{coded-some, coded_none}
use Rattle.endian.specs.Numbers.{over}
use Rattle.record.specs.Record.{record_bytes}
use Rattle.append.specs.Series.{Given, next_codes}
use Rattle.batch.proofs.Takes.{taken-halted, taken-moved}
use Rattle.batch.proofs.take_held.Goals as goal

pub returns-in_err-next_code : goal.returns-in_err-next_code
returns-in_err-next_code c =
    let a = c.args in
    let g : Given = record { id = a.id; kind = a.kind; limit = a.limit; coords = a.coords.now } in
    let p = err_from_is_err_and c.from_residual.result c.from_residual.ensures.1 in
    rw (p.1, p.2) (taken-halted a.s g _ _ (coded-some {o = next_codes a.s.low a.s.count a.s.room g} c.in_err-next_code.ensures (number-some _)))

pub returns : goal.returns
returns c =
    let a = c.args in
    let one : Given = record { id = a.id; kind = a.kind; limit = a.limit; coords = a.coords.now } in
    let tried : Accepted (next_codes a.s.low a.s.count a.s.room one) = coded_none c.in_ok-next_code.ensures tt refl in
    taken-moved a.s one c.one_more.result _ _ tried c.one_more.ensures
    (c.put_record.ensures
    ∙ ap (λ (zs : List ℤ). over a.out.now (80 * a.s.taken) (record_bytes (record { id = a.id; kind = a.kind; limit = a.limit; signed = 0; level = 0; coords = zs })))
    c.pad-zs.ensures)
