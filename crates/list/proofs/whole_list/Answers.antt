-- `list::whole_list` meets its contract: the one line of a refusal, or the first line and the lines of the records.
use Rattle.std.proofs.Common.{Ok, Err}
use mathlib.Core.Path.{refl, ap}
use Prim.Native.Nat.{ℕ}
use native.Mathlib.Omega.{arith}
use Rattle.faults.proofs.Refusals.{number-some}
use Rattle.text.proofs.Wrote.{wrote_as}
use Rattle.lines.specs.Words.{first_line, refused_line}
use Rattle.block.specs.Calls.{as_checked}
use Rattle.list.proofs.Steps.{whole-refused, whole-listed}
use Rattle.list.proofs.whole_list.Goals as goal

pub returns-in-Err : goal.returns-in-Err
returns-in-Err c =
    let e = c.in-Err.e in
    whole-refused _ (as_checked (Err e)) c.in-Err.ensures (number-some e.refusal) (omega (arith, c.number.ensures)) (omega arith)
    (wrote_as c.refused_line.ensures (ap (λ (n : ℕ). refused_line n e.number) c.number.ensures))

pub returns-in-Ok : goal.returns-in-Ok
returns-in-Ok c =
    whole-listed _ (as_checked (Ok c.in-Ok.count)) c.in-Ok.ensures refl
    (record { each = λ i. omega (arith, c.type_inv.bytes i) })
    (wrote_as c.first_line-at.ensures (ap (λ (v : ℕ). first_line v c.in-Ok.count) c.get_u16-version.ensures)) c.lines_to.ensures
