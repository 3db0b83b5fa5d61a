-- `reader::fetch_by_steps` meets its contract: the loop keeps that the next step begins at record j.
use mathlib.Core.Logic.{inr}
use mathlib.Core.Path.{◌≡◌, sym, ap, ◌∙◌}
use Prim.Native.Nat.{◌+◌, ◌*◌}
use native.Mathlib.Omega.{arith}
use lib.ListN.{length}
use Rattle.faults.specs.declared.refusal.Refusal.TheVariants.{Absent}
use Rattle.record.specs.declared.Record.{Record}
use Rattle.record.specs.Record.{read_record}
use Rattle.block.specs.Block.{count_of, place}
use Rattle.block.specs.Calls.{fetched}
use Rattle.block.proofs.Header.{header-size}
use Rattle.block.proofs.Walk.{accepted-header}
use Rattle.block.proofs.Answers.{fetches-told, fetch-accepted}
use Rattle.reader.specs.declared.Found.{Found}
use Rattle.reader.proofs.Walked.{found-test, over-beyond}
use Rattle.reader.proofs.fetch_by_steps.Goals as goal

pub returns-in_default : goal.returns-in_default
returns-in_default c =
    let l = c.args.bytes.now in
    rw c.from.ensures
    (fetches-told l c.args.k (record { refusal = Absent; number = 0 })
    (over-beyond l c.loop-j.at c.loop-j.j c.args.k c.requires.0 c.loop-j.invariant.1 (omega arith)
    (ap (λ (f : Found). f.next) (sym c.step_at-f.ensures) ∙ c.in_default.is)))

pub returns-in-None : goal.returns-in-None
returns-in-None c =
    let l = c.args.bytes.now in
    rw c.from-in-None.ensures
    (fetches-told l c.args.k (record { refusal = Absent; number = 0 })
    (over-beyond l c.loop-j.at c.loop-j.j c.args.k c.requires.0 c.loop-j.invariant.1 c.loop-j.auto.j-end
    (ap (λ (f : Found). f.next) (sym c.step_at-f-2.ensures) ∙ c.in-None.is)))

pub returns-in-Some-next : goal.returns-in-Some-next
returns-in-Some-next c =
    let l = c.args.bytes.now in
    let t = found-test l c.loop-j.at c.in-Some-next.r (sym (ap (λ (f : Found). f.next) c.step_at-f-2.ensures) ∙ c.in-Some-next.is) in
    let n : c.loop-j.at ≡ place c.args.k = omega (arith, c.loop-j.invariant.1, c.loop-j-test.false) in
    let size : length l ≡ 9 + 80 * count_of l = header-size l (accepted-header l c.requires.0) in
    inr (record {
      accepted = fetch-accepted l c.args.k c.requires.0 (omega (arith, t.0, n, size));
      answer = ap (λ (r : Record). fetched 0 0 r) (t.1 ∙ ap (read_record l) n);
    })
