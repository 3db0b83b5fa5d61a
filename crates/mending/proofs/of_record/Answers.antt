-- `mending::of_record` meets its contract: by the kind, by the sign, and else by what `straighten` answers. Assumes nothing.
use mathlib.Core.Path.{◌≡◌, refl, sym, ◌∙◌, ap, subst}
use mathlib.Core.List.{List}
use Prim.Native.Nat.{ℕ, ◌*◌}
use lib.IntN.{ℤ}
use lib.ListN.{take}
use Rattle.faults.specs.Refusal.{number_of}
use Rattle.faults.proofs.Refusals.{number-some}
use Rattle.middles.specs.Sets.{none}
use Rattle.straighten.specs.declared.Straightened.{Straightened}
use Rattle.straighten.specs.Calls.{given, refusal, StraightenOf}
use Rattle.record.specs.declared.Record.{Record}
use Rattle.record.specs.Record.{used}
use Rattle.mending.specs.Calls.{answer_of}
use Rattle.mending.proofs.Answers.{other-kind, signed-valid, straight-refused, straight-told}
use Rattle.mending.proofs.of_record.Goals as goal

-- the first twelve numbers of a triangle's record are its coordinates
used-twelve : (r : Record) → r.kind ≡ 6 → take 12 r.coords ≡ used r
used-twelve r e = ap (λ (n : ℕ). take (2 * n) r.coords) (sym e)

-- what `straighten` answered is its answer to the record's coordinates
answered : (r : Record) (t : Straightened) → r.kind ≡ 6 → StraightenOf 6 r.limit (take 12 r.coords) t → StraightenOf 6 r.limit (used r) t
answered r t e p = subst (λ (xs : List ℤ). StraightenOf 6 r.limit xs t) (used-twelve r e) p

pub returns-then-r-ne6 : goal.returns-then-r-ne6
returns-then-r-ne6 c = other-kind c.args.r c.args.k c.if-r-ne6.true refl

pub returns-then-r-eq1 : goal.returns-then-r-eq1
returns-then-r-eq1 c =
    let a = c.args in let r = a.r in
    signed-valid r a.k c.if-r-ne6.false (c.requires.taken c.if-r-ne6.false) c.if-r-eq1.true
    (ap (answer_of 0 0)
    (c.told.ensures ∙ ap (given (take 12 r.coords)) c.set.ensures ∙ ap (λ (xs : List ℤ). given xs none) (used-twelve r c.if-r-ne6.false)))

pub returns-in-Err : goal.returns-in-Err
returns-in-Err c =
    let a = c.args in let r = a.r in
    let e = c.in-Err.refusal in
    straight-refused r a.k c.if-r-ne6.false (c.requires.taken c.if-r-ne6.false) c.if-r-eq1.false
    (answered r (refusal (number_of e)) c.if-r-ne6.false c.in-Err.ensures) (number-some e) refl

pub returns-in-Ok : goal.returns-in-Ok
returns-in-Ok c =
    let a = c.args in let r = a.r in
    straight-told r a.k c.if-r-ne6.false (c.requires.taken c.if-r-ne6.false) c.if-r-eq1.false
    (answered r (given (take 12 r.coords) c.in-Ok.s) c.if-r-ne6.false c.in-Ok.ensures) refl (ap (answer_of 0 0) c.told-in-Ok.ensures)
