-- `record::fault` meets its contract: fault by fault.
use mathlib.Core.List.{List}
use mathlib.Core.Logic.{inr, ⊎_elim}
use mathlib.Core.Path.{◌≡◌, subst}
use Prim.Native.Nat.{ℕ, ◌≤◌, ◌<◌}
use native.Mathlib.Nat as N
use Rattle.std.proofs.lemmas.Result.{err_from_is_err_and}
use Rattle.algebra.specs.Within.{Each}
use Rattle.element.specs.Kinds.{NotStored, kind_of, greatest_level}
use Rattle.element.specs.Refusals.{Codes, no_more, code, Coded, node_codes}
use Rattle.element.proofs.Refusals.{coded-here, coded-past, coded-end, coded-first, coded-then}
use Rattle.element.proofs.Ranges.{each-inside}
use Rattle.faults.proofs.Refusals.{number-some}
use Rattle.record.specs.declared.Record.{Record}
use Rattle.record.specs.Record.{used, unused, read_record}
use Rattle.record.specs.Faults.{TooHigh, NotZero, TooLow, sign_codes, record_codes}
use Rattle.record.proofs.Refusals.{coded-ok}
use Rattle.record.proofs.fault.Goals as goal

not-above : {m n : ℕ} → n ≤ m → ¬ (m < n)
not-above h l = N.not-le_of_lt l h

-- the order behind the unused pairs, and behind the two bytes
abbrev behind_pairs : Record → ℕ → Codes ℕ
behind_pairs r low = node_codes (kind_of r.kind) (used r) (code 10 (TooLow low r.id) no_more)

abbrev behind_signs : ℕ → Record → ℕ → Codes ℕ
behind_signs v r low = code 9 (NotZero v r) (behind_pairs r low)

-- a record that was read, with a kind, a level limit and two bytes that are right
module _ (v low : ℕ) (l : List ℕ) (at : ℕ) (r : Record) (e : r ≡ read_record l at) (k : ¬ NotStored r.kind)
    (m : r.limit ≤ greatest_level (kind_of r.kind)) (s : Coded (sign_codes v (kind_of r.kind) r.signed r.level) 0) where
  past-signs : {c : ℕ} → Coded (behind_signs v r low) c → Coded (record_codes v l at low) c
  past-signs {c} q =
      subst (λ (r : Record). Coded (code 1 (NotStored r.kind) (code 2 (TooHigh v r) (behind_signs v r low))) c) e
      (coded-past k (coded-past (⊎_elim (not-above m) (coded-ok s tt).0) q))

  -- and zeros for the unused pairs
  past-pairs : {c : ℕ} → Each 0 (unused r) → Coded (behind_pairs r low) c → Coded (record_codes v l at low) c
  past-pairs z q = past-signs (coded-past (⊎_elim (coded-ok s tt).1.0 (each-inside z)) q)

pub returns-then-not-unused_zero : goal.returns-then-not-unused_zero
returns-then-not-unused_zero c =
    past-signs c.args.version c.args.low c.args.s.now c.args.at c.read_record-r.result c.read_record-r.ensures (c.stored.ensures.yes c.if-not-stored.false)
    (rw c.greatest_level.ensures at c.if-greatest_level-r.false) c.in_ok-sign_code.ensures
    (coded-here (inr (c.unused_zero.ensures.no c.if-not-unused_zero.true)))

pub returns-in_err-used_code : goal.returns-in_err-used_code
returns-in_err-used_code c =
    let r = c.read_record-r.result in
    let p = err_from_is_err_and c.from_residual-in_err-used_code.result c.from_residual-in_err-used_code.ensures.1 in
    rw (p.1, p.2)
    (past-pairs c.args.version c.args.low c.args.s.now c.args.at r c.read_record-r.ensures (c.stored.ensures.yes c.if-not-stored.false)
    (rw c.greatest_level.ensures at c.if-greatest_level-r.false) c.in_ok-sign_code.ensures (c.unused_zero.ensures.yes c.if-not-unused_zero.false)
    (coded-first (node_codes (kind_of r.kind) (used r) no_more) _ _ c.in_err-used_code.ensures (number-some _)))

pub returns-then-from-low : goal.returns-then-from-low
returns-then-from-low c =
    let r = c.read_record-r.result in
    past-pairs c.args.version c.args.low c.args.s.now c.args.at r c.read_record-r.ensures (c.stored.ensures.yes c.if-not-stored.false)
    (rw c.greatest_level.ensures at c.if-greatest_level-r.false) c.in_ok-sign_code.ensures (c.unused_zero.ensures.yes c.if-not-unused_zero.false)
    (coded-then (node_codes (kind_of r.kind) (used r) no_more) _ _ (coded-ok c.in_ok-used_code.ensures tt)
    (coded-here (rw c.from.ensures at c.if-from-low.true)))

pub returns : goal.returns
returns c =
    let r = c.read_record-r.result in
    past-pairs c.args.version c.args.low c.args.s.now c.args.at r c.read_record-r.ensures (c.stored.ensures.yes c.if-not-stored.false)
    (rw c.greatest_level.ensures at c.if-greatest_level-r.false) c.in_ok-sign_code.ensures (c.unused_zero.ensures.yes c.if-not-unused_zero.false)
    (coded-then (node_codes (kind_of r.kind) (used r) no_more) _ _ (coded-ok c.in_ok-used_code.ensures tt)
    (coded-past (not-above (rw c.from.ensures at c.if-from-low.false)) coded-end))
