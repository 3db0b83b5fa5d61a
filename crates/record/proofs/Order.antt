-- The order of a stored record's codes, where more than one fault is there.
--   range-first   : 4, whatever the corners and the id
--   corners-first : 21, whatever the id
--   passed-inside, passed_apart, passed-above : and what a record without a fault has: nodes within the limit, corners that differ, an id
--                   that may stand there
-- Assumes nothing.
use mathlib.Core.Path.{refl}
use mathlib.Core.List.{List}
use mathlib.Core.Logic.{inl, inr}
use Prim.Native.Nat.{ℕ}
use Rattle.element.specs.Kinds.{NotStored, kind_of}
use Rattle.element.specs.Corners.{Collapsed}
use Rattle.element.specs.Refusals.{Refused, Accepted, Outside}
use Rattle.record.specs.declared.Record.{Record}
use Rattle.record.specs.Record.{used, read_record}
use Rattle.record.specs.Faults.{TooHigh, NotZero, TooLow, record_codes}

module _ (v : ℕ) (l : List ℕ) (at low : ℕ) where
  abbrev r : Record
  r = read_record l at

  module _ (a : ¬ NotStored r.kind) (b : ¬ TooHigh v r) (c : ¬ NotZero v r) where
    pub range-first : Outside (kind_of r.kind) (used r) → Refused (record_codes v l at low) 4
    range-first h = inr (a, inr (b, inr (c, inl (h, refl))))

    pub corners-first : ¬ Outside (kind_of r.kind) (used r) → Collapsed (kind_of r.kind) (used r) → Refused (record_codes v l at low) 21
    corners-first d e = inr (a, inr (b, inr (c, inr (d, inl (e, refl)))))

  -- ---- no fault
  pub passed-inside : Accepted (record_codes v l at low) → ¬ Outside (kind_of r.kind) (used r)
  passed-inside a = a.1.1.1.0

  pub passed_apart : Accepted (record_codes v l at low) → ¬ Collapsed (kind_of r.kind) (used r)
  passed_apart a = a.1.1.1.1.0

  pub passed-above : Accepted (record_codes v l at low) → ¬ TooLow low r.id
  passed-above a = a.1.1.1.1.1.0
