-- A reader that holds the bytes of a block and a place in them (01, "Element block": "Opening the reader gives the check's codes; each
-- step answers what fetch gives for the next record, and after the last one the end").
--   over_at at       == the end, at the place `at`
--   found_at l at    == the record that begins at the place `at`, and the place behind it
--   step_at l at     == what a step finds, for all bytes and every place: a record where 80 bytes are left, else the end
--   Steps l at next after == a step finds next, and the reader's place is `after`
--   NoWalk, Begins l c at == a refused opening, and one that is accepted: the check's answer, and the reader's place
--   Opens l c at    == the one or the other
-- Found is a struct: a record or the end, and where the next step begins.
-- Definitions only.
use Rattle.std.specs.Prelude.{◌≡◌, cond, List, ◌⊎◌, ℕ, ◌+◌, ltb, length, Option, Some, None}
use Rattle.record.specs.declared.Record.{Record}
use Rattle.record.specs.Record.{read_record}
use Rattle.block.specs.declared.Checked.{Checked}
use Rattle.block.specs.Block.{place}
use Rattle.block.specs.Faults.{block_codes}
use Rattle.block.specs.Calls.{NoCount, Counted}
use Rattle.reader.specs.declared.Found.{Found}

abbrev pub over_at : ℕ → Found
over_at at = record { next = None; at = at }

abbrev pub found_at : List ℕ → ℕ → Found
found_at l at = record { next = Some (read_record l at); at = at + 80 }

abbrev pub step_at : List ℕ → ℕ → Found
step_at l at = cond (ltb (length l) (at + 80)) (over_at at) (found_at l at)

pub record Steps (l : List ℕ) (at : ℕ) (next : Option Record) (after : ℕ) : Type 0 where
  pub found : next ≡ (step_at l at).next
  pub moved : after ≡ (step_at l at).at

-- the reader of a refused block stands behind all bytes, so that its step is the end
pub record NoWalk (l : List ℕ) (c : Checked) (at : ℕ) : Type 0 where
  pub refused : NoCount (block_codes l) c
  pub behind : at ≡ length l

pub record Begins (l : List ℕ) (c : Checked) (at : ℕ) : Type 0 where
  pub counted : Counted (block_codes l) l c
  pub first : at ≡ place 0

abbrev pub Opens : List ℕ → Checked → ℕ → Type 0
Opens l c at = NoWalk l c at ⊎ Begins l c at
