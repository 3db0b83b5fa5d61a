-- What the calls `write_sheet` and `check_sheet` answer, and what is left in the buffer lent to them (02, Ask 5: "For a valid element write a
-- proof sheet ..").
--   Shown k l xs b         == the bytes b are the sheet of a cutting of the element, no deeper than l, whose kept cells all pass
--   check_codes n l xs b    == the order of refusals of `check_sheet`
--   checked c              == its answer with the code c
--   NotShown, IsShown n l xs b r == a refusal, and an acceptance
--   ChecksSheet n l xs b r == the one or the other
--   LeastCutting s L t     == t has the fewest cells of all cuttings, no deeper than L, whose cells all pass
--   NotValid k l xs        == the element is not valid under the limit l
--   Short k l xs room      == the sheet of its least cutting is longer than the room
--   write_codes n l xs room == the order of refusals of `write_sheet`
--   written c m            == its answer with the code c and the length m
--   as_written r           == the answer that the result of a writer tells
--   NoSheet, HasSheet n l xs before r after == a refusal, and a success
--   WritesSheet n l xs before r after       == the one or the other
-- n is the number given as the kind, l the level limit, xs the coordinate list, b the sheet, r the answer, before and after the buffer's
-- content.
-- Definitions only.
use Rattle.std.specs.Prelude.{◌≡◌, List, ◌++◌, ◌⊎◌, ℕ, ◌≤◌, ◌<◌, ℤ, length, drop, Result, Ok, Err}
use Rattle.forms.specs.Cuttings.{Cutting, leaves, depth}
use Rattle.element.specs.Kinds.{Kind, kind_of}
use Rattle.element.specs.Refusals.{Codes, no_more, code, ◌then◌, Refused, Accepted, stored_codes}
use Rattle.faults.specs.declared.refusal.Refusal as fault
use Rattle.faults.specs.Refusal.{number_of}
use Rattle.judge.specs.Verdict.{Subject, Passing, ValidUnder}
use Rattle.judge.specs.Elements.{subject}
use Rattle.cuttings.specs.Bytes.{sheet_bytes}
use Rattle.sheet.specs.declared.CheckedSheet.{CheckedSheet}
use Rattle.sheet.specs.declared.WrittenSheet.{WrittenSheet}

-- ---- check: "accepts exactly when the bytes are this header and one complete cutting, nothing more, no deeper than the limit and
-- every kept cell passes"
pub record Shown (k : Kind) (l : ℕ) (xs : List ℤ) (b : List ℕ) : Type 0 where
  pub cutting : Cutting
  pub passing : Passing (subject k xs) cutting
  pub within : depth cutting ≤ l
  pub bytes : b ≡ sheet_bytes cutting

-- "the verdict's own first; .. the checker gives 20 for a sheet it doesn't accept"
abbrev pub check_codes : ℕ → ℕ → List ℤ → List ℕ → Codes ℕ
check_codes n l xs b = stored_codes n l xs then code 20 (¬ Shown (kind_of n) l xs b) no_more

-- "the record number for faults in a stored record (else 0)": no record is stored here
abbrev pub checked : ℕ → CheckedSheet
checked c = record { code = c; number = 0 }

pub record NotShown (n l : ℕ) (xs : List ℤ) (b : List ℕ) (r : CheckedSheet) : Type 0 where
  pub refused : Refused (check_codes n l xs b) r.code
  pub zeros : r ≡ checked r.code

pub record IsShown (n l : ℕ) (xs : List ℤ) (b : List ℕ) (r : CheckedSheet) : Type 0 where
  pub accepted : Accepted (stored_codes n l xs)
  pub shown : Shown (kind_of n) l xs b
  pub answer : r ≡ checked 0

abbrev pub ChecksSheet : ℕ → ℕ → List ℤ → List ℕ → CheckedSheet → Type 0
ChecksSheet n l xs b r = NotShown n l xs b r ⊎ IsShown n l xs b r

-- ---- write: "The writer gives the least cutting"
pub record LeastCutting (s : Subject) (L : ℕ) (t : Cutting) : Type 0 where
  pub passing : Passing s t
  pub within : depth t ≤ L
  pub fewest : (u : Cutting) → Passing s u → depth u ≤ L → leaves t ≤ leaves u

-- "20 when the element isn't valid, then 5 when room is short"
abbrev pub NotValid : Kind → ℕ → List ℤ → Type 0
NotValid k l xs = ¬ ValidUnder (subject k xs) l

abbrev pub Short : Kind → ℕ → List ℤ → ℕ → Type 0
Short k l xs room = (t : Cutting) × LeastCutting (subject k xs) l t × (room < length (sheet_bytes t))

abbrev pub write_codes : ℕ → ℕ → List ℤ → ℕ → Codes ℕ
write_codes n l xs room =
    stored_codes n l xs then code 20 (NotValid (kind_of n) l xs) (code 5 (Short (kind_of n) l xs room) no_more)

abbrev pub written : ℕ → ℕ → WrittenSheet
written c m = record { code = c; number = 0; length = m }

abbrev pub as_written : Result ℕ fault.Refusal → WrittenSheet
as_written (Ok m) = written 0 m
as_written (Err e) = written (number_of e) 0

-- "A refusal returns the code, .. zero in all other fields, and changes no lent buffer"
pub record NoSheet (n l : ℕ) (xs : List ℤ) (before : List ℕ) (r : WrittenSheet) (after : List ℕ) : Type 0 where
  pub refused : Refused (write_codes n l xs (length before)) r.code
  pub zeros : r ≡ written r.code 0
  pub untouched : after ≡ before

-- the buffer begins with the sheet, whose length is the answer, "the rest of the buffer stays"
pub record HasSheet (n l : ℕ) (xs : List ℤ) (before : List ℕ) (r : WrittenSheet) (after : List ℕ) : Type 0 where
  pub accepted : Accepted (write_codes n l xs (length before))
  pub cutting : Cutting
  pub least : LeastCutting (subject (kind_of n) xs) l cutting
  pub answer : r ≡ written 0 (length (sheet_bytes cutting))
  pub filled : after ≡ sheet_bytes cutting ++ drop (length (sheet_bytes cutting)) before

abbrev pub WritesSheet : ℕ → ℕ → List ℤ → List ℕ → WrittenSheet → List ℕ → Type 0
WritesSheet n l xs before r after = NoSheet n l xs before r after ⊎ HasSheet n l xs before r after
