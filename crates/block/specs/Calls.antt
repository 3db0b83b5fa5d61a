-- What the calls `check_block` and `fetch_record` answer (01, "Element block", "Codes and what they leave").
--   NoCount o r, Counted o l r == a refusal, and a success, of a check with the order o
--   ChecksBy o l r           == the one or the other
--   Checks l r               == the answer of `check_block`
--   as_checked r             == the answer that a check's result tells
--   fetched c n r            == the answer of a fetch with the code c, the record number n and the record r
--   NoRecord, IsRecord l k r == a refusal, and a success, of `fetch_record`
--   Fetches l k r            == the one or the other
--   as_fetched r             == the answer that a fetch's result tells
--   stored_record l k         == the record k of any bytes; where they end before it does, the record of zeros
--   NextSigned l a n k       == k is the first signed record from record a on, of n records, and n where there is none
--   NextOf l a n r           == the result r tells that record, and nothing where there is none
-- l are the bytes, r is the answer, k the record's number.
-- Definitions only.
use Rattle.std.specs.Prelude.{◌≡◌, cond, List, ◌⊎◌, ℕ, ◌+◌, ◌≤◌, ◌<◌, ltb, length, Option, Some, None, Result, Ok, Err}
use Rattle.element.specs.Refusals as order
use Rattle.element.specs.Refusals.{Codes, Accepted}
use Rattle.faults.specs.Refusal.{number_of}
use Rattle.record.specs.declared.Record.{Record}
use Rattle.record.specs.Record.{blank}
use Rattle.block.specs.declared.Checked.{Checked}
use Rattle.block.specs.declared.Fetched.{Fetched}
use Rattle.block.specs.declared.Refused.{Refused}
use Rattle.block.specs.Block.{count_of, place, record_at}
use Rattle.block.specs.Faults.{Fault, block_codes, fetch_codes}

-- ---- check
-- "A refusal returns the code, the record number for faults in a stored record (else 0), zero in all other fields"
pub record NoCount (o : Codes Fault) (r : Checked) : Type 0 where
  pub refused : order.Refused o (record { code = r.code; number = r.number })
  pub no_count : r.count ≡ 0

-- "check a block (answers the count)"
pub record Counted (o : Codes Fault) (l : List ℕ) (r : Checked) : Type 0 where
  pub accepted : Accepted o
  pub answer : r ≡ record { code = 0; number = 0; count = count_of l }

abbrev pub ChecksBy : Codes Fault → List ℕ → Checked → Type 0
ChecksBy o l r = NoCount o r ⊎ Counted o l r

abbrev pub Checks : List ℕ → Checked → Type 0
Checks l r = ChecksBy (block_codes l) l r

abbrev pub as_checked : Result ℕ Refused → Checked
as_checked (Ok n) = record { code = 0; number = 0; count = n }
as_checked (Err e) = record { code = number_of e.refusal; number = e.number; count = 0 }

-- ---- fetch
-- an answer with a code, a record number, and a record
abbrev pub fetched : ℕ → ℕ → Record → Fetched
fetched c n r =
    record {
      code = c;
      number = n;
      id = r.id;
      kind = r.kind;
      limit = r.limit;
      signed = r.signed;
      level = r.level;
      coords = r.coords;
    }

pub record NoRecord (l : List ℕ) (k : ℕ) (r : Fetched) : Type 0 where
  pub refused : order.Refused (fetch_codes l k) (record { code = r.code; number = r.number })
  pub no_record : r ≡ fetched r.code r.number blank

-- "fetch record k (answers id, kind, level limit and the nine pairs)"; "fetch answers both bytes too"
pub record IsRecord (l : List ℕ) (k : ℕ) (r : Fetched) : Type 0 where
  pub accepted : Accepted (fetch_codes l k)
  pub answer : r ≡ fetched 0 0 (record_at l k)

abbrev pub Fetches : List ℕ → ℕ → Fetched → Type 0
Fetches l k r = NoRecord l k r ⊎ IsRecord l k r

abbrev pub as_fetched : Result Record Refused → Fetched
as_fetched (Ok r) = fetched 0 0 r
as_fetched (Err e) = fetched (number_of e.refusal) e.number blank

-- ---- without a check
abbrev pub stored_record : List ℕ → ℕ → Record
stored_record l k = cond (ltb (length l) (place k + 80)) blank (record_at l k)

pub record NextSigned (l : List ℕ) (a n k : ℕ) : Type 0 where
  pub from : a ≤ k
  pub within : k ≤ n
  pub none_before : (j : ℕ) → a ≤ j → j < k → (record_at l j).signed ≡ 0
  pub signed : k < n → ¬ ((record_at l k).signed ≡ 0)

abbrev pub NextOf : List ℕ → ℕ → ℕ → Option ℕ → Type 0
NextOf l a n (Some k) = NextSigned l a n k × (k < n)
NextOf l a n None = NextSigned l a n n
