-- What the calls `start_block` and `append_record` answer, and what they leave in the buffer lent to them (01, "Element block", "Codes
-- and what they leave").
--   NotStarted, IsStarted b r a == a refusal, and a success, of `start_block`
--   Starts b r a     == the one or the other
--   as_appended r    == the answer that the result of a call tells
--   NotAllowed, IsAllowed, Allows o l c == whether the order o over the block l has a fault, and the block's count
--   with_count b n    == the buffer with the count n
--   NotAppended, IsAppended b used id n level xs r a == a refusal, and a success, of `append_record`
--   Appends b used id n level xs r a == the one or the other
--   Built b used rs  == b is a buffer after a start and a run of accepted appends of the records rs, of which `used` bytes are used
-- b and a are the buffer's content before and after, r is the answer.
-- Definitions only.
use Rattle.std.specs.Prelude.{◌≡◌, List, [], ◌∷◌, ◌++◌, ◌⊎◌, ℕ, suc, ◌+◌, ◌^◌, ◌<◌, ℤ, take, drop, Result, Ok, Err}
use Rattle.element.specs.Refusals.{Codes, Refused, Accepted}
use Rattle.endian.specs.Numbers.{bytes, over}
use Rattle.faults.specs.Refusal.{number_of}
use Rattle.record.specs.declared.Record.{Record}
use Rattle.record.specs.Record.{record_bytes}
use Rattle.block.specs.declared.Checked.{Checked}
use Rattle.block.specs.declared.Refused as answer
use Rattle.block.specs.Block.{header, count_of}
use Rattle.block.specs.Faults.{Fault}
use Rattle.append.specs.declared.Appended.{Appended}
use Rattle.append.specs.Append.{new_record, append_codes, start_codes}

abbrev pub as_appended : Result ℕ answer.Refused → Appended
as_appended (Ok n) = record { code = 0; number = 0; used = n }
as_appended (Err e) = record { code = number_of e.refusal; number = e.number; used = 0 }

-- ---- start
-- "A refusal returns the code, .. zero in all other fields, and changes no lent buffer"
pub record NotStarted (b : List ℕ) (r : Appended) (a : List ℕ) : Type 0 where
  pub refused : Refused (start_codes b) r.code
  pub zeros : r ≡ record { code = r.code; number = 0; used = 0 }
  pub untouched : a ≡ b

-- "start an empty block in a buffer (answers 9)"; "only .. the 9 header bytes of a new block .. change; the rest of the buffer stays";
-- 02, Ask 4: "starting still gives" version 1
pub record IsStarted (b : List ℕ) (r : Appended) (a : List ℕ) : Type 0 where
  pub accepted : Accepted (start_codes b)
  pub answer : r ≡ record { code = 0; number = 0; used = 9 }
  pub written : a ≡ header 1 0 ++ drop 9 b

abbrev pub Starts : List ℕ → Appended → List ℕ → Type 0
Starts b r a = NotStarted b r a ⊎ IsStarted b r a

-- ---- append
pub record NotAllowed (o : Codes Fault) (r : Checked) : Type 0 where
  pub refused : Refused o (record { code = r.code; number = r.number })
  pub some : ¬ (r.code ≡ 0)

pub record IsAllowed (o : Codes Fault) (l : List ℕ) (r : Checked) : Type 0 where
  pub accepted : Accepted o
  pub answer : r ≡ record { code = 0; number = 0; count = count_of l }

abbrev pub Allows : Codes Fault → List ℕ → Checked → Type 0
Allows o l r = NotAllowed o r ⊎ IsAllowed o l r

-- the count stands behind mark and version
abbrev pub with_count : List ℕ → ℕ → List ℕ
with_count b n = over b 5 (bytes 4 n)

pub record NotAppended (b : List ℕ) (used id n level : ℕ) (xs : List ℤ) (r : Appended) (a : List ℕ) : Type 0 where
  pub refused : Refused (append_codes b used id n level xs) (record { code = r.code; number = r.number })
  pub no_used : r.used ≡ 0
  pub untouched : a ≡ b

-- "append a record to the block in the first `used` bytes (answers the new `used`)"; "only .. the appended record and the count change";
-- so 02, Ask 4: "append keeps the block's version"
pub record IsAppended (b : List ℕ) (used id n level : ℕ) (xs : List ℤ) (r : Appended) (a : List ℕ) : Type 0 where
  pub accepted : Accepted (append_codes b used id n level xs)
  pub answer : r ≡ record { code = 0; number = 0; used = used + 80 }
  pub written : a ≡ with_count (over b used (record_bytes (new_record id n level xs))) (suc (count_of (take used b)))

abbrev pub Appends : List ℕ → ℕ → ℕ → ℕ → ℕ → List ℤ → Appended → List ℕ → Type 0
Appends b used id n level xs r a = NotAppended b used id n level xs r a ⊎ IsAppended b used id n level xs r a

-- ---- a run of calls
pub data Built : List ℕ → ℕ → List Record → Type 0 where
  begun : (b a : List ℕ) (r : Appended) → Starts b r a → r.code ≡ 0 → Built a r.used []
  grown : (b : List ℕ) (used : ℕ) (rs : List Record) (id n level : ℕ) (xs : List ℤ) (r : Appended) (a : List ℕ)
      → Built b used rs
      → id < 256 ^ 4
      → Appends b used id n level xs r a
      → r.code ≡ 0
      → Built a r.used (rs ++ (new_record id n level xs ∷ []))
