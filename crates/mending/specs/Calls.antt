-- What the call `straighten_record` answers, and what it leaves in the block (02, Ask 12).
--   answer_of c n t  == its fields: the code c, the record number n, and what t tells of the middle nodes
--   as_mended r      == the answer that the result of a call tells
--   NotMended, IsMended l k r a == a refusal, and a success
--   Mends l k r a   == the one or the other
-- l and a are the block's bytes before and after, k is the record's number, r the answer. Definitions only.
use Rattle.std.specs.Prelude.{◌≡◌, List, ◌⊎◌, ℕ, Result, Ok, Err}
use Rattle.element.specs.Refusals.{Refused, Accepted}
use Rattle.faults.specs.Refusal.{number_of}
use Rattle.middles.specs.declared.Replaced.{Replaced}
use Rattle.straighten.specs.declared.Straightened.{Straightened}
use Rattle.straighten.specs.Calls.{given, refusal}
use Rattle.record.specs.Record.{used}
use Rattle.block.specs.Block.{record_at}
use Rattle.block.specs.declared.Refused as answer
use Rattle.mending.specs.declared.Mended.{Mended}
use Rattle.mending.specs.Orders.{mend_codes, ChosenFor}
use Rattle.mending.specs.Changes.{mended_bytes}

-- what `straighten` tells of the middle nodes
abbrev pub answer_of : ℕ → ℕ → Straightened → Mended
answer_of c n t = record { code = c; number = n; m01 = t.m01; m12 = t.m12; m02 = t.m02 }

abbrev pub as_mended : Result Straightened answer.Refused → Mended
as_mended (Ok t) = answer_of 0 0 t
as_mended (Err e) = answer_of (number_of e.refusal) e.number (refusal (number_of e.refusal))

-- "A refusal returns the code, the record number for faults in a stored record (else 0), zero in all other fields, and changes no lent
-- buffer"
pub record NotMended (l : List ℕ) (k : ℕ) (r : Mended) (a : List ℕ) : Type 0 where
  pub refused : Refused (mend_codes l k) (record { code = r.code; number = r.number })
  pub zeros : r ≡ answer_of r.code r.number (refusal r.code)
  pub untouched : a ≡ l

pub record IsMended (l : List ℕ) (k : ℕ) (r : Mended) (a : List ℕ) : Type 0 where
  pub accepted : Accepted (mend_codes l k)
  pub set : Replaced
  pub chosen : ChosenFor (record_at l k) set
  pub told : r ≡ answer_of 0 0 (given (used (record_at l k)) set)
  pub written : a ≡ mended_bytes l k set

abbrev pub Mends : List ℕ → ℕ → Mended → List ℕ → Type 0
Mends l k r a = NotMended l k r a ⊎ IsMended l k r a
