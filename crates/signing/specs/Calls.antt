-- What the calls `sign_record`, `to_version_2` and `to_version_1` answer, and what they leave in the block (02, Ask 4: "it judges it at its
-- stored limit (one signed already at its signed level, so nothing changes) and writes the verdict and its level into those bytes, nothing
-- else"; "All of version 1 converts to version 2 and back, the same bytes returning").
--   as_changed r          == the answer that the result of a call tells
--   NotChanged o l r a    == a refusal: the block stays
--   IsConverted o v l r a == a success of a conversion to the version v: the version's bytes change, and nothing else
--   Newer l r a, Older l r a == what `to_version_2` and `to_version_1` do
--   IsSigned l k r a      == a success of `sign_record`: the two bytes of record k change, and nothing else
--   Signs l k r a         == what `sign_record` does
-- o is the order of codes; l and a are the block's bytes before and after, r is the answer.
-- Definitions only.
use Rattle.std.specs.Prelude.{◌≡◌, List, ◌⊎◌, ℕ, Result, Ok, Err}
use Rattle.element.specs.Refusals.{Codes, Refused, Accepted}
use Rattle.faults.specs.Refusal.{number_of}
use Rattle.judge.specs.Verdict.{Answer, Judges}
use Rattle.signs.specs.Signs.{element, sign_of, limit_of}
use Rattle.block.specs.Block.{record_at}
use Rattle.block.specs.Faults.{Fault}
use Rattle.block.specs.Changes.{with_version, with_sign}
use Rattle.block.specs.declared.Refused as answer
use Rattle.signing.specs.declared.Changed.{Changed}
use Rattle.signing.specs.Orders.{newer_codes, older_codes, sign_codes}

abbrev pub as_changed : Result Unit answer.Refused → Changed
as_changed (Ok _) = record { code = 0; number = 0 }
as_changed (Err e) = record { code = number_of e.refusal; number = e.number }

-- "A refusal returns the code, the record number for faults in a stored record (else 0) .. and changes no lent buffer"
pub record NotChanged (o : Codes Fault) (l : List ℕ) (r : Changed) (a : List ℕ) : Type 0 where
  pub refused : Refused o (record { code = r.code; number = r.number })
  pub untouched : a ≡ l

-- ---- another version
pub record IsConverted (o : Codes Fault) (v : ℕ) (l : List ℕ) (r : Changed) (a : List ℕ) : Type 0 where
  pub accepted : Accepted o
  pub answer : r ≡ record { code = 0; number = 0 }
  pub written : a ≡ with_version l v

abbrev pub Newer : List ℕ → Changed → List ℕ → Type 0
Newer l r a = NotChanged (newer_codes l) l r a ⊎ IsConverted (newer_codes l) 2 l r a

abbrev pub Older : List ℕ → Changed → List ℕ → Type 0
Older l r a = NotChanged (older_codes l) l r a ⊎ IsConverted (older_codes l) 1 l r a

-- ---- a sign: the word and the level of the verdict on the record's element, by its nodes
pub record IsSigned (l : List ℕ) (k : ℕ) (r : Changed) (a : List ℕ) : Type 0 where
  pub accepted : Accepted (sign_codes l k)
  pub answer : r ≡ record { code = 0; number = 0 }
  pub verdict : Answer
  pub judged : Judges (element (record_at l k)) (limit_of (record_at l k)) verdict
  pub written : a ≡ with_sign l k (sign_of verdict.word) verdict.level

abbrev pub Signs : List ℕ → ℕ → Changed → List ℕ → Type 0
Signs l k r a = NotChanged (sign_codes l k) l r a ⊎ IsSigned l k r a
