-- What the function under `sign_record` answers: the two bytes of the sign of record k, or why there is none.
--   NoSign l k e, HasSign l k m == a refusal, and a success
--   Signable l k r        == the one or the other
-- Definitions only.
use Rattle.std.specs.Prelude.{◌≡◌, List, ℕ, Result, Ok, Err}
use Rattle.element.specs.Refusals.{Refused, Accepted}
use Rattle.faults.specs.Refusal.{number_of}
use Rattle.judge.specs.Verdict.{Answer, Judges}
use Rattle.signs.specs.Signs.{element, sign_of, limit_of}
use Rattle.block.specs.Block.{record_at}
use Rattle.block.specs.declared.Refused as answer
use Rattle.signing.specs.declared.Sign.{Sign}
use Rattle.signing.specs.Orders.{sign_codes}

pub record NoSign (l : List ℕ) (k : ℕ) (e : answer.Refused) : Type 0 where
  pub refused : Refused (sign_codes l k) (record { code = number_of e.refusal; number = e.number })

pub record HasSign (l : List ℕ) (k : ℕ) (m : Sign) : Type 0 where
  pub accepted : Accepted (sign_codes l k)
  pub verdict : Answer
  pub judged : Judges (element (record_at l k)) (limit_of (record_at l k)) verdict
  pub signed : m.signed ≡ sign_of verdict.word
  pub level : m.level ≡ verdict.level

abbrev pub Signable : List ℕ → ℕ → Result Sign answer.Refused → Type 0
Signable l k (Ok m) = HasSign l k m
Signable l k (Err e) = NoSign l k e
