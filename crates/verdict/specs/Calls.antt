-- What the call `verdict` answers, and any other call that judges (01, "The sign test and the verdict", "Codes and what they leave").
--   tell w         == the case of the answer's word for each of 01's three
--   given a        == the answer's fields for the verdict a
--   refusal c      == the answer's fields for the code c
--   Settled w      == the word is valid or invalid
--   says_valid w      == whether it is valid
--   NoVerdict o r      == a refusal by the order of codes o
--   HasVerdict o s l r == a success: the verdict on the subject s under the limit l
--   Told o s l r       == the one or the other: what any call answers that judges s
--   VerdictOf n l xs r == what `verdict` answers
--   Only P r           == the contract P allows the answer r, and no other
--   MilderCall r s     == the answer s is valid, at no deeper level and with no more cells than r
--   SternerCall r s    == the answer s is invalid, at no deeper level than r
-- n is the number given as the kind, l the level limit, xs the coordinate list.
-- Definitions only.
use Rattle.std.specs.Prelude.{◌≡◌, Bool, true, false, List, ◌⊎◌, ℕ, ◌≤◌, ℤ, pos}
use Rattle.element.specs.Kinds.{kind_of}
use Rattle.element.specs.Refusals.{Codes, Refused, Accepted, verdict_codes}
use Rattle.judge.specs.Verdict.{valid, invalid, undecided, Answer, Subject, Judges}
use Rattle.judge.specs.Verdict as judge
use Rattle.judge.specs.Elements.{subject}
use Rattle.verdict.specs.declared.Word.{Word}
use Rattle.verdict.specs.declared.Word.TheVariants.{Nothing, Valid, Invalid, Undecided}
use Rattle.verdict.specs.declared.Judged.{Judged}

-- "Valid", "Invalid", "Undecided"; a refusal has none of them
abbrev pub tell : judge.Word → Word
tell valid = Valid
tell invalid = Invalid
tell undecided = Undecided

-- a success has the code 0 and the record number 0
abbrev pub given : Answer → Judged
given a =
    record {
      code = 0;
      number = 0;
      word = tell a.word;
      level = a.level;
      i = a.i;
      j = a.j;
      value = a.value;
      cells = a.cells;
    }

-- "A refusal returns the code, the record number for faults in a stored record (else 0), zero in all other fields"
abbrev pub refusal : ℕ → Judged
refusal c = record { code = c; number = 0; word = Nothing; level = 0; i = 0; j = 0; value = pos 0; cells = 0 }

abbrev pub Settled : Word → Type 0
Settled Nothing = ⊥
Settled Valid = Unit {0}
Settled Invalid = Unit {0}
Settled Undecided = ⊥

abbrev pub says_valid : Word → Bool
says_valid Nothing = false
says_valid Valid = true
says_valid Invalid = false
says_valid Undecided = false

-- ---- what a call that judges answers; o is the order of its codes, s what it judges
pub record NoVerdict (o : Codes ℕ) (r : Judged) : Type 0 where
  pub refused : Refused o r.code
  pub zeros : r ≡ refusal r.code

-- the verdict of 01's three sentences, on the subject itself
pub record HasVerdict (o : Codes ℕ) (s : Subject) (l : ℕ) (r : Judged) : Type 0 where
  pub accepted : Accepted o
  pub answer : Answer
  pub judges : Judges s l answer
  pub told : r ≡ given answer

abbrev pub Told : Codes ℕ → Subject → ℕ → Judged → Type 0
Told o s l r = NoVerdict o r ⊎ HasVerdict o s l r

-- "Verdict: 1, 2, 3, 4", with 21 after 4 (02, Ask 9), and the element itself, by its nodes
abbrev pub VerdictOf : ℕ → ℕ → List ℤ → Judged → Type 0
VerdictOf n l xs r = Told (verdict_codes n l xs) (subject (kind_of n) xs) l r

pub record Only (P : Judged → Type 0) (r : Judged) : Type 0 where
  pub allowed : P r
  pub no_other : (s : Judged) → P s → s ≡ r

-- ---- of two answers
pub record MilderCall (r s : Judged) : Type 0 where
  pub word : s.word ≡ Valid
  pub level : s.level ≤ r.level
  pub cells : s.cells ≤ r.cells

pub record SternerCall (r s : Judged) : Type 0 where
  pub word : s.word ≡ Invalid
  pub level : s.level ≤ r.level
