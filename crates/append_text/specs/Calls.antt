-- What the call `append_text` answers, and what it leaves in the buffer lent to it (README, "Blocks from text").
--   unplaced o       == the faults of o, at no line and no word of the text
--   text_codes t b used == "13 .. over the whole text", "then 14", "then append's for `used` and block"
--   word_of c         == the word of a line that names the code c of an append
--   spot_of r         == what an answer names: code, record number, line and word
--   refusal f        == the answer of a refusal
--   as_texted d      == the answer that the call's result tells
--   NotOpened t b used r a == a refusal before any record is tried
--   NotTaken t b used r a == a refusal of a record: those of the lines before are appended one by one, and the call for it is refused
--   IsTaken t b used r a == a success: what the run of `append_record` over all records of the text answers and leaves
--   Tries t b used r a == the one or the other of these two
--   AppendsText t b used r a == one of the three
-- t is the text, b and a are the buffer's content before and after, r is the answer.
-- Definitions only.
use Rattle.std.specs.Prelude.{◌≡◌, cond, List, ◌∷◌, ◌++◌, ◌⊎◌, ℕ, ◌+◌, ◌*◌, eqb, length, Result, Ok, Err}
use Rattle.element.specs.Refusals.{Codes, no_more, code, ◌then◌, Refused, Accepted}
use Rattle.block.specs.Faults.{Fault}
use Rattle.append.specs.Append.{buffer_codes}
use Rattle.append.specs.Calls.{Appends}
use Rattle.append.specs.Series.{Series}
use Rattle.record_text.specs.Faults.{Spot, spot, form_codes, whole_codes}
use Rattle.record_text.specs.Says.{Line, Records, givens}
use Rattle.faults.specs.Refusal.{number_of}
use Rattle.append_text.specs.declared.Texted.{Texted}
use Rattle.append_text.specs.declared.Added.{Added}
use Rattle.append_text.specs.declared.RefusedAt.{RefusedAt}

-- ---- the text and the block
-- "`line` is .. 0 for `used`, block", and so is the word
abbrev pub unplaced : Codes Fault → Codes Spot
unplaced no_more = no_more
unplaced (code f F o) = code (record { code = f.code; number = f.number; line = 0; word = 0 }) F (unplaced o)

abbrev pub text_codes : List ℕ → List ℕ → ℕ → Codes Spot
text_codes t b used = form_codes t then (whole_codes t then unplaced (buffer_codes b used))

-- ---- the answer
-- "2 for code 1, 3 for code 2, 1 for code 10, else 0"
abbrev pub word_of : ℕ → ℕ
word_of c = cond (eqb c 1) 2 (cond (eqb c 2) 3 (cond (eqb c 10) 1 0))

abbrev pub spot_of : Texted → Spot
spot_of r = record { code = r.code; number = r.number; line = r.line; word = r.word }

-- "A refusal returns the code, the record number for faults in a stored record (else 0), zero in all other fields"
abbrev pub refusal : Spot → Texted
refusal f = record { code = f.code; number = f.number; line = f.line; word = f.word; used = 0; appended = 0 }

abbrev pub as_texted : Result Added RefusedAt → Texted
as_texted (Ok d) = record { code = 0; number = 0; line = 0; word = 0; used = d.used; appended = d.appended }
as_texted (Err e) = refusal (record { code = number_of e.refusal; number = e.number; line = e.line; word = e.word })

pub record NotOpened (t b : List ℕ) (used : ℕ) (r : Texted) (a : List ℕ) : Type 0 where
  pub refused : Refused (text_codes t b used) (spot_of r)
  pub zeros : r ≡ refusal (spot_of r)
  pub untouched : a ≡ b

-- "then line by line 1, 2, 3, 4, 10, 11, 5", with 21 after 4; `left` and `up` are what the appends of the lines before leave
pub record NotTaken (t b : List ℕ) (used : ℕ) (r : Texted) (a : List ℕ) : Type 0 where
  pub accepted : Accepted (text_codes t b used)
  pub before : List Line
  pub one : Line
  pub after : List Line
  pub said : Records t (before ++ (one ∷ after))
  pub left : List ℕ
  pub up : ℕ
  pub ran : Series b used (givens before) (record { code = 0; number = 0; used = up }) left
  pub stopped : Appends left up one.given.id one.given.kind one.given.limit one.given.coords (record { code = r.code; number = 0; used = 0 }) left
  pub some : ¬ (r.code ≡ 0)
  pub answer : r ≡ refusal (spot r.code one.line (word_of r.code))
  pub untouched : a ≡ b

-- "a success is the run of `append_record`"
pub record IsTaken (t b : List ℕ) (used : ℕ) (r : Texted) (a : List ℕ) : Type 0 where
  pub accepted : Accepted (text_codes t b used)
  pub lines : List Line
  pub said : Records t lines
  pub answer : r ≡ record { code = 0; number = 0; line = 0; word = 0; used = used + 80 * length lines; appended = length lines }
  pub done : Series b used (givens lines) (record { code = 0; number = 0; used = r.used }) a

abbrev pub Tries : List ℕ → List ℕ → ℕ → Texted → List ℕ → Type 0
Tries t b used r a = NotTaken t b used r a ⊎ IsTaken t b used r a

abbrev pub AppendsText : List ℕ → List ℕ → ℕ → Texted → List ℕ → Type 0
AppendsText t b used r a = NotOpened t b used r a ⊎ Tries t b used r a
