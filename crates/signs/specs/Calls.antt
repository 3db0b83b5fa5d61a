-- What the functions on a record's sign answer.
--   sign_of_word w    == the first byte for the word of an answer of the call `verdict`
--   Tells r b       == b says whether the record r differs from its sign
--   Telling r b     == the same, of a record that a block may hold
-- Definitions only.
use Rattle.std.specs.Prelude.{◌≡◌, Bool, true, false, ℕ}
use Rattle.verdict.specs.declared.Word.{Word}
use Rattle.verdict.specs.declared.Word.TheVariants.{Nothing, Valid, Invalid, Undecided}
use Rattle.record.specs.declared.Record.{Record}
use Rattle.record.specs.Record.{WellFormed}
use Rattle.signs.specs.Signs.{Differs}

abbrev pub sign_of_word : Word → ℕ
sign_of_word Nothing = 0
sign_of_word Valid = 1
sign_of_word Invalid = 2
sign_of_word Undecided = 0

pub record Tells (r : Record) (b : Bool) : Type 0 where
  pub yes : b ≡ true → Differs r
  pub no : b ≡ false → ¬ Differs r

abbrev pub Telling : Record → Bool → Type 0
Telling r b = (v : ℕ) → WellFormed v r → Tells r b
