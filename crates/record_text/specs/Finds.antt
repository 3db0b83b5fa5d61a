-- What the search for a fault of a text answers: one search for both codes.
--   Whether P r      == r says whether P
--   Finds o c r      == r has line and word of the fault of o that counts, which is of code c; None where o has none
--   code_of x         == 13 where the form is looked at, 14 where coordinates are
--   FlawBy x, LacksBy x == the fault of a word; that of a line which is too short
--   words_by x, last_by x, codes_by x == the orders of a line, of what is behind the last line feed, of the whole text
--   lines_by x n ls   == those of the lines ls, the first of them the n-th
--   LineEnd t at r   == r is the place of the line feed of the line at the place `at`, or the text's length where it has none
-- Definitions only.
use Rattle.std.specs.Prelude.{◌≡◌, Bool, true, false, List, [], ◌∷◌, ℕ, suc, ◌≤◌, ◌<◌, length, drop, Option, None, Some}
use Rattle.element.specs.Refusals.{Codes, Refused, Accepted}
use Rattle.mesh_text.specs.Rows.{lines, first}
use Rattle.record_text.specs.declared.Test.{Test}
use Rattle.record_text.specs.declared.Test.TheVariants.{Form, Whole}
use Rattle.record_text.specs.declared.Place.{Place}
use Rattle.record_text.specs.Faults.{Spot, spot, Wrong, Broken, form_words, whole_words, cut_line, no_codes, each_line}

pub record Whether (P : Type 0) (r : Bool) : Type 0 where
  pub yes : r ≡ true → P
  pub no : r ≡ false → ¬ P

abbrev pub Finds : Codes Spot → ℕ → Option Place → Type 0
Finds o c None = Accepted o
Finds o c (Some p) = Refused o (spot c p.line p.word) × ¬ (p.line ≡ 0)

-- ---- by what is looked for
abbrev pub code_of : Test → ℕ
code_of Form = 13
code_of Whole = 14

abbrev pub FlawBy : Test → ℕ → List ℕ → Type 0
FlawBy Form = Wrong
FlawBy Whole = Broken

abbrev pub LacksBy : Test → List (List ℕ) → Type 0
LacksBy Form ws = length ws < 3
LacksBy Whole ws = ⊥

abbrev pub words_by : Test → ℕ → List (List ℕ) → Codes Spot
words_by Form = form_words
words_by Whole = whole_words

abbrev pub last_by : Test → ℕ → List ℕ → Codes Spot
last_by Form = cut_line
last_by Whole = no_codes

abbrev pub lines_by : Test → ℕ → List (List ℕ) → Codes Spot
lines_by x n ls = each_line (words_by x) (last_by x) n ls

abbrev pub codes_by : Test → List ℕ → Codes Spot
codes_by x t = lines_by x 1 (lines t)

-- ---- places
pub record LineEnd (t : List ℕ) (at r : ℕ) : Type 0 where
  pub within : r ≤ length t
  pub onwards : at ≤ r
  pub more : r < length t → lines (drop at t) ≡ first (lines (drop at t)) ∷ lines (drop (suc r) t)
  pub last : length t ≤ r → lines (drop at t) ≡ drop at t ∷ []
