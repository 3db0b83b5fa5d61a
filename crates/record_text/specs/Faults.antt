-- The faults of a text of records, and their order: "13 for the first line that is not of this form, over the whole text", "then 14 for the
-- first coordinate that is a number but not whole" (README, "Blocks from text"). Lines, words and numbers are those of mesh_text.
--   Spot             == what names a fault: a code, the number of a stored record, a line and a word of the text; 0 for none of each
--   spot c n k       == code c at word k of line n
--   Silent ws        == a line of the words ws counts for nothing: it has none, or the first begins with #
--   IsNatural w, IsWhole w == w is a whole number below 2^32 (G10); w is a whole coordinate (G17)
--   Wrong k w, Broken k w == 13 and 14 of the word w, the k-th of its line
--   each_word c n F k ws == code c at line n for each of ws of which F is true, in turn; the first of ws is word k
--   Flawed F ws      == F, of the words of a line that counts
--   formLine, wholeLine n l == the faults of the line l, the n-th
--   cut_line n l      == the fault of what stands behind the last line feed
--   each_line o p n ls == the faults o of each line of a text in turn, and p of what stands behind the last line feed
--   form_codes t, whole_codes t == the orders of 13 and of 14, over the whole text
-- Definitions only.
use Rattle.std.specs.Prelude.{◌≡◌, List, [], ◌∷◌, ℕ, suc, ◌≤◌, ◌<◌, ℤ, length}
use Rattle.element.specs.Refusals.{Codes, no_more, code, ◌then◌}
use Rattle.mesh_text.specs.Rows.{lines, words}
use Rattle.mesh_text.specs.Words.{Number, IsNumber, WholeValue}

pub record Spot : Type 0 where
  pub code : ℕ
  pub number : ℕ
  pub line : ℕ
  pub word : ℕ

abbrev pub spot : ℕ → ℕ → ℕ → Spot
spot c n k = record { code = c; number = 0; line = n; word = k }

-- ---- lines that count
-- "a line without a word, or whose first word begins with #, counts for nothing"; 35 is #
pub data Silent : List (List ℕ) → Type 0 where
  empty : Silent []
  comment : {w : List ℕ} {ws : List (List ℕ)} → Silent ((35 ∷ w) ∷ ws)

-- ---- words
abbrev pub IsNatural : List ℕ → Type 0
IsNatural w = (n : ℕ) × Number w n

abbrev pub IsWhole : List ℕ → Type 0
IsWhole w = (z : ℤ) × WholeValue w z

-- 13: "one of the first three that is no whole number", "another word that is no decimal number"
pub data Wrong (k : ℕ) (w : List ℕ) : Type 0 where
  no_natural : k ≤ 3 → ¬ IsNatural w → Wrong k w
  no_number : 3 < k → ¬ IsNumber w → Wrong k w

-- 14: "a number but not whole"
pub record Broken (k : ℕ) (w : List ℕ) : Type 0 where
  pub coordinate : 3 < k
  pub number : IsNumber w
  pub not_whole : ¬ IsWhole w

abbrev pub each_word : ℕ → ℕ → (ℕ → List ℕ → Type 0) → ℕ → List (List ℕ) → Codes Spot
each_word c n F k [] = no_more
each_word c n F k (w ∷ ws) = code (spot c n k) (F k w) (each_word c n F (suc k) ws)

-- ---- lines
abbrev pub Flawed : (ℕ → List ℕ → Type 0) → List (List ℕ) → ℕ → List ℕ → Type 0
Flawed F ws k w = ¬ Silent ws × F k w

-- 13: "fewer than three words", word 0; then word by word
abbrev pub form_words : ℕ → List (List ℕ) → Codes Spot
form_words n ws = code (spot 13 n 0) (¬ Silent ws × (length ws < 3)) (each_word 13 n (Flawed Wrong ws) 1 ws)

abbrev pub whole_words : ℕ → List (List ℕ) → Codes Spot
whole_words n ws = each_word 14 n (Flawed Broken ws) 1 ws

-- 13: "a text that is not empty and does not end in LF is 13 at its last line, whatever stands there"
abbrev pub cut_line : ℕ → List ℕ → Codes Spot
cut_line n l = code (spot 13 n 0) (¬ (l ≡ [])) no_more

abbrev pub no_codes : ℕ → List ℕ → Codes Spot
no_codes n l = no_more

-- the parts of a text between its line feeds: the last of them is no line
abbrev pub each_line : (ℕ → List (List ℕ) → Codes Spot) → (ℕ → List ℕ → Codes Spot) → ℕ → List (List ℕ) → Codes Spot
each_line o p n [] = no_more
each_line o p n (l ∷ []) = p n l
each_line o p n (l ∷ m ∷ ls) = o n (words l) then each_line o p (suc n) (m ∷ ls)

abbrev pub form_codes : List ℕ → Codes Spot
form_codes t = each_line form_words cut_line 1 (lines t)

abbrev pub whole_codes : List ℕ → Codes Spot
whole_codes t = each_line whole_words no_codes 1 (lines t)
