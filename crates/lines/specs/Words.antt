-- A line of the list as text: words, and numbers in decimal, parted by one space each (01, the sample of the program `verdicts`).
--   Piece              == a word, or a number
--   spelt p            == the text of a piece
--   line ps            == the pieces, one space before each but the first, and the line's end
--   first_line v n      == "First line: mark, version, count"
--   spaced ns          == numbers, one space before each
--   ending s           == what follows the numbers of a line: `signed` where a record is signed by the first byte s (02, Ask 4)
--   verdict_line        == "Then id, kind, verdict, level, i, j, cells", and the ending
--   refused_line c k    == "A refused block prints only `refused`, code, record number, on one line"
--   refused_record id kind c == the line of a record that a floor refuses: id, kind, `refused`, code
-- Definitions only.
use Rattle.std.specs.Prelude.{cond, List, [], ◌∷◌, ◌++◌, ℕ, eqb}
use Rattle.text.specs.Writing.{decimal}

pub data Piece : Type 0 where
  word : List ℕ → Piece
  number : ℕ → Piece

abbrev pub spelt : Piece → List ℕ
spelt (word w) = w
spelt (number n) = decimal n

-- 32 is the space, 10 the end of a line
abbrev pub after : List Piece → List ℕ
after [] = 10 ∷ []
after (p ∷ ps) = 32 ∷ (spelt p ++ after ps)

abbrev pub spaced : List ℕ → List ℕ
spaced [] = []
spaced (n ∷ ns) = 32 ∷ (decimal n ++ spaced ns)

abbrev pub line : Piece → List Piece → List ℕ
line p ps = spelt p ++ after ps

-- ---- the four kinds of line; 67 69 76 are the letters CEL
abbrev pub first_line : ℕ → ℕ → List ℕ
first_line v n = line (word (67 ∷ 69 ∷ 76 ∷ [])) (number v ∷ number n ∷ [])

-- the letters of `signed`
abbrev pub signed_word : List ℕ
signed_word = 115 ∷ 105 ∷ 103 ∷ 110 ∷ 101 ∷ 100 ∷ []

abbrev pub ending : ℕ → List Piece
ending s = cond (eqb s 0) [] (word signed_word ∷ [])

abbrev pub verdict_line : ℕ → ℕ → List ℕ → ℕ → ℕ → ℕ → ℕ → ℕ → List ℕ
verdict_line id kind verdict level i j cells s =
    line (number id) (number kind ∷ word verdict ∷ number level ∷ number i ∷ number j ∷ number cells ∷ ending s)

-- the letters of `refused`
abbrev pub refused_word : List ℕ
refused_word = 114 ∷ 101 ∷ 102 ∷ 117 ∷ 115 ∷ 101 ∷ 100 ∷ []

abbrev pub refused_line : ℕ → ℕ → List ℕ
refused_line c k = line (word refused_word) (number c ∷ number k ∷ [])

abbrev pub refused_record : ℕ → ℕ → ℕ → List ℕ
refused_record id kind c = line (number id) (number kind ∷ word refused_word ∷ number c ∷ [])
