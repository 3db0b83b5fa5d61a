-- A cutting as bytes (02, Ask 5: "mark CPS, version u16 = 1, then the cutting as one byte a cell, 1 for cut and 0 for kept; a cut cell's
-- byte is followed by its four quarters in 01's order, each written to its end before the next").
--   cutting_bytes t  == the cutting
--   mark, header    == the mark, and the mark with the version
--   sheet_bytes t    == the sheet
--   sheet_size m     == how many bytes the sheet of a cutting into m cells has
--   trimmed n v     == the cutting that keeps each cell that passes and cuts any other, but keeps all n levels down
--   bytes_of n v qs  == the bytes of these quarters of the cell v, one behind the other, each trimmed
-- Definitions only.
use Rattle.std.specs.Prelude.{Bool, cond, List, [], ◌∷◌, ◌++◌, ℕ, zero, suc, ◌+◌, ◌*◌, ◌-◌, ◌/◌}
use Rattle.endian.specs.Numbers.{bytes}
use Rattle.forms.specs.Cuttings.{Four, first, second, third, fourth, Cutting, keep, cut}

unfoldable pub cutting_bytes : Cutting → List ℕ
cutting_bytes keep = 0 ∷ []
cutting_bytes (cut a b c d) = 1 ∷ (cutting_bytes a ++ (cutting_bytes b ++ (cutting_bytes c ++ cutting_bytes d)))

-- C, P, S
abbrev pub mark : List ℕ
mark = 67 ∷ 80 ∷ 83 ∷ []

abbrev pub header : List ℕ
header = mark ++ bytes 2 1

abbrev pub sheet_bytes : Cutting → List ℕ
sheet_bytes t = header ++ cutting_bytes t

abbrev pub sheet_size : ℕ → ℕ
sheet_size m = 5 + (4 * m - 1) / 3

-- ---- what a writer that cuts what does not pass writes, for any kind of cell with a test and four quarters
module _ {Cell : Type 0} (pass : Cell → Bool) (q : Four → Cell → Cell) where
  unfoldable pub trimmed : ℕ → Cell → Cutting
  trimmed zero v = keep
  trimmed (suc n) v =
      cond (pass v) keep (cut (trimmed n (q first v)) (trimmed n (q second v)) (trimmed n (q third v)) (trimmed n (q fourth v)))

  abbrev pub bytes_of : ℕ → Cell → List Four → List ℕ
  bytes_of n v [] = []
  bytes_of n v (i ∷ qs) = cutting_bytes (trimmed n (q i v)) ++ bytes_of n v qs
