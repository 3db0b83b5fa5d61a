-- What the functions under the sheet's calls compute on the way.
--   Headed l b     == b says whether the bytes l begin with the header
--   trimmed_bytes k l xs == the sheet that keeps each cell that passes and cuts any other, l levels down
-- Definitions only.
use Rattle.std.specs.Prelude.{◌≡◌, Bool, true, false, List, ◌++◌, ℕ, ℤ, drop}
use Rattle.forms.specs.Shapes.{pass, cut_to}
use Rattle.element.specs.Kinds.{Kind}
use Rattle.element.specs.Control.{control_values}
use Rattle.element.specs.Cells.{shape_of}
use Rattle.cuttings.specs.Bytes.{header, sheet_bytes, trimmed}

abbrev pub Headed : List ℕ → Bool → Type 0
Headed l true = l ≡ header ++ drop 5 l
Headed l false = (m : List ℕ) → ¬ (l ≡ header ++ m)

abbrev pub trimmed_bytes : Kind → ℕ → List ℤ → List ℕ
trimmed_bytes k l xs = sheet_bytes (trimmed (pass (shape_of k)) (cut_to (shape_of k)) l (control_values k xs))
