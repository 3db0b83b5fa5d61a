-- The cells of a level and where they lie (01: "Level d cuts the element into 4^d cells. Grid points are (i,j) for ξ or u =
-- i/2^d, η or v = j/2^d").
--   cell_at path c    == the cell that the quarters of the path lead to; its level is the path's length
--   in_whole path ys  == the point ys of that cell, as weights of the whole element
--   OnGrid d i j     == (i, j) is a point of the grid of level d
--   grid_point d i j  == its weights
--   corner_column, corner_row path k == the column and the row, on the grid of its level, of corner k of the cell of the path
-- Definitions only.
use Rattle.std.specs.Prelude.{List, [], ◌∷◌, ℕ, ◌^◌, ◌≤◌, ℤ}
use Rattle.forms.specs.Rows.{Row}
use Rattle.forms.specs.Forms.{through}
use Rattle.forms.specs.Cuttings.{Four, descend}
use Rattle.forms.specs.Shapes.{Shape, entry, cut_to, tip}

module _ (S : Shape) where
  abbrev pub cell_at : List Four → List ℤ → List ℤ
  cell_at path c = descend (cut_to S) path c

  abbrev pub in_whole : List Four → List Row → List Row
  in_whole [] ys = ys
  in_whole (i ∷ path) ys = through (in_whole path ys) (S.cuts i)

  pub record OnGrid (d i j : ℕ) : Type 0 where
    pub row_in : j ≤ 2 ^ d
    pub column_in : i ≤ S.last (2 ^ d) j

  abbrev pub grid_point : ℕ → ℕ → ℕ → List Row
  grid_point d i j = S.rows (2 ^ d) i j

  abbrev pub corner_column : List Four → ℕ → ℕ
  corner_column path k = entry S.column (in_whole path (tip S k))

  abbrev pub corner_row : List Four → ℕ → ℕ
  corner_row path k = entry S.row (in_whole path (tip S k))
