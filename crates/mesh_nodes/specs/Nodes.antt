-- The node rows of a text (docs/GMSH.md, G17 to G19): whether all coordinates are whole, and the row of a number.
--   flat_b r        == x and y of the row are whole, and z is 0
--   flats_b is      == those of each node row are
--   row_of n rs     == the first of the rows with the number n; past them the row without words
--   nodes_in t      == the node rows of a text
--   Seated t p     == p is 0, or the place of a node row
--   Seats t l      == each of l is
-- Definitions only.
use Rattle.std.specs.Prelude.{◌≡◌, Bool, true, ◌&&◌, cond, ◌⊎◌, ℕ, eqb, drop}
use mathlib.Core.List.{List, [], ◌∷◌, Memᴰ}
use Rattle.mesh_text.specs.Rows.{All, line}
use Rattle.mesh_text.specs.Tests.{whole_b, zero_b}
use Rattle.mesh_form.specs.Mesh.{Row}
use Rattle.mesh_form.specs.Walk.{items_in, node_rows}
use Rattle.mesh_form.specs.Values.{word, id_of}

unfoldable pub flat_b : Row → Bool
flat_b r = whole_b (word r 1) && (whole_b (word r 2) && zero_b (word r 3))

unfoldable pub flats_b : List Row → Bool
flats_b [] = true
flats_b (r ∷ rs) = flat_b r && flats_b rs

unfoldable pub row_of : ℕ → List Row → Row
row_of n [] = []
row_of n (r ∷ rs) = cond (eqb (id_of r) n) r (row_of n rs)

abbrev pub nodes_in : List ℕ → List Row
nodes_in t = node_rows (items_in t)

-- ---- places of rows that are kept in a table
abbrev pub Seated : List ℕ → ℕ → Type 0
Seated t p = (p ≡ 0) ⊎ Memᴰ (line (drop p t)) (nodes_in t)

abbrev pub Seats : List ℕ → List ℕ → Type 0
Seats t l = All (Seated t) l
