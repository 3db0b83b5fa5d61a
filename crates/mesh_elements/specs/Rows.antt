-- The same, straight from the rows of a text. That they are what Takings says is proved in proofs/.
--   name_of r k       == the number of our node k in an element's row
--   coord_of v rs r i == its coordinate i, x of our first node first; v reads a word, rs are the node rows
--   coords_of v rs r, given_of level v rs r == all of them; what is taken of the row
--   givens_of level v rs qs, passed_of qs == what is taken of the rows qs, and how many are passed over
--   elements_in t     == the element rows of a text
-- level is the level limit of all that is taken.
-- Definitions only.
use Rattle.std.specs.Prelude.{cond, List, [], ◌∷◌, ℕ, suc, ◌+◌, ◌*◌, ◌/◌, ◌%◌, eqb, ℤ, get_or}
use Rattle.algebra.specs.Fill.{list_to}
use Rattle.append.specs.Series.{Given}
use Rattle.mesh_form.specs.Mesh.{Row}
use Rattle.mesh_form.specs.Walk.{items_in, element_rows}
use Rattle.mesh_form.specs.Values.{word, id_of, type_of, size_of_type, nine}
use Rattle.mesh_nodes.specs.Nodes.{row_of}
use Rattle.mesh_elements.specs.Orders.{order}

unfoldable pub name_of : Row → ℕ → ℕ
name_of r k = get_or (nine r) (get_or (order (type_of r)) k 0) 0

unfoldable pub coord_of : (List ℕ → ℤ) → List Row → Row → ℕ → ℤ
coord_of v rs r i = v (word (row_of (name_of r (i / 2)) rs) (1 + i % 2))

abbrev pub coords_of : (List ℕ → ℤ) → List Row → Row → List ℤ
coords_of v rs r = list_to (2 * size_of_type (type_of r)) (coord_of v rs r)

abbrev pub given_of : ℕ → (List ℕ → ℤ) → List Row → Row → Given
given_of level v rs r = record { id = id_of r; kind = size_of_type (type_of r); limit = level; coords = coords_of v rs r }

unfoldable pub givens_of : ℕ → (List ℕ → ℤ) → List Row → List Row → List Given
givens_of level v rs [] = []
givens_of level v rs (r ∷ qs) = cond (eqb (size_of_type (type_of r)) 0) (givens_of level v rs qs) (given_of level v rs r ∷ givens_of level v rs qs)

unfoldable pub passed_of : List Row → ℕ
passed_of [] = 0
passed_of (r ∷ qs) = cond (eqb (size_of_type (type_of r)) 0) (suc (passed_of qs)) (passed_of qs)

abbrev pub elements_in : List ℕ → List Row
elements_in t = element_rows (items_in t)
