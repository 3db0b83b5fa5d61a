-- What is taken of a text, straight from its rows.
--   rows_of k r       == the row, where its kind says that it is an element's; else none
--   taken_in level t, passed_in t == what is taken of a text under this level limit, and how many elements are passed over
-- Definitions only.
use Rattle.std.specs.Prelude.{cond, List, [], ◌∷◌, ℕ, eqb}
use Rattle.append.specs.Series.{Given}
use Rattle.mesh_text.specs.Tests.{value_of}
use Rattle.mesh_form.specs.Mesh.{Row}
use Rattle.mesh_nodes.specs.Nodes.{nodes_in}
use Rattle.mesh_elements.specs.Rows.{givens_of, passed_of, elements_in}

abbrev pub rows_of : ℕ → Row → List Row
rows_of k r = cond (eqb k 2) (r ∷ []) []

abbrev pub taken_in : ℕ → List ℕ → List Given
taken_in level t = givens_of level value_of (nodes_in t) (elements_in t)

abbrev pub passed_in : List ℕ → ℕ
passed_in t = passed_of (elements_in t)
