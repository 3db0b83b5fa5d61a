-- What good rows say, straight from their words (docs/GMSH.md, G12 to G15). That they are what Mesh says is proved in proofs/Said.
--   word r k       == the word k of a row; past its end the empty word
--   id_of r, type_of r, tags_of r == the first three numbers of an element's row
--   names_of r      == its node numbers, behind three words and the tags
--   node_of r, element_of r == the node, and the element, that a row says
--   size_of_type k   == how many nodes the types 9, 10 and 16 have, the types that are ours; 0 for any other
--   size_number s    == the same of the code's answer, 0 for none
--   nine r         == the first nine node numbers of an element's row, 2^32 for each that is missing
--   wanted_of r     == the node numbers of a row of ours; none of another's
-- Definitions only.
use Rattle.std.specs.Prelude.{cond, List, [], ◌++◌, map, ℕ, ◌+◌, eqb, get_or, take, drop, replicate, Option, None, Some}
use Rattle.mesh_text.specs.Tests.{number_of}
use Rattle.mesh_form.specs.Mesh.{Row, Node, Element}

abbrev pub word : Row → ℕ → List ℕ
word r k = get_or r k []

abbrev pub id_of : Row → ℕ
id_of r = number_of (word r 0)

abbrev pub type_of : Row → ℕ
type_of r = number_of (word r 1)

abbrev pub tags_of : Row → ℕ
tags_of r = number_of (word r 2)

unfoldable pub names_of : Row → List ℕ
names_of r = map number_of (drop (3 + tags_of r) r)

abbrev pub node_of : Row → Node
node_of r = record { number = id_of r; x = word r 1; y = word r 2; z = word r 3 }

abbrev pub element_of : Row → Element
element_of r = record { number = id_of r; type = type_of r; nodes = names_of r }

unfoldable pub size_of_type : ℕ → ℕ
size_of_type k = cond (eqb k 9) 6 (cond (eqb k 10) 9 (cond (eqb k 16) 8 0))

abbrev pub size_number : Option ℕ → ℕ
size_number None = 0
size_number (Some n) = n

unfoldable pub nine : Row → List ℕ
nine r = take 9 (names_of r ++ replicate 9 4294967296)

unfoldable pub wanted_of : Row → List ℕ
wanted_of r = take (size_of_type (type_of r)) (nine r)
