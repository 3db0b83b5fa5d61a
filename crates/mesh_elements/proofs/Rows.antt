-- The rows of a text of the form are its nodes and its elements, one by one (docs/GMSH.md, G12 to G15).
--   form-nodes, form-elements : each row says its node, or its element
--   nodes-are, numbers-are, elements-are : so what is read from the rows is what the text says
--   node-rows, element-rows : and each row is one of what is read from it
--   ids-small, numbers-small : the number of an element is below 2^32
-- Assumes nothing.
use mathlib.Core.Path.{◌≡◌, refl, sym, ap, ◌∙◌, subst}
use mathlib.Core.List.{List, ◌∷◌, map, map-map}
use Prim.Native.Nat.{ℕ, ◌<◌}
use Rattle.mesh_text.specs.Rows.{All, none, both, Pairs, no_pairs, pair}
use Rattle.mesh_form.specs.Mesh.{Row, Node, Element, NodeRow, ElementRow, element_row, Form, numbers_of}
use Rattle.mesh_form.specs.Walk.{Item, node_rows, element_rows}
use Rattle.mesh_form.specs.Values.{id_of, node_of, element_of}
use Rattle.mesh_form.proofs.Told.{form-told}
use Rattle.mesh_form.proofs.Unique.{Readings, none_read, node-read, element-read, Walks, sections-walk}
use Rattle.mesh_form.proofs.Said.{node-is, element-is}
use Rattle.mesh_nodes.specs.Nodes.{nodes_in}
use Rattle.mesh_elements.specs.Rows.{elements_in}

-- ---- row by row
readings-nodes : {l : List Item} {ns : List Node} {es : List Element} → Readings l ns es → Pairs NodeRow (node_rows l) ns
unfolding node_rows
readings-nodes none_read = no_pairs
readings-nodes (node-read h k) = pair h (readings-nodes k)
readings-nodes (element-read h k) = readings-nodes k

readings-elements : {l : List Item} {ns : List Node} {es : List Element} → Readings l ns es → Pairs ElementRow (element_rows l) es
unfolding element_rows
readings-elements none_read = no_pairs
readings-elements (node-read h k) = readings-elements k
readings-elements (element-read h k) = pair h (readings-elements k)

-- ---- what is read from rows that say something
module _ {A : Type 0} {P : Row → A → Type 0} (f : Row → A) (is : (r : Row) (a : A) → P r a → a ≡ f r) where
  pairs-map : {rs : List Row} {xs : List A} → Pairs P rs xs → map f rs ≡ xs
  pairs-map no_pairs = refl
  pairs-map (pair {a = r} {b = a} {l = rs} h k) = ap (λ x. x ∷ map f rs) (sym (is r a h)) ∙ ap (λ l. a ∷ l) (pairs-map k)

  pairs-all : {rs : List Row} {xs : List A} → Pairs P rs xs → All (λ r. P r (f r)) rs
  pairs-all no_pairs = none
  pairs-all (pair {a = r} {b = a} h k) = both (subst (P r) (is r a h) h) (pairs-all k)

-- ---- of a text
number_small : {r : Row} {e : Element} → ElementRow r e → e.number < 4294967296
number_small (element_row ca cb nc h p q) = ca.number.small

all-rows : {rs : List Row} → All (λ r. ElementRow r (element_of r)) rs → All (λ r. id_of r < 4294967296) rs
all-rows none = none
all-rows (both h a) = both (number_small h) (all-rows a)

all-numbers : {rs : List Row} {es : List Element} → Pairs ElementRow rs es → All (λ e. e.number < 4294967296) es
all-numbers no_pairs = none
all-numbers (pair h k) = both (number_small h) (all-numbers k)

module _ {t : List ℕ} {ns : List Node} {es : List Element} (h : Form t ns es) where
  pub form-nodes : Pairs NodeRow (nodes_in t) ns
  unfolding Walks
  form-nodes = readings-nodes (sections-walk (form-told h)).1

  pub form-elements : Pairs ElementRow (elements_in t) es
  unfolding Walks
  form-elements = readings-elements (sections-walk (form-told h)).1

  pub nodes-are : map node_of (nodes_in t) ≡ ns
  nodes-are = pairs-map node_of (λ r n. node-is) form-nodes

  pub numbers-are : map id_of (nodes_in t) ≡ numbers_of ns
  numbers-are = sym (map-map (λ n. n.number) node_of (nodes_in t)) ∙ ap numbers_of nodes-are

  pub elements-are : map element_of (elements_in t) ≡ es
  elements-are = pairs-map element_of (λ r e. element-is) form-elements

  pub node-rows : All (λ r. NodeRow r (node_of r)) (nodes_in t)
  node-rows = pairs-all node_of (λ r n. node-is) form-nodes

  pub element-rows : All (λ r. ElementRow r (element_of r)) (elements_in t)
  element-rows = pairs-all element_of (λ r e. element-is) form-elements

  pub ids-small : All (λ r. id_of r < 4294967296) (elements_in t)
  ids-small = all-rows element-rows

  pub numbers-small : All (λ e. e.number < 4294967296) es
  numbers-small = all-numbers form-elements
