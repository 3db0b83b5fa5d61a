-- The numbers of a text that nodes have, and those that elements want (docs/GMSH.md, G18 and G19).
--   gather g is    == what g gives of each of the items, one behind the other
--   node_number i   == the number of a row of nodes
--   wanted_by i     == the node numbers of a row of an element that is ours: of type 9, 10 or 16
--   numbers t, wanted t == those of a text
--   Repeated l r   == r says whether a number stands twice in l
--   Missing l w r  == r says whether a number of w is not in l
--   wanted_of_all es == the node numbers of those of the elements es that are ours
--   Unlisted ns es == some element of ours has a node number that is no number of ns
--   Listed ns es   == every node number of an element of ours is a number of ns
-- Definitions only.
use Rattle.std.specs.Prelude.{◌≡◌, Bool, true, false, cond, ℕ, ◌<◌, eqb}
use mathlib.Core.List.{List, [], ◌∷◌, ◌++◌, Memᴰ}
use Rattle.mesh_form.specs.Mesh.{Node, Element, RepeatsIn, Repeats, numbers_of}
use Rattle.mesh_form.specs.Walk.{Item, items_in}
use Rattle.mesh_form.specs.Values.{id_of, wanted_of, size_of_type}

-- ---- the numbers of a text
unfoldable pub gather : (Item → List ℕ) → List Item → List ℕ
gather g [] = []
gather g (i ∷ l) = g i ++ gather g l

unfoldable pub node_number : Item → List ℕ
node_number i = cond i.node (id_of i.row ∷ []) []

unfoldable pub wanted_by : Item → List ℕ
wanted_by i = cond i.node [] (wanted_of i.row)

unfoldable pub numbers : List ℕ → List ℕ
numbers t = gather node_number (items_in t)

unfoldable pub wanted : List ℕ → List ℕ
wanted t = gather wanted_by (items_in t)

-- ---- what is answered; a word that is no number counts as 2^32
pub record Repeated (l : List ℕ) (r : Bool) : Type 0 where
  pub yes : r ≡ true → Repeats l
  pub no : r ≡ false → ¬ RepeatsIn (λ n. n < 4294967296) l

pub record Missing (l w : List ℕ) (r : Bool) : Type 0 where
  pub yes : r ≡ true → (n : ℕ) × (Memᴰ n w × ¬ Memᴰ n l)
  pub no : r ≡ false → (n : ℕ) → Memᴰ n w → n < 4294967296 → Memᴰ n l

-- ---- of a text of the form, by its nodes and elements
unfoldable pub wanted_of_all : List Element → List ℕ
wanted_of_all [] = []
wanted_of_all (e ∷ es) = cond (eqb (size_of_type e.type) 0) (wanted_of_all es) (e.nodes ++ wanted_of_all es)

pub record Unlisted (ns : List Node) (es : List Element) : Type 0 where
  pub element : Element
  pub number : ℕ
  pub given : Memᴰ element es
  pub ours : ¬ (size_of_type element.type ≡ 0)
  pub wants : Memᴰ number element.nodes
  pub absent : ¬ Memᴰ number (numbers_of ns)

abbrev pub Listed : List Node → List Element → Type 0
Listed ns es = (e : Element) → Memᴰ e es → ¬ (size_of_type e.type ≡ 0) → (n : ℕ) → Memᴰ n e.nodes → Memᴰ n (numbers_of ns)
