-- What is taken of a mesh: its elements of the types 9, 10 and 16, each with its coordinates (02, Ask 1; docs/GMSH.md, G17, G22 to G24).
--   Ours e           == e is of one of these types
--   IsWhole w, Flat n == w is a whole coordinate; x and y of the node are, and z is 0
--   NotFlat ns       == code 14: some node is not flat; code 15 is `Unlisted` of mesh_numbers
--   At ns n x y      == the node of number n stands at x, y
--   Points ns ms xs  == xs are the coordinates of the nodes of numbers ms, in turn
--   Takings level ns es gs p == gs are what is taken of es, in order, each with this level limit; p of es are of other types, and are passed over
-- Given is what a call of `append_record` is given: id, kind, level limit and coordinates.
-- Definitions only.
use Rattle.std.specs.Prelude.{◌≡◌, ℕ, suc, ℤ, pos}
use mathlib.Core.List.{List, [], ◌∷◌, Memᴰ}
use Rattle.append.specs.Series.{Given}
use Rattle.mesh_text.specs.Words.{WholeValue}
use Rattle.mesh_form.specs.Mesh.{Node, Element}
use Rattle.mesh_form.specs.Values.{size_of_type}
use Rattle.mesh_elements.specs.Orders.{reordered}

abbrev pub Ours : Element → Type 0
Ours e = ¬ (size_of_type e.type ≡ 0)

-- ---- 14: "a coordinate of any node not whole or z not 0"
abbrev pub IsWhole : List ℕ → Type 0
IsWhole w = (z : ℤ) × WholeValue w z

pub record Flat (n : Node) : Type 0 where
  pub x_whole : IsWhole n.x
  pub y_whole : IsWhole n.y
  pub z_zero : WholeValue n.z (pos 0)

abbrev pub NotFlat : List Node → Type 0
NotFlat ns = (n : Node) × (Memᴰ n ns × ¬ Flat n)

-- ---- what is taken
pub record At (ns : List Node) (n : ℕ) (x y : ℤ) : Type 0 where
  pub node : Node
  pub listed : Memᴰ node ns
  pub numbered : node.number ≡ n
  pub x_is : WholeValue node.x x
  pub y_is : WholeValue node.y y

pub data Points (ns : List Node) : List ℕ → List ℤ → Type 0 where
  no_points : Points ns [] []
  point : {n : ℕ} {x y : ℤ} {ms : List ℕ} {xs : List ℤ} → At ns n x y → Points ns ms xs → Points ns (n ∷ ms) (x ∷ y ∷ xs)

-- "Element numbers become ids"; the kind is the number of nodes
pub data Takings (level : ℕ) (ns : List Node) : List Element → List Given → ℕ → Type 0 where
  nothing : Takings level ns [] [] 0
  taken : {e : Element} {es : List Element} {gs : List Given} {p : ℕ} {xs : List ℤ}
      → Ours e
      → Points ns (reordered e.type e.nodes) xs
      → Takings level ns es gs p
      → Takings level ns (e ∷ es) (record { id = e.number; kind = size_of_type e.type; limit = level; coords = xs } ∷ gs) p
  passed : {e : Element} {es : List Element} {gs : List Given} {p : ℕ} → ¬ Ours e → Takings level ns es gs p → Takings level ns (e ∷ es) gs (suc p)
