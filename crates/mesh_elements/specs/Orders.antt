-- The order of an element's nodes, Gmsh's and ours (docs/GMSH.md, G24).
--   Place            == a point of the reference element, in halves of its sides: along ξ or u, and along η or v
--   gmsh_places k     == where Gmsh's nodes of an element of the type k stand, in Gmsh's order
--   our_places n      == where the nodes of an element of the kind n stand, in ours
--   order k          == for each node of ours, in our order, the place in Gmsh's order that it is taken from
--   reordered k ms   == the node numbers ms of a row of the type k, in our order
-- A type of ours has as many nodes as its kind says: the kind is `size_of_type` of mesh_form.
-- Definitions only; that each node of ours stands where Gmsh's does is proved in proofs/Orders.
use Rattle.std.specs.Prelude.{cond, List, [], ◌∷◌, map, ℕ, eqb, get_or, take}

pub record Place : Type 0 where
  pub along : ℕ
  pub up : ℕ

abbrev pub at : ℕ → ℕ → Place
at i j = record { along = i; up = j }

-- "2 / 5 4 / 0 3 1": corners, then the middles of the sides 01, 12, 02
abbrev pub triangle : List Place
triangle = at 0 0 ∷ at 2 0 ∷ at 0 2 ∷ at 1 0 ∷ at 1 1 ∷ at 0 1 ∷ []

-- "3 6 2 / 7 8 5 / 0 4 1": corners around, the middles of the sides around, the centre
abbrev pub around : List Place
around = at 0 0 ∷ at 2 0 ∷ at 2 2 ∷ at 0 2 ∷ at 1 0 ∷ at 2 1 ∷ at 1 2 ∷ at 0 1 ∷ at 1 1 ∷ []

unfoldable pub gmsh_places : ℕ → List Place
gmsh_places k = cond (eqb k 9) triangle (cond (eqb k 10) around (cond (eqb k 16) (take 8 around) []))

-- 01: "A0 A1 A2 M01 M12 M02"; "00 10 20 01 11 21 02 12 22"; kind 8 without 11
unfoldable pub our_places : ℕ → List Place
our_places n =
    cond (eqb n 6) triangle
    (cond (eqb n 9) (at 0 0 ∷ at 1 0 ∷ at 2 0 ∷ at 0 1 ∷ at 1 1 ∷ at 2 1 ∷ at 0 2 ∷ at 1 2 ∷ at 2 2 ∷ [])
    (cond (eqb n 8) (at 0 0 ∷ at 1 0 ∷ at 2 0 ∷ at 0 1 ∷ at 2 1 ∷ at 0 2 ∷ at 1 2 ∷ at 2 2 ∷ []) []))

unfoldable pub order : ℕ → List ℕ
order k =
    cond (eqb k 9) (0 ∷ 1 ∷ 2 ∷ 3 ∷ 4 ∷ 5 ∷ [])
    (cond (eqb k 10) (0 ∷ 4 ∷ 1 ∷ 7 ∷ 8 ∷ 5 ∷ 3 ∷ 6 ∷ 2 ∷ [])
    (cond (eqb k 16) (0 ∷ 4 ∷ 1 ∷ 7 ∷ 5 ∷ 3 ∷ 6 ∷ 2 ∷ []) []))

abbrev pub reordered : ℕ → List ℕ → List ℕ
reordered k ms = map (λ j. get_or ms j 0) (order k)
