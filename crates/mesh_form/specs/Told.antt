-- What the rows of a text say, rule by rule, as the proofs of the walk use it. That it is what Form says is proved in proofs/Told.
--   Told s q ns es == the rows q are sections; the nodes and elements of those that are read are ns and es; a format comes first of the
--                     three, or has come before (s)
-- For the three that are read no rule asks that their bodies hold no end row: none of their rows can be one.
-- Definitions only.
use Rattle.std.specs.Prelude.{Bool, true, ℕ}
use mathlib.Core.List.{List, [], ◌∷◌, ◌++◌, Memᴰ}
use Rattle.mesh_form.specs.Mesh.{Row, mark, ended, format, nodes, elements, Node, Element, FormatRow, NodeRow, ElementRow, Counted, Other}

pub data Told : Bool → List Row → List Node → List Element → Type 0 where
  over : Told true [] [] []
  format_section : {s : Bool} {r : Row} {q : List Row} {ns : List Node} {es : List Element}
      → FormatRow r
      → Told true q ns es
      → Told s (mark format ∷ r ∷ ended format ∷ q) ns es
  nodes_section : {b q : List Row} {xs ns : List Node} {es : List Element}
      → Counted NodeRow b xs
      → Told true q ns es
      → Told true (mark nodes ∷ (b ++ (ended nodes ∷ q))) (xs ++ ns) es
  elements_section : {b q : List Row} {ns : List Node} {xs es : List Element}
      → Counted ElementRow b xs
      → Told true q ns es
      → Told true (mark elements ∷ (b ++ (ended elements ∷ q))) ns (xs ++ es)
  other_section : {s : Bool} {x : List ℕ} {b q : List Row} {ns : List Node} {es : List Element}
      → Other x
      → ¬ Memᴰ (ended x) b
      → Told s q ns es
      → Told s (mark x ∷ (b ++ (ended x ∷ q))) ns es
