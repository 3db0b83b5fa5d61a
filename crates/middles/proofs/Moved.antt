-- A triangle that is moved by a whole vector: the middles of its edges go along (02, Ask 7).
--   halfway-moved   : the middle of two points
--   new-moved       : the middle nodes, replaced or kept
--   replaced-moved  : and so the triangle with nodes replaced
-- (a, b) is the vector taken from each node. Assumes nothing.
use mathlib.Core.Path.{◌≡◌, ◌∙◌, ap₂}
use mathlib.Core.Bool.{Bool, true, false, cond}
use mathlib.Core.List.{List, [], ◌∷◌}
use Prim.Native.Nat.{ℕ, ◌<◌}
use native.Mathlib.Omega.{arith}
use lib.IntN.{ℤ}
use lib.ListN.{length}
use Rattle.element.specs.Plane.{Vec, ◌-ᵥ◌}
use Rattle.element.specs.Nodes.{node}
use Rattle.element.specs.Origin.{moved_by}
use Rattle.element.proofs.Plane.{vec-eq}
use Rattle.element.proofs.Origin.{moved-node}
use Rattle.middles.specs.declared.Replaced.{Replaced}
use Rattle.middles.specs.Middles.{halfway, Middle, M01, M12, M02, old_node, middle_of, has, new_node, flat, replacing}
use Rattle.middles.proofs.Halves.{half-moved}

pub halfway-moved : (u v o : Vec) → halfway (u -ᵥ o) (v -ᵥ o) ≡ halfway u v -ᵥ o
halfway-moved u v o = vec-eq (half-moved u.x v.x o.x) (half-moved u.y v.y o.y)

module _ (a b : ℤ) (xs : List ℤ) (long : length xs ≡ 12) where
  abbrev ys : List ℤ
  ys = moved_by a b xs

  abbrev o : Vec
  o = record { x = a; y = b }

  at-node : (k : ℕ) → k < 6 → node ys k ≡ node xs k -ᵥ o
  at-node k h = moved-node a b xs k (omega arith)

  old-moved : (m : Middle) → old_node ys m ≡ old_node xs m -ᵥ o
  old-moved M01 = at-node 3 (omega arith)
  old-moved M12 = at-node 4 (omega arith)
  old-moved M02 = at-node 5 (omega arith)

  middle-moved : (m : Middle) → middle_of ys m ≡ middle_of xs m -ᵥ o
  middle-moved M01 = ap₂ halfway (at-node 0 (omega arith)) (at-node 1 (omega arith)) ∙ halfway-moved (node xs 0) (node xs 1) o
  middle-moved M12 = ap₂ halfway (at-node 1 (omega arith)) (at-node 2 (omega arith)) ∙ halfway-moved (node xs 1) (node xs 2) o
  middle-moved M02 = ap₂ halfway (at-node 0 (omega arith)) (at-node 2 (omega arith)) ∙ halfway-moved (node xs 0) (node xs 2) o

  pub new-moved : (s : Replaced) (m : Middle) → new_node (moved_by a b xs) s m ≡ new_node xs s m -ᵥ record { x = a; y = b }
  new-moved s m = go (has s m)
    where
      go : (c : Bool) → cond c (middle_of ys m) (old_node ys m) ≡ cond c (middle_of xs m) (old_node xs m) -ᵥ o
      go true = middle-moved m
      go false = old-moved m

  pub replaced-moved : (s : Replaced) → replacing (moved_by a b xs) s ≡ moved_by a b (replacing xs s)
  unfolding replacing
  replaced-moved s i =
      flat
      (at-node 0 (omega arith) i
      ∷ at-node 1 (omega arith) i
      ∷ at-node 2 (omega arith) i
      ∷ new-moved s M01 i
      ∷ new-moved s M12 i
      ∷ new-moved s M02 i
      ∷ [])
