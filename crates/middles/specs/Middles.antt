-- A six-node triangle with some of its middle nodes replaced (02, Ask 12: "The tool may replace any of the three middle nodes by the middle
-- of its edge, rounded down in each coordinate").
--   HalfDown s h    == h is half of s, rounded down: the greatest whole number whose double is not above s
--   half s          == that number
--   halfway a b     == the middle of two points, rounded down in each coordinate
--   Middle          == the three middle nodes
--   old_node xs m    == where the middle node m stands
--   middle_of xs m   == the middle of its edge
--   has s m         == whether the set s holds m
--   new_node xs s m  == where m stands once the nodes of s are replaced
--   replacing xs s  == the twelve coordinates then
--   spot m          == the place of m among the six nodes
--   placed xs r a b m == the node m, or where r says so the middle of the nodes a and b
--   as_node v        == a point as the struct of the code
-- A set is the struct `Replaced` of src/lib.rt, a bool for each middle node. xs is the coordinate list. Definitions only.
use Rattle.std.specs.Prelude.{Bool, cond, List, [], ◌∷◌, ℕ, ◌/◌, ℤ, pos, negsuc, ◌+ℤ◌, ◌≤ℤ◌, ◌<ℤ◌}
use Rattle.element.specs.Plane.{Vec}
use Rattle.element.specs.Nodes.{node, A0, A1, A2}
use Rattle.element.specs.Nodes as nodes
use Rattle.middles.specs.declared.Node.{Node}
use Rattle.middles.specs.declared.Replaced.{Replaced}

-- ---- "the middle of its edge, rounded down in each coordinate"
pub record HalfDown (s h : ℤ) : Type 0 where
  pub below : (h +ℤ h) ≤ℤ s
  pub next_above : s <ℤ ((h +ℤ pos 1) +ℤ (h +ℤ pos 1))

-- negsuc n is -(n + 1)
abbrev pub half : ℤ → ℤ
half (pos n) = pos (n / 2)
half (negsuc n) = negsuc (n / 2)

abbrev pub halfway : Vec → Vec → Vec
halfway a b = record { x = half (a.x +ℤ b.x); y = half (a.y +ℤ b.y) }

-- ---- "any of the three middle nodes"
pub data Middle : Type 0 where
  M01 M12 M02 : Middle

abbrev pub old_node : List ℤ → Middle → Vec
old_node xs M01 = nodes.M01 xs
old_node xs M12 = nodes.M12 xs
old_node xs M02 = nodes.M02 xs

abbrev pub middle_of : List ℤ → Middle → Vec
middle_of xs M01 = halfway (A0 xs) (A1 xs)
middle_of xs M12 = halfway (A1 xs) (A2 xs)
middle_of xs M02 = halfway (A0 xs) (A2 xs)

-- ---- replaced, or kept
abbrev pub has : Replaced → Middle → Bool
has s M01 = s.m01
has s M12 = s.m12
has s M02 = s.m02

abbrev pub new_node : List ℤ → Replaced → Middle → Vec
new_node xs s m = cond (has s m) (middle_of xs m) (old_node xs m)

abbrev pub flat : List Vec → List ℤ
flat [] = []
flat (v ∷ vs) = v.x ∷ v.y ∷ flat vs

-- "A0, A1, A2, M01, M12, M02"
unfoldable pub replacing : List ℤ → Replaced → List ℤ
replacing xs s = flat (A0 xs ∷ A1 xs ∷ A2 xs ∷ new_node xs s M01 ∷ new_node xs s M12 ∷ new_node xs s M02 ∷ [])

-- ---- in the code, and in a record's bytes
abbrev pub spot : Middle → ℕ
spot M01 = 3
spot M12 = 4
spot M02 = 5

abbrev pub placed : List ℤ → Bool → ℕ → ℕ → ℕ → Vec
placed xs r a b m = cond r (halfway (node xs a) (node xs b)) (node xs m)

abbrev pub as_node : Vec → Node
as_node v = record { x = v.x; y = v.y }
