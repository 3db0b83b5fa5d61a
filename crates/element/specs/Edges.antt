-- The edges of an element, by the corners that they join; corners are numbered as `corners` lists them (02, Ask 9).
--   spots k, spot k i == the points of the grid of level 0 where the corners are
--   Diagonal k i j   == no edge joins the corners i and j
--   Quadratic k      == an edge is a curve of degree 2, with one node between its corners
--   AtMiddle k i j x == the place x is the middle between the corners i and j, a point of the grid of level 1
-- Definitions only.
use Rattle.std.specs.Prelude.{◌≡◌, List, [], ◌∷◌, ℕ, ◌+◌, get_or}
use Rattle.element.specs.Kinds.{Kind, six, eight, nine, ten}
use Rattle.element.specs.Places.{Place, AtGrid}

abbrev pub spots : Kind → List (ℕ × ℕ)
spots six = (0, 0) ∷ (1, 0) ∷ (0, 1) ∷ []
spots eight = (0, 0) ∷ (1, 0) ∷ (0, 1) ∷ (1, 1) ∷ []
spots nine = (0, 0) ∷ (1, 0) ∷ (0, 1) ∷ (1, 1) ∷ []
spots ten = (0, 0) ∷ (1, 0) ∷ (0, 1) ∷ []

abbrev pub spot : Kind → ℕ → ℕ × ℕ
spot k i = get_or (spots k) i (0, 0)

-- any two corners of a triangle have an edge; of a quad 00 and 22, and 20 and 02, have none
abbrev pub Diagonal : Kind → ℕ → ℕ → Type 0
Diagonal six i j = ⊥
Diagonal eight i j = i + j ≡ 3
Diagonal nine i j = i + j ≡ 3
Diagonal ten i j = ⊥

abbrev pub Quadratic : Kind → Type 0
Quadratic six = Unit {0}
Quadratic eight = Unit {0}
Quadratic nine = Unit {0}
Quadratic ten = ⊥

-- halfway between two points of level 0 is, at level 1, their sum
abbrev pub AtMiddle : (k : Kind) → ℕ → ℕ → Place k → Type 0
AtMiddle k i j = AtGrid k 1 ((spot k i).0 + (spot k j).0) ((spot k i).1 + (spot k j).1)
