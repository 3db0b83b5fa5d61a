-- The corners of an element, and corners at one place (02, Ask 9: "A converter wrote two corner nodes at one place").
--   corners k        == the corner nodes of the kind, in its node order
--   corner k i       == the corner i among them
--   SamePlace xs a b == the nodes a and b stand at one place
--   SameTwo xs ks    == two of the nodes ks do, whichever two
--   Collapsed k xs   == two corner nodes do
-- Definitions only.
use Rattle.std.specs.Prelude.{◌≡◌, List, [], ◌∷◌, ℕ, ◌<◌, ℤ, length, get_or}
use Rattle.element.specs.Kinds.{Kind, six, eight, nine, ten}
use Rattle.element.specs.Nodes.{node}

-- "A0, A1, A2, .."; 00, 20, 02 and 22 of a quad, whose nodes stand in rows
abbrev pub corners : Kind → List ℕ
corners six = 0 ∷ 1 ∷ 2 ∷ []
corners eight = 0 ∷ 2 ∷ 5 ∷ 7 ∷ []
corners nine = 0 ∷ 2 ∷ 6 ∷ 8 ∷ []
corners ten = 0 ∷ 1 ∷ 2 ∷ []

abbrev pub corner : Kind → ℕ → ℕ
corner k i = get_or (corners k) i 0

abbrev pub SamePlace : List ℤ → ℕ → ℕ → Type 0
SamePlace xs a b = node xs a ≡ node xs b

pub record SameTwo (xs : List ℤ) (ks : List ℕ) : Type 0 where
  pub first : ℕ
  pub second : ℕ
  pub before : first < second
  pub within : second < length ks
  pub together : SamePlace xs (get_or ks first 0) (get_or ks second 0)

-- 21: any two corners, those of a quad's diagonal too; where the other nodes are is of no account
abbrev pub Collapsed : Kind → List ℤ → Type 0
Collapsed k xs = SameTwo xs (corners k)
