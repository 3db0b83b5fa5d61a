-- An element numbered from another corner, and the other way round (02, Ask 10: "turning a triangle's numbering by one corner, or a
-- quad's by a quarter turn").
--   turned_places k      == which node stands at each place when the numbering begins at the next corner
--   mirrored_places k    == and when it goes the other way round, from the same corner
--   nodes_at l xs        == the coordinate list of the nodes l of xs
--   turned k xs         == the element xs, numbered from the next corner
--   mirrored k xs       == the element xs, numbered the other way round
--   turned_by m k xs     == numbered from the m-th next corner
--   turned_point k n     == where a point of the grid of n parts stands in the turned numbering
--   point_by m k n       == after m turns
--   TurnedTo k x y      == the place x of the element stands at y in the turned numbering
--   MirroredTo k x y    == and in the mirrored one
-- Definitions only.
use Rattle.std.specs.Prelude.{◌≡◌, List, [], ◌∷◌, ℕ, zero, suc, ◌+◌, ◌*◌, ◌-◌, ℤ, pos, get_or}
use Rattle.element.specs.Kinds.{Kind, six, eight, nine, ten}
use Rattle.element.specs.Places.{InTriangle, InQuad, Place}

-- ---- nodes
-- a triangle from A1: A1, A2, A0, M12, M02, M01, and with ten nodes the two of 12, of 20 and of 01, and the centre; a quad from 20: its rows
-- are the columns, the last one first
abbrev pub turned_places : Kind → List ℕ
turned_places six = 1 ∷ 2 ∷ 0 ∷ 4 ∷ 5 ∷ 3 ∷ []
turned_places eight = 2 ∷ 4 ∷ 7 ∷ 1 ∷ 6 ∷ 0 ∷ 3 ∷ 5 ∷ []
turned_places nine = 2 ∷ 5 ∷ 8 ∷ 1 ∷ 4 ∷ 7 ∷ 0 ∷ 3 ∷ 6 ∷ []
turned_places ten = 1 ∷ 2 ∷ 0 ∷ 5 ∷ 6 ∷ 7 ∷ 8 ∷ 3 ∷ 4 ∷ 9 ∷ []

-- a triangle's A1 and A2, and so M01 and M02, exchanged, and with ten nodes all of the edges in the other direction; a quad's rows are the
-- columns
abbrev pub mirrored_places : Kind → List ℕ
mirrored_places six = 0 ∷ 2 ∷ 1 ∷ 5 ∷ 4 ∷ 3 ∷ []
mirrored_places eight = 0 ∷ 3 ∷ 5 ∷ 1 ∷ 6 ∷ 2 ∷ 4 ∷ 7 ∷ []
mirrored_places nine = 0 ∷ 3 ∷ 6 ∷ 1 ∷ 4 ∷ 7 ∷ 2 ∷ 5 ∷ 8 ∷ []
mirrored_places ten = 0 ∷ 2 ∷ 1 ∷ 8 ∷ 7 ∷ 6 ∷ 5 ∷ 4 ∷ 3 ∷ 9 ∷ []

abbrev pub nodes_at : List ℕ → List ℤ → List ℤ
nodes_at [] xs = []
nodes_at (k ∷ l) xs = get_or xs (2 * k) (pos 0) ∷ get_or xs (2 * k + 1) (pos 0) ∷ nodes_at l xs

abbrev pub turned : Kind → List ℤ → List ℤ
turned k xs = nodes_at (turned_places k) xs

abbrev pub mirrored : Kind → List ℤ → List ℤ
mirrored k xs = nodes_at (mirrored_places k) xs

abbrev pub turned_by : ℕ → Kind → List ℤ → List ℤ
turned_by zero k xs = xs
turned_by (suc m) k xs = turned k (turned_by m k xs)

-- ---- points of a grid
abbrev pub turned_point : Kind → ℕ → ℕ × ℕ → ℕ × ℕ
turned_point six n (i, j) = (j, n - i - j)
turned_point eight n (i, j) = (j, n - i)
turned_point nine n (i, j) = (j, n - i)
turned_point ten n (i, j) = (j, n - i - j)

abbrev pub point_by : ℕ → Kind → ℕ → ℕ × ℕ → ℕ × ℕ
point_by zero k n a = a
point_by (suc m) k n a = turned_point k n (point_by m k n a)

-- ---- places
-- u, v become v, 1 - u
abbrev pub QuadTurned : InQuad → InQuad → Type 0
QuadTurned x y = (y.p ≡ x.q) × (y.m ≡ x.n) × (y.q ≡ x.m - x.p) × (y.n ≡ x.m)

-- the weights p, q, r become q, r, p
abbrev pub TriangleTurned : InTriangle → InTriangle → Type 0
TriangleTurned x y = (y.p ≡ x.q) × (y.q ≡ x.r) × (y.r ≡ x.p)

abbrev pub TurnedTo : (k : Kind) → Place k → Place k → Type 0
TurnedTo six x y = TriangleTurned x y
TurnedTo eight x y = QuadTurned x y
TurnedTo nine x y = QuadTurned x y
TurnedTo ten x y = TriangleTurned x y

-- u, v become v, u
abbrev pub QuadMirrored : InQuad → InQuad → Type 0
QuadMirrored x y = (y.p ≡ x.q) × (y.m ≡ x.n) × (y.q ≡ x.p) × (y.n ≡ x.m)

-- the weights p, q, r become p, r, q
abbrev pub TriangleMirrored : InTriangle → InTriangle → Type 0
TriangleMirrored x y = (y.p ≡ x.p) × (y.q ≡ x.r) × (y.r ≡ x.q)

abbrev pub MirroredTo : (k : Kind) → Place k → Place k → Type 0
MirroredTo six x y = TriangleMirrored x y
MirroredTo eight x y = QuadMirrored x y
MirroredTo nine x y = QuadMirrored x y
MirroredTo ten x y = TriangleMirrored x y
