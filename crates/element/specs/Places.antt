-- Places in an element: every rational point of the closed element, and the grid points of a level.
--   InTriangle  == ξ = q/(p+q+r), η = r/(p+q+r), for weights p, q, r, not all zero
--   InQuad      == u = p/m, v = q/n, with 0 ≤ p ≤ m, 0 ≤ q ≤ n, m and n above 0
--   whole x     == w = p + q + r
--   Place k     == the places of a kind
--   weight_of k x == what clears the fractions of J at the place x: w², w⁴ of ten nodes, or m³n³
--   OnGrid k d i j == (i, j) is a point of the grid of level d
--   AtGrid k d i j x == the place x is that point
-- Definitions only.
use Rattle.std.specs.Prelude.{◌≡◌, ℕ, ◌+◌, ◌*◌, ◌^◌, ◌≤◌, ◌<◌}
use Rattle.element.specs.Kinds.{Kind, six, eight, nine, ten}

pub record InTriangle : Type 0 where
  pub p : ℕ
  pub q : ℕ
  pub r : ℕ
  pub some : 0 < p + q + r

pub record InQuad : Type 0 where
  pub p : ℕ
  pub m : ℕ
  pub q : ℕ
  pub n : ℕ
  pub u_below : p ≤ m
  pub v_below : q ≤ n
  pub m_above : 0 < m
  pub n_above : 0 < n

abbrev pub Place : Kind → Type 0
Place six = InTriangle
Place eight = InQuad
Place nine = InQuad
Place ten = InTriangle

abbrev pub square : ℕ → ℕ
square n = n * n

abbrev pub cube : ℕ → ℕ
cube n = n * n * n

abbrev pub whole : InTriangle → ℕ
whole x = x.p + x.q + x.r

abbrev pub weight_of : (k : Kind) → Place k → ℕ
weight_of six x = square (whole x)
weight_of eight x = cube x.m * cube x.n
weight_of nine x = cube x.m * cube x.n
weight_of ten x = square (square (whole x))

-- ---- the grid of level d: "(i,j) for ξ or u = i/2^d, η or v = j/2^d; for triangles i + j ≤ 2^d"
abbrev pub OnGrid : Kind → ℕ → ℕ → ℕ → Type 0
OnGrid six d i j = i + j ≤ 2 ^ d
OnGrid eight d i j = (i ≤ 2 ^ d) × (j ≤ 2 ^ d)
OnGrid nine d i j = (i ≤ 2 ^ d) × (j ≤ 2 ^ d)
OnGrid ten d i j = i + j ≤ 2 ^ d

abbrev pub TriangleAt : ℕ → ℕ → ℕ → InTriangle → Type 0
TriangleAt d i j x = (x.q ≡ i) × (x.r ≡ j) × (whole x ≡ 2 ^ d)

abbrev pub QuadAt : ℕ → ℕ → ℕ → InQuad → Type 0
QuadAt d i j x = (x.p ≡ i) × (x.m ≡ 2 ^ d) × (x.q ≡ j) × (x.n ≡ 2 ^ d)

abbrev pub AtGrid : (k : Kind) → ℕ → ℕ → ℕ → Place k → Type 0
AtGrid six d i j x = TriangleAt d i j x
AtGrid eight d i j x = QuadAt d i j x
AtGrid nine d i j x = QuadAt d i j x
AtGrid ten d i j x = TriangleAt d i j x
