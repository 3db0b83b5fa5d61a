-- J from the nodes: the derivatives of the polynomial map through the nodes, and their determinant (01, "From nodes to
-- control values"). Control values are not mentioned here.
--   slopeξ, slopeη xs p q r   == w·X_ξ and w·X_η of a triangle at the weights p, q, r, with w = p + q + r
--   J6 xs p q r               == their determinant, w²·J
--   s p m i, s' p m i         == the shape functions of one direction and their slopes, at p/m
--   slope_u, slope_v N p m q n  == mn²·X_u and m²n·X_v of a quad with the nodes N at u = p/m, v = q/n
--   JQ N p m q n              == their determinant, m³n³·J
--   J9 xs p m q n             == that of nine nodes
--   fourfold8 xs i j          == four times the nodes of an eight-node quad, its centre by relation 31
--   J8 xs p m q n             == the determinant of both slopes taken fourfold, 16·m³n³·J
--   J10, of ten nodes, stands in Cubic: 16·w⁴·J
--   jacobian k xs x           == the determinant at the place x of an element of kind k
--   fold k                    == how many fold the slopes are taken: 4 for eight nodes and for ten, else 1
--   factor k x                == jacobian k xs x is so many times J at the place x: fold² times the weight of the place
--   BadBy k f d i j           == f, a whole number at each place, is not positive at the point (i, j) of the grid of level d
--   ShowsBy k f d i j z       == z is f divided by `factor` at that point, times the scale of level d, without division
--   Bad k xs d i j            == J is not positive at that point
--   Shows k xs d i j z        == z is J there times the scale of level d
-- Definitions only.
use Rattle.std.specs.Prelude.{◌≡◌, List, ℕ, zero, suc, ◌*◌, ℤ, pos, ◌+ℤ◌, ◌-ℤ◌, ◌*ℤ◌, ◌≤ℤ◌}
use Rattle.element.specs.Kinds.{Kind, six, eight, nine, ten, scale}
use Rattle.element.specs.Plane.{Vec, ◌+ᵥ◌, ◌-ᵥ◌, ◌*ᵥ◌, det, sumᵥ}
use Rattle.element.specs.Places.{Place, weight_of, AtGrid}
use Rattle.element.specs.Nodes.{A0, A1, A2, M01, M12, M02, A9, A8}
use Rattle.element.specs.Centre.{fourfold, centre_node}
use Rattle.element.specs.Cubic.{J10}

-- ---- triangle
-- "w·X_ξ = (4q-w)A1 - (4p-w)A0 + 4(p-q)M01 + 4r(M12-M02)"
unfoldable pub slopeξ : List ℤ → ℤ → ℤ → ℤ → Vec
slopeξ xs p q r =
    let w : ℤ = p +ℤ q +ℤ r in
    (pos 4 *ℤ q -ℤ w) *ᵥ A1 xs -ᵥ (pos 4 *ℤ p -ℤ w) *ᵥ A0 xs +ᵥ (pos 4 *ℤ (p -ℤ q)) *ᵥ M01 xs +ᵥ (pos 4 *ℤ r) *ᵥ (M12 xs -ᵥ M02 xs)

-- "w·X_η = (4r-w)A2 - (4p-w)A0 + 4(p-r)M02 + 4q(M12-M01)"
unfoldable pub slopeη : List ℤ → ℤ → ℤ → ℤ → Vec
slopeη xs p q r =
    let w : ℤ = p +ℤ q +ℤ r in
    (pos 4 *ℤ r -ℤ w) *ᵥ A2 xs -ᵥ (pos 4 *ℤ p -ℤ w) *ᵥ A0 xs +ᵥ (pos 4 *ℤ (p -ℤ r)) *ᵥ M02 xs +ᵥ (pos 4 *ℤ q) *ᵥ (M12 xs -ᵥ M01 xs)

unfoldable pub J6 : List ℤ → ℕ → ℕ → ℕ → ℤ
J6 xs p q r = det (slopeξ xs (pos p) (pos q) (pos r)) (slopeη xs (pos p) (pos q) (pos r))

-- ---- quad
-- "s0, s1, s2 be (m-p)(m-2p), 4p(m-p), p(2p-m)"
abbrev pub s : ℤ → ℤ → ℕ → ℤ
s p m zero = (m -ℤ p) *ℤ (m -ℤ pos 2 *ℤ p)
s p m (suc zero) = pos 4 *ℤ p *ℤ (m -ℤ p)
s p m (suc (suc i)) = p *ℤ (pos 2 *ℤ p -ℤ m)

-- "s'0, s'1, s'2 be 4p-3m, 4m-8p, 4p-m"
abbrev pub s' : ℤ → ℤ → ℕ → ℤ
s' p m zero = pos 4 *ℤ p -ℤ pos 3 *ℤ m
s' p m (suc zero) = pos 4 *ℤ m -ℤ pos 8 *ℤ p
s' p m (suc (suc i)) = pos 4 *ℤ p -ℤ m

-- "mn²·X_u is the sum of s'i·tj·Aij and m²n·X_v that of si·t'j·Aij, over i, j from 0 to 2"
unfoldable pub slope_u : (ℕ → ℕ → Vec) → ℤ → ℤ → ℤ → ℤ → Vec
slope_u N p m q n = sumᵥ 3 (λ i. sumᵥ 3 (λ j. (s' p m i *ℤ s q n j) *ᵥ N i j))

unfoldable pub slope_v : (ℕ → ℕ → Vec) → ℤ → ℤ → ℤ → ℤ → Vec
slope_v N p m q n = sumᵥ 3 (λ i. sumᵥ 3 (λ j. (s p m i *ℤ s' q n j) *ᵥ N i j))

abbrev pub JQ : (ℕ → ℕ → Vec) → ℕ → ℕ → ℕ → ℕ → ℤ
JQ N p m q n = det (slope_u N (pos p) (pos m) (pos q) (pos n)) (slope_v N (pos p) (pos m) (pos q) (pos n))

unfoldable pub J9 : List ℤ → ℕ → ℕ → ℕ → ℕ → ℤ
J9 xs p m q n = JQ (A9 xs) p m q n

unfoldable pub fourfold8 : List ℤ → ℕ → ℕ → Vec
fourfold8 xs = fourfold (A8 xs) (centre_node (A8 xs))

unfoldable pub J8 : List ℤ → ℕ → ℕ → ℕ → ℕ → ℤ
J8 xs p m q n = JQ (fourfold8 xs) p m q n

-- ---- at a point
abbrev pub jacobian : (k : Kind) → List ℤ → Place k → ℤ
jacobian six xs x = J6 xs x.p x.q x.r
jacobian eight xs x = J8 xs x.p x.m x.q x.n
jacobian nine xs x = J9 xs x.p x.m x.q x.n
jacobian ten xs x = J10 xs x.p x.q x.r

-- "for kind 8, A11 is the stated centre and both are taken fourfold"; "4w²·X_ξ" and "4w²·X_η" (02, Ask 11)
abbrev pub fold : Kind → ℕ
fold six = 1
fold eight = 4
fold nine = 1
fold ten = 4

abbrev pub factor : (k : Kind) → Place k → ℕ
factor k x = fold k * fold k * weight_of k x

-- ---- at a grid point, where f has a whole number for each place
pub record BadBy (k : Kind) (f : Place k → ℤ) (d i j : ℕ) : Type 0 where
  pub place : Place k
  pub at_point : AtGrid k d i j place
  pub not_positive : f place ≤ℤ pos 0

pub record ShowsBy (k : Kind) (f : Place k → ℤ) (d i j : ℕ) (z : ℤ) : Type 0 where
  pub place : Place k
  pub at_point : AtGrid k d i j place
  pub shown : pos (factor k place) *ℤ z ≡ pos (scale k d) *ℤ f place

-- "A point is bad when J ≤ 0 there"
abbrev pub Bad : Kind → List ℤ → ℕ → ℕ → ℕ → Type 0
Bad k xs = BadBy k (jacobian k xs)

-- "the scaled J there", with the table's "scale at level d"
abbrev pub Shows : Kind → List ℤ → ℕ → ℕ → ℕ → ℤ → Type 0
Shows k xs = ShowsBy k (jacobian k xs)
