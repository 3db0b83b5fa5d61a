-- Control values of an element from its nodes, and the sums over them (01, "From nodes to control values").
--   Q00 .. Q02 xs       == doubled control points of a triangle
--   a0 .. a2, b0 .. b2 xs == their differences
--   values6 xs          == c00, c11, c22, c01, c12, c02
--   edge m a b          == the fourfold control point of a quad's edge
--   centre9 A, centre8 A == and at the centre, of nine nodes and of eight
--   points A c          == all nine, with the given one at the centre
--   R9, R8 xs i j       == the fourfold control point ij
--   α, β R i j          == differences along u and along v
--   value R I J         == value (I, J), by the sum over the four indices
--   control_values k xs  == the control values of the element; those of ten nodes stand in Cubic
--   sum6 c p q r        == c00p² + c11q² + c22r² + 2(c01pq + c12qr + c02pr)
--   sum9 c p m q n      == the sum of value (I, J) times C(3,I)·C(3,J)·p^I·(m-p)^(3-I)·q^J·(n-q)^(3-J)
--   control_sum k c x    == the sum of the kind at a place of the element
-- Definitions only.
use Rattle.std.specs.Prelude.{cond, ◌&&◌, List, [], ◌∷◌, ℕ, zero, suc, ◌+◌, ◌*◌, ◌-◌, ◌/◌, eqb, ℤ, pos, ◌+ℤ◌, ◌-ℤ◌, ◌*ℤ◌, get_or}
use Rattle.forms.specs.Binomials.{choose}
use Rattle.forms.specs.Quads.{sixteen}
use Rattle.element.specs.Kinds.{Kind, six, eight, nine, ten}
use Rattle.element.specs.Places.{Place}
use Rattle.element.specs.Plane.{Vec, ◌+ᵥ◌, ◌-ᵥ◌, ◌*ᵥ◌, det, sum, power}
use Rattle.element.specs.Cubic.{values10, sum10}
use Rattle.element.specs.Nodes.{A0, A1, A2, M01, M12, M02, A9, A8}
use Rattle.element.specs.Centre.{corner_sum, edge_sum}

-- ---- triangle: "Qkk = 2Ak, Qkl = 4Mkl - Ak - Al"
abbrev pub doubled : Vec → Vec
doubled a = pos 2 *ᵥ a

abbrev pub between : Vec → Vec → Vec → Vec
between m a b = pos 4 *ᵥ m -ᵥ a -ᵥ b

module _ (xs : List ℤ) where
  abbrev pub Q00 : Vec
  Q00 = doubled (A0 xs)

  abbrev pub Q11 : Vec
  Q11 = doubled (A1 xs)

  abbrev pub Q22 : Vec
  Q22 = doubled (A2 xs)

  abbrev pub Q01 : Vec
  Q01 = between (M01 xs) (A0 xs) (A1 xs)

  abbrev pub Q12 : Vec
  Q12 = between (M12 xs) (A1 xs) (A2 xs)

  abbrev pub Q02 : Vec
  Q02 = between (M02 xs) (A0 xs) (A2 xs)

  abbrev pub a0 : Vec
  a0 = Q01 -ᵥ Q00

  abbrev pub a1 : Vec
  a1 = Q11 -ᵥ Q01

  abbrev pub a2 : Vec
  a2 = Q12 -ᵥ Q02

  abbrev pub b0 : Vec
  b0 = Q02 -ᵥ Q00

  abbrev pub b1 : Vec
  b1 = Q12 -ᵥ Q01

  abbrev pub b2 : Vec
  b2 = Q22 -ᵥ Q02

  -- "ckk = 2 det(ak,bk); ckl = det(ak,bl) + det(al,bk)"
  unfoldable pub values6 : List ℤ
  values6 =
      (pos 2 *ℤ det a0 b0) ∷ (pos 2 *ℤ det a1 b1) ∷ (pos 2 *ℤ det a2 b2)
      ∷ (det a0 b1 +ℤ det a1 b0) ∷ (det a1 b2 +ℤ det a2 b1) ∷ (det a0 b2 +ℤ det a2 b0) ∷ []

-- ---- quad: "corner 4A; edge 8M - 2A - 2B; centre 16·A11 - 4·(sum of edge nodes) + (sum of corners)"
abbrev pub edge : Vec → Vec → Vec → Vec
edge m a b = pos 8 *ᵥ m -ᵥ pos 2 *ᵥ a -ᵥ pos 2 *ᵥ b

module _ (A : ℕ → ℕ → Vec) where
  abbrev pub centre9 : Vec
  centre9 = pos 16 *ᵥ A 1 1 -ᵥ pos 4 *ᵥ edge_sum A +ᵥ corner_sum A

  -- "the fourfold centre control point is four times the edge sum minus three times the corner sum"
  abbrev pub centre8 : Vec
  centre8 = pos 4 *ᵥ edge_sum A -ᵥ pos 3 *ᵥ corner_sum A

  -- corners and edges from the nodes A, and the given centre
  abbrev pub points : Vec → ℕ → ℕ → Vec
  points c zero zero = pos 4 *ᵥ A 0 0
  points c (suc zero) zero = edge (A 1 0) (A 0 0) (A 2 0)
  points c (suc (suc i)) zero = pos 4 *ᵥ A 2 0
  points c zero (suc zero) = edge (A 0 1) (A 0 0) (A 0 2)
  points c (suc zero) (suc zero) = c
  points c (suc (suc i)) (suc zero) = edge (A 2 1) (A 2 0) (A 2 2)
  points c zero (suc (suc j)) = pos 4 *ᵥ A 0 2
  points c (suc zero) (suc (suc j)) = edge (A 1 2) (A 0 2) (A 2 2)
  points c (suc (suc i)) (suc (suc j)) = pos 4 *ᵥ A 2 2

abbrev pub R9 : List ℤ → ℕ → ℕ → Vec
R9 xs = points (A9 xs) (centre9 (A9 xs))

abbrev pub R8 : List ℤ → ℕ → ℕ → Vec
R8 xs = points (A8 xs) (centre8 (A8 xs))

module _ (R : ℕ → ℕ → Vec) where
  abbrev pub α : ℕ → ℕ → Vec
  α i j = R (i + 1) j -ᵥ R i j

  abbrev pub β : ℕ → ℕ → Vec
  β i j = R i (j + 1) -ᵥ R i j

  -- "C(2,i2)·C(2,j1)·det(α(i1,j1), β(i2,j2))", where i1+i2 = I and j1+j2 = J
  abbrev pub term : ℕ → ℕ → ℕ → ℕ → ℕ → ℕ → ℤ
  term I J i1 i2 j1 j2 =
      cond (eqb (i1 + i2) I && eqb (j1 + j2) J) (pos (choose 2 i2 * choose 2 j1) *ℤ det (α i1 j1) (β i2 j2)) (pos 0)

  -- "9/(C(3,I)·C(3,J)) times the sum .. with i1, j2 from 0 to 1 and i2, j1 from 0 to 2"
  unfoldable pub value : ℕ → ℕ → ℤ
  value I J =
      pos (9 / (choose 3 I * choose 3 J)) *ℤ sum 2 (λ i1. sum 3 (λ i2. sum 3 (λ j1. sum 2 (λ j2. term I J i1 i2 j1 j2))))

-- "Place in the list: I + 4J"
unfoldable pub control_values : Kind → List ℤ → List ℤ
control_values six xs = values6 xs
control_values eight xs = sixteen (value (R8 xs))
control_values nine xs = sixteen (value (R9 xs))
control_values ten xs = values10 xs

-- ---- the sums over the control values c
abbrev pub at : List ℤ → ℕ → ℤ
at c k = get_or c k (pos 0)

unfoldable pub sum6 : List ℤ → ℤ → ℤ → ℤ → ℤ
sum6 c p q r =
    at c 0 *ℤ (p *ℤ p) +ℤ at c 1 *ℤ (q *ℤ q) +ℤ at c 2 *ℤ (r *ℤ r)
    +ℤ pos 2 *ℤ (at c 3 *ℤ (p *ℤ q) +ℤ at c 4 *ℤ (q *ℤ r) +ℤ at c 5 *ℤ (p *ℤ r))

abbrev pub bernstein : ℤ → ℤ → ℕ → ℤ
bernstein p m I = pos (choose 3 I) *ℤ (power p I *ℤ power (m -ℤ p) (3 - I))

unfoldable pub sum9 : List ℤ → ℤ → ℤ → ℤ → ℤ → ℤ
sum9 c p m q n = sum 4 (λ I. sum 4 (λ J. at c (I + 4 * J) *ℤ (bernstein p m I *ℤ bernstein q n J)))

-- at a place of the element
abbrev pub control_sum : (k : Kind) → List ℤ → Place k → ℤ
control_sum six c x = sum6 c (pos x.p) (pos x.q) (pos x.r)
control_sum eight c x = sum9 c (pos x.p) (pos x.m) (pos x.q) (pos x.n)
control_sum nine c x = sum9 c (pos x.p) (pos x.m) (pos x.q) (pos x.n)
control_sum ten c x = sum10 c (pos x.p) (pos x.q) (pos x.r)
