-- The ten-node triangle (02, "Ten-node triangles"): its control points, its slopes from them, and the fifteen control values of
-- J by relation 24 of document 004. Nodes: A0, A1, A2, two a third apart on each of the edges 01, 12, 20, and the centre.
--   beside a m n b    == twelve times the control point next to a on the edge from a to b with the nodes m, n
--   inner xs          == twelve times the inner control point
--   R10 xs i j k      == twelve times the control point (i, j, k), where i + j + k = 3
--   bezier R p q r    == 12w³·X, for twelvefold control points R at the weights p, q, r, with w = p + q + r
--   slopeξ, slopeη R p q r == 4w²·X_ξ and 4w²·X_η
--   J10 xs p q r      == their determinant, 16w⁴·J
--   value10 R I J K   == value (I, J, K): 192 times the Bézier coefficient of J
--   values10 xs       == the fifteen, by rising K, then rising J
--   sum10 c p q r     == the sum of value (I, J, K) times 4!/(I!J!K!)·p^I·q^J·r^K
-- Definitions only.
use Rattle.std.specs.Prelude.{cond, ◌&&◌, List, ℕ, zero, suc, ◌+◌, ◌*◌, ◌/◌, eqb, ℤ, pos, ◌*ℤ◌, get_or}
use Rattle.forms.specs.Binomials.{multinomial}
use Rattle.forms.specs.Triangles.{fifteen, begin10}
use Rattle.element.specs.Plane.{Vec, ◌+ᵥ◌, ◌-ᵥ◌, ◌*ᵥ◌, det, sum3, sum3ᵥ, power}
use Rattle.element.specs.Nodes.{node, A0, A1, A2}

-- "An edge control point next to A is (-5A + 18M - 9N + 2B)/6, M the nearer node"
abbrev pub beside : Vec → Vec → Vec → Vec → Vec
beside a m n b = pos 2 *ᵥ (pos 18 *ᵥ m -ᵥ pos 5 *ᵥ a -ᵥ pos 9 *ᵥ n +ᵥ pos 2 *ᵥ b)

module _ (xs : List ℤ) where
  abbrev pub corner_sum : Vec
  corner_sum = A0 xs +ᵥ A1 xs +ᵥ A2 xs

  abbrev pub edge_sum : Vec
  edge_sum = node xs 3 +ᵥ node xs 4 +ᵥ node xs 5 +ᵥ node xs 6 +ᵥ node xs 7 +ᵥ node xs 8

  -- "twelve times the inner one is 54 times the centre plus 4 times the corners minus 9 times the edge nodes"
  abbrev pub inner : Vec
  inner = pos 54 *ᵥ node xs 9 +ᵥ pos 4 *ᵥ corner_sum -ᵥ pos 9 *ᵥ edge_sum

  -- i, j, k go with A0, A1, A2
  abbrev pub R10 : ℕ → ℕ → ℕ → Vec
  R10 zero zero k = pos 12 *ᵥ A2 xs
  R10 zero (suc zero) k = beside (A2 xs) (node xs 6) (node xs 5) (A1 xs)
  R10 zero (suc (suc zero)) k = beside (A1 xs) (node xs 5) (node xs 6) (A2 xs)
  R10 zero (suc (suc (suc j))) k = pos 12 *ᵥ A1 xs
  R10 (suc zero) zero k = beside (A2 xs) (node xs 7) (node xs 8) (A0 xs)
  R10 (suc zero) (suc zero) k = inner
  R10 (suc zero) (suc (suc j)) k = beside (A1 xs) (node xs 4) (node xs 3) (A0 xs)
  R10 (suc (suc zero)) zero k = beside (A0 xs) (node xs 8) (node xs 7) (A2 xs)
  R10 (suc (suc zero)) (suc j) k = beside (A0 xs) (node xs 3) (node xs 4) (A1 xs)
  R10 (suc (suc (suc i))) j k = pos 12 *ᵥ A0 xs

-- (i+j+k)!/(i!j!k!)·p^i·q^j·r^k
abbrev pub blend : ℤ → ℤ → ℤ → ℕ → ℕ → ℕ → ℤ
blend p q r i j k = pos (multinomial i j k) *ℤ (power p i *ℤ power q j *ℤ power r k)

module _ (R : ℕ → ℕ → ℕ → Vec) where
  unfoldable pub bezier : ℤ → ℤ → ℤ → Vec
  bezier p q r = sum3ᵥ 3 (λ i j k. blend p q r i j k *ᵥ R i j k)

  -- towards A1, and towards A2
  abbrev pub along : ℕ → ℕ → ℕ → Vec
  along i j k = R i (j + 1) k -ᵥ R (i + 1) j k

  abbrev pub aside : ℕ → ℕ → ℕ → Vec
  aside i j k = R i j (k + 1) -ᵥ R (i + 1) j k

  -- "the sum over i+j+k = 2 of 2!/(i!j!k!)·p^i·q^j·r^k·(R(i,j+1,k) - R(i+1,j,k))"
  unfoldable pub slopeξ : ℤ → ℤ → ℤ → Vec
  slopeξ p q r = sum3ᵥ 2 (λ i j k. blend p q r i j k *ᵥ along i j k)

  -- "the same with R(i,j,k+1) for R(i,j+1,k)"
  unfoldable pub slopeη : ℤ → ℤ → ℤ → Vec
  slopeη p q r = sum3ᵥ 2 (λ i j k. blend p q r i j k *ᵥ aside i j k)

  -- relation 24: the terms with i1+i2 = I, j1+j2 = J, k1+k2 = K
  abbrev pub term10 : ℕ → ℕ → ℕ → ℕ → ℕ → ℕ → ℕ → ℕ → ℕ → ℤ
  term10 I J K i1 j1 k1 i2 j2 k2 =
      cond (eqb (i1 + i2) I && eqb (j1 + j2) J && eqb (k1 + k2) K)
      (pos (multinomial i1 j1 k1 * multinomial i2 j2 k2) *ℤ det (along i1 j1 k1) (aside i2 j2 k2)) (pos 0)

  -- 192·3²/12² = 12
  unfoldable pub value10 : ℕ → ℕ → ℕ → ℤ
  value10 I J K =
      pos (12 / multinomial I J K) *ℤ sum3 2 (λ i1 j1 k1. sum3 2 (λ i2 j2 k2. term10 I J K i1 j1 k1 i2 j2 k2))

unfoldable pub J10 : List ℤ → ℕ → ℕ → ℕ → ℤ
J10 xs p q r = det (slopeξ (R10 xs) (pos p) (pos q) (pos r)) (slopeη (R10 xs) (pos p) (pos q) (pos r))

unfoldable pub values10 : List ℤ → List ℤ
values10 xs = fifteen (value10 (R10 xs))

unfoldable pub sum10 : List ℤ → ℤ → ℤ → ℤ → ℤ
sum10 c p q r = sum3 4 (λ I J K. get_or c (begin10 K + J) (pos 0) *ℤ blend p q r I J K)
