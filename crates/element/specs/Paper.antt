-- The Bézier coefficients of J by George, Borouchaki and Barral: relation 24 for triangles of any degree, and relation 27 for
-- quads of degree 2 (q = 3), with fractions cleared. Their corners i, j, k are our A0, A1, A2, so that their Δ100 runs from
-- A0 towards A1 (our ξ) and their Δ010 from A0 towards A2 (our η); their u and v are ours.
--   Q xs i j k      == twice the control point P_ijk of a triangle of six nodes; R10 has twelve times those of ten
--   Δ100, Δ010 R i j k == the differences at the point R_ijk
--   relation24 R d I J K == the sum of relation 24 for a triangle of degree d, over multiples R of its control points
--   Times24 s f d R I J K c == c is s times the coefficient N_IJK of relation 24, where R is f times the control points
--   relation27 R I J == the sum of relation 27, over the fourfold points
--   Times27 s R I J c == c is s times the coefficient N_IJ of relation 27
-- A division of the paper is said as a multiplication of the other side. Its points are P, so that f²·|ΔP ΔP| = |ΔR ΔR| where R = f·P;
-- a quad has f = 4, and the degree d = 2.
-- Definitions only.
use Rattle.std.specs.Prelude.{◌≡◌, cond, ◌&&◌, List, ℕ, zero, suc, ◌+◌, ◌*◌, ◌-◌, ◌^◌, eqb, ℤ, pos, ◌*ℤ◌}
use Rattle.forms.specs.Binomials.{choose, multinomial}
use Rattle.element.specs.Plane.{Vec, ◌-ᵥ◌, det, sum, sum3}
use Rattle.element.specs.Control.{Q00, Q11, Q22, Q01, Q12, Q02, α, β}

-- i + j + k = 2
abbrev pub Q : List ℤ → ℕ → ℕ → ℕ → Vec
Q xs zero zero k = Q22 xs
Q xs zero (suc zero) k = Q12 xs
Q xs zero (suc (suc j)) k = Q11 xs
Q xs (suc zero) zero k = Q02 xs
Q xs (suc zero) (suc j) k = Q01 xs
Q xs (suc (suc i)) j k = Q00 xs

-- "Δ100 is from P_ijk to P_i-1,j+1,k and Δ010 to P_i-1,j,k+1"
module _ (R : ℕ → ℕ → ℕ → Vec) where
  abbrev pub Δ100 : ℕ → ℕ → ℕ → Vec
  Δ100 i j k = R (i - 1) (j + 1) k -ᵥ R i j k

  abbrev pub Δ010 : ℕ → ℕ → ℕ → Vec
  Δ010 i j k = R (i - 1) j (k + 1) -ᵥ R i j k

  -- over i1+i2 = I, j1+j2 = J, k1+k2 = K with i1+j1+k1 = i2+j2+k2 = d - 1
  unfoldable pub relation24 : ℕ → ℕ → ℕ → ℕ → ℤ
  relation24 d I J K =
      sum3 (d - 1) (λ i1 j1 k1. sum3 (d - 1) (λ i2 j2 k2.
      cond (eqb (i1 + i2) I && eqb (j1 + j2) J && eqb (k1 + k2) K)
      (pos (multinomial i1 j1 k1 * multinomial i2 j2 k2) *ℤ det (Δ100 (i1 + 1) j1 k1) (Δ010 (i2 + 1) j2 k2)) (pos 0)))

-- "N_IJK = d² · (the sum) / C_IJK", C_IJK of degree 2(d - 1), over the points P
abbrev pub Times24 : ℕ → ℕ → ℕ → (ℕ → ℕ → ℕ → Vec) → ℕ → ℕ → ℕ → ℤ → Type 0
Times24 s f d R I J K c = pos (f ^ 2 * multinomial I J K) *ℤ c ≡ pos (s * d ^ 2) *ℤ relation24 R d I J K

-- over i1+i2 = I and j1+j2 = J with i1, j2 from 0 to 1 and i2, j1 from 0 to 2
unfoldable pub relation27 : (ℕ → ℕ → Vec) → ℕ → ℕ → ℤ
relation27 R I J =
    sum 2 (λ i1. sum 3 (λ i2. sum 3 (λ j1. sum 2 (λ j2.
    cond (eqb (i1 + i2) I && eqb (j1 + j2) J)
    (pos (choose 1 i1 * choose 2 i2 * choose 2 j1 * choose 1 j2) *ℤ det (α R i1 j1) (β R i2 j2)) (pos 0)))))

-- "N_IJ = d² · (the sum) / (C³_I·C³_J)", over the points P
abbrev pub Times27 : ℕ → (ℕ → ℕ → Vec) → ℕ → ℕ → ℤ → Type 0
Times27 s R I J c = pos (4 ^ 2 * (choose 3 I * choose 3 J)) *ℤ c ≡ pos (s * 2 ^ 2) *ℤ relation27 R I J
