-- How large coordinates, differences and determinants are.
--   place-≤          : places are not later than the nodes
--   coordinates-ten : the coordinates along one axis
--   step_small, across-small : of points within 786432
-- Assumes nothing.
use mathlib.Core.Bool.{cond}
use mathlib.Core.List.{List}
use Prim.Native.Nat.{ℕ, ◌+◌, ◌*◌, ◌-◌, ◌≤◌, zero-le}
use native.Mathlib.Omega.{arith}
use lib.Dec.{ltb}
use lib.IntN.{ℤ, pos}
use Rattle.algebra.specs.Within.{Within, Each}
use Rattle.algebra.proofs.Truth.{cond_ind}
use Rattle.algebra.proofs.Within.{within-pos, within--, within-*, within-≤, each_of}
use Rattle.algebra.proofs.Fill.{length-list_to, get_d-list_to}
use Rattle.element.specs.Control.{at}
use Rattle.points.specs.Points.{Ten, place, coordinates, step, across}

pub place-≤ : (g k : ℕ) → place g k ≤ k
place-≤ g k = cond_ind (ltb k g) k (k - 1) (λ m. m ≤ k) (λ t. omega arith) (λ t. omega arith)

pub coordinates-ten : {n : ℕ} {xs : List ℤ} → Each n xs → (g a : ℕ) → Ten n (coordinates xs g a)
coordinates-ten {n} {xs} p g a =
    record {
      long = length-list_to 10 number;
      each = each_of (λ k h. rw (get_d-list_to 10 number k h)
          (cond_ind (ltb k 9) (at xs (2 * place g k + a)) (pos 0) (Within n) (λ t. p.at (2 * place g k + a)) (λ t. within-≤ (within-pos 0) zero-le)));
    }
  where
    number : ℕ → ℤ
    number k = cond (ltb k 9) (at xs (2 * place g k + a)) (pos 0)

pub step_small : {l : List ℤ} → Ten 786432 l → (a b : ℕ) → Within 1572864 (step l a b)
step_small p a b = within-- (p.each.at b) (p.each.at a)

-- twice the square of that
pub across-small : {u v : List ℤ} → Ten 786432 u → Ten 786432 v → (a b c d : ℕ) → Within 4947802324992 (across u v a b c d)
across-small p q a b c d =
    within-- (within-* (step_small p a b) (step_small q c d)) (within-* (step_small q a b) (step_small p c d))
