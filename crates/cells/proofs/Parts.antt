-- Sums by a row of weights and tests of values, one place after the other.
--   weigh-more, non_negatives-more : what one more place adds
--   three-test, four-test : tests of corners, as the code groups them
--   total-part, weight-part : a part of a row adds up to no more than the row
--   term_is, sum_is, more-is : a term, the sum of the terms before place k, and the next sum, within the room
-- Assumes nothing.
use mathlib.Core.Path.{◌≡◌, refl, sym, ◌∙◌, ap, ap₂}
use mathlib.Core.Bool.{Bool, true, false, ◌&&◌}
use mathlib.Core.List.{List, [], ◌∷◌}
use Prim.Native.Nat.{ℕ, zero, suc, ◌*◌, ◌≤◌, ◌<◌, zero-le}
use native.Mathlib.Nat as N
use native.Mathlib.Omega.{arith}
use lib.IntN.{ℤ, pos, ◌+ℤ◌, ◌*ℤ◌, +ℤ_assoc, +ℤ_comm}
use lib.ListN.{get_or, length, take}
use lib.Signed.{le_z, lt_z}
use Rattle.algebra.specs.Within.{Is}
use Rattle.algebra.proofs.Truth.{and-true, and_assoc}
use Rattle.algebra.proofs.Within.{within-pos, within-*, within-≤}
use Rattle.forms.specs.Rows.{Row, total, weigh}
use Rattle.forms.specs.Cells.{positives, non_negatives}
use Rattle.forms.proofs.Cells.{weigh-size}
use Rattle.cells.specs.Room.{Room}

-- ---- one more place
pub weigh-more : (r : Row) (f : ℕ → ℤ) (k : ℕ) → k < length r
    → weigh (take (suc k) r) f ≡ weigh (take k r) f +ℤ pos (get_or r k 0) *ℤ f k
unfolding weigh
weigh-more [] f k h = absurd (N.not-suc-le-zero h)
weigh-more (x ∷ r) f zero h = +ℤ_comm (pos x *ℤ f 0) (pos 0)
weigh-more (x ∷ r) f (suc k) h =
    ap (λ z. pos x *ℤ f 0 +ℤ z) (weigh-more r (λ i. f (suc i)) k (N.le_of_suc-le-suc h))
    ∙ sym (+ℤ_assoc (pos x *ℤ f 0) (weigh (take k r) (λ i. f (suc i))) (pos (get_or r k 0) *ℤ f (suc k)))

pub total-part : (k : ℕ) (r : Row) → total (take k r) ≤ total r
total-part zero [] = zero-le
total-part zero (x ∷ r) = zero-le
total-part (suc k) [] = zero-le
total-part (suc k) (x ∷ r) = N.add-le-add (N.le_refl x) (total-part k r)

pub weight-part : (k : ℕ) (r : Row) → get_or r k 0 ≤ total r
weight-part k [] = zero-le
weight-part zero (x ∷ r) = omega arith
weight-part (suc k) (x ∷ r) = omega (arith, weight-part k r)

-- the test of three corners and of four, as the code groups it
three-and : (a b d : Bool) → (a && b) && d ≡ a && (b && (d && true))
three-and a b d = sym (and_assoc a b d) ∙ ap (λ x. a && (b && x)) (sym (and-true d))

four-and : (a b d e : Bool) → ((a && b) && d) && e ≡ a && (b && (d && (e && true)))
four-and true b d e = three-and b d e
four-and false b d e = refl

abbrev above : List ℤ → ℕ → Bool
above c k = lt_z (pos 0) (get_or c k (pos 0))

pub three-test : (c : List ℤ) (i j k : ℕ) → (above c i && above c j) && above c k ≡ positives (i ∷ j ∷ k ∷ []) c
three-test c i j k = three-and (above c i) (above c j) (above c k)

pub four-test : (c : List ℤ) (i j k l : ℕ) → ((above c i && above c j) && above c k) && above c l ≡ positives (i ∷ j ∷ k ∷ l ∷ []) c
four-test c i j k l = four-and (above c i) (above c j) (above c k) (above c l)

pub non_negatives-more : (c : List ℤ) (k : ℕ) → k < length c
    → non_negatives (take (suc k) c) ≡ non_negatives (take k c) && le_z (pos 0) (get_or c k (pos 0))
non_negatives-more [] k h = absurd (N.not-suc-le-zero h)
non_negatives-more (z ∷ c) zero h = and-true (le_z (pos 0) z)
non_negatives-more (z ∷ c) (suc k) h =
    ap (λ b. le_z (pos 0) z && b) (non_negatives-more c k (N.le_of_suc-le-suc h))
    ∙ and_assoc (le_z (pos 0) z) (non_negatives (take k c)) (le_z (pos 0) (get_or c k (pos 0)))

-- ---- room for each part of a sum
module _ {row : Row} {c : List ℤ} (room : Room row c) where
  abbrev most : ℕ
  most = total row * room.size

  abbrev value : ℕ → ℤ
  value i = get_or c i (pos 0)

  pub term_is : (k : ℕ) {u v : ℤ} → u ≡ pos (get_or row k 0) → v ≡ value k → Is most (pos (get_or row k 0) *ℤ value k) (u *ℤ v)
  term_is k e f =
      record {
        same = ap₂ ◌*ℤ◌ e f;
        within = within-≤ (within-* (within-pos (get_or row k 0)) (room.each.at k)) (N.mul-le-mul (weight-part k row) (N.le_refl room.size));
      }

  pub sum_is : (k : ℕ) {v : ℤ} → v ≡ weigh (take k row) value → Is most (weigh (take k row) value) v
  sum_is k e =
      record {
        same = e;
        within = within-≤ (weigh-size room.size (take k row) value room.each.at) (N.mul-le-mul (total-part k row) (N.le_refl room.size));
      }

  pub more-is : (k : ℕ) {u v : ℤ} → k < length row → u ≡ weigh (take k row) value → v ≡ pos (get_or row k 0) *ℤ value k
      → Is most (weigh (take (suc k) row) value) (u +ℤ v)
  more-is k h e f = sum_is (suc k) (ap₂ ◌+ℤ◌ e f ∙ sym (weigh-more row value k h))
