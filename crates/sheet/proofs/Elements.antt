-- An element's values as the checker and the writer of cells take them.
--   shape_is       : the shape by the test of the code is that of the kind
--   values-six, values-quad : the values by the two ways of the code are the control values
--   values-inside  : an accepted element has its coordinates within its limit, as they stand or from the first node
--   element-room   : and its values have room for the limit's cuts
--   as-kind        : what holds of the shape and the values that the code took holds of those of the kind
-- Assumes nothing.
use mathlib.Core.Path.{◌≡◌, refl, sym, ◌∙◌, subst}
use mathlib.Core.Bool.{Bool, true, false, cond}
use mathlib.Core.List.{List}
use Prim.Native.Nat.{ℕ, ◌+◌, ◌-◌, ◌≤◌}
use native.Mathlib.Nat as N
use native.Mathlib.Omega.{arith}
use borrow.Author.Tests.{ne_eqb}
use lib.Dec.{eqb, lit≤}
use lib.IntN.{ℤ}
use lib.ListN.{take}
use Rattle.algebra.specs.Within.{Each}
use Rattle.algebra.proofs.Within.{each-≤}
use Rattle.forms.specs.Shapes.{Shape}
use Rattle.element.specs.Kinds.{Kind, six, eight, nine, ten, NotStored, kind_of, greatest_level, size_limit}
use Rattle.element.specs.Control.{values6, control_values}
use Rattle.element.specs.Cells.{shape_of}
use Rattle.element.specs.Origin.{Inside}
use Rattle.element.specs.Refusals.{Accepted, stored_codes}
use Rattle.element.proofs.Sizes.{values-size}
use Rattle.faults.proofs.Limits.{accepted-inside}
use Rattle.element.proofs.Stored.{stored-not-ten, stored-accepted}
use Rattle.quad.specs.Points.{quad_kind}
use Rattle.walks.specs.Room.{cap}
use Rattle.walks.proofs.Room.{cap-down}
use Rattle.verdict.proofs.Answers.{accepted-limit, accepted-bounds}
use Rattle.sheet_cells.specs.Either.{shape_by, values_by, growth_by}

pub shape_is : (n : ℕ) → ¬ NotStored n → shape_by (eqb n 6) ≡ shape_of (kind_of n)
shape_is n s = rw (ne_eqb n 10 (stored-not-ten s)) (go (eqb n 6) (eqb n 8))
  where
    go : (b c : Bool) → shape_by b ≡ shape_of (cond b six (cond c eight (cond false ten nine)))
    go true c = refl
    go false true = refl
    go false false = refl

-- ---- the values
module _ (n : ℕ) (xs : List ℤ) where
  pub values-six : (r : List ℤ) {c : List ℤ} → n ≡ 6 → c ≡ values6 xs → take 6 r ≡ c → values_by (eqb n 6) r ≡ control_values (kind_of n) xs
  unfolding control_values
  values-six r e f g = rw e (g ∙ f)

  pub values-quad : (r : List ℤ) → ¬ NotStored n → ¬ (n ≡ 6)
      → r ≡ control_values (quad_kind (eqb n 8)) xs
      → values_by (eqb n 6) r ≡ control_values (kind_of n) xs
  values-quad r s h f = rw (ne_eqb n 6 h, ne_eqb n 10 (stored-not-ten s)) f

-- ---- room: "Within these limits every value stays below 2^62 in size"
deepest-room : (k : Kind) → size_limit k 0 ≤ cap (shape_of k).growth (greatest_level k)
unfolding cap
deepest-room six = lit≤ tt
deepest-room eight = lit≤ tt
deepest-room nine = lit≤ tt
deepest-room ten = lit≤ tt

kind-room : (k : Kind) (l : ℕ) (xs : List ℤ) → l ≤ greatest_level k
    → Inside k xs
    → Each (cap (shape_of k).growth l) (control_values k xs)
kind-room k l xs h p =
    let e : greatest_level k - l + l ≡ greatest_level k = omega arith in
    let g : ℕ = (shape_of k).growth in
    let falls = subst (λ (m : ℕ). cap g m ≤ cap g l) e (cap-down g (greatest_level k - l) l) in
    each-≤ (values-size k xs p) (N.le_trans (deepest-room k) falls)

module _ (n l : ℕ) (xs : List ℤ) (a : Accepted (stored_codes n l xs)) where
  pub values-inside : Inside (kind_of n) xs
  values-inside = accepted-inside n xs (accepted-bounds n l xs (stored-accepted n l xs a))

  pub element-room : (r : List ℤ) → values_by (eqb n 6) r ≡ control_values (kind_of n) xs → Each (cap (growth_by (eqb n 6)) l) (values_by (eqb n 6) r)
  element-room r e =
      subst (λ (c : List ℤ). Each (cap (growth_by (eqb n 6)) l) c) (sym e)
      (subst (λ (S : Shape). Each (cap S.growth l) (control_values (kind_of n) xs)) (sym (shape_is n a.0)) (kind-room (kind_of n) l xs (accepted-limit n l xs (stored-accepted n l xs a)) values-inside))

pub as-kind : (n : ℕ) (xs r : List ℤ) → ¬ NotStored n → (P : Shape → List ℤ → Type 0) → values_by (eqb n 6) r ≡ control_values (kind_of n) xs
    → P (shape_by (eqb n 6)) (values_by (eqb n 6) r)
    → P (shape_of (kind_of n)) (control_values (kind_of n) xs)
as-kind n xs r s P e p = subst (λ (S : Shape). P S (control_values (kind_of n) xs)) (shape_is n s) (subst (P (shape_by (eqb n 6))) e p)
