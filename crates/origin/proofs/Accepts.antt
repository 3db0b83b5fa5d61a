-- Which elements are accepted where.
--   ranged-moved   : a list within a limit from its first node is so wherever it is moved to
--   moved-accepted : an element that is accepted from its first node is accepted wherever i32 holds it
-- Assumes nothing.
use mathlib.Core.Path.{sym, ◌∙◌, subst}
use mathlib.Core.List.{List}
use mathlib.Core.Logic.{inr}
use Prim.Native.Nat.{ℕ}
use lib.IntN.{ℤ}
use Rattle.algebra.specs.Within.{Each}
use Rattle.element.specs.Kinds.{kind_of, coordinate_limit}
use Rattle.element.specs.Origin.{moved_by, from_first, Unheld}
use Rattle.element.specs.Refusals.{Accepted, verdict_codes}
use Rattle.element.proofs.Origin.{moved_length, first-moved}
use Rattle.element.proofs.Ranges.{ranged-inside}
use Rattle.element.proofs.Corners.{moved-collapsed}
use Rattle.faults.proofs.Limits.{kind-long}

module _ (a b : ℤ) (xs : List ℤ) where
  pub ranged-moved : {n : ℕ} → Each n (from_first xs) → Each n (from_first (moved_by a b xs))
  ranged-moved {n} p = subst (Each n) (sym (first-moved a b xs)) p

  pub moved-accepted : (n l : ℕ) → Accepted (verdict_codes n l xs)
      → Each (coordinate_limit (kind_of n)) (from_first xs)
      → ¬ Unheld (moved_by a b xs)
      → Accepted (verdict_codes n l (moved_by a b xs))
  moved-accepted n l (f, (g, (h, (_, (d, _))))) p u = (
    f,
    (
      g,
      (
        (λ w. h (λ e. w (moved_length a b xs ∙ e))),
        (
          ranged-inside (coordinate_limit (kind_of n)) (moved_by a b xs) u (inr (ranged-moved p)),
          ((λ c. d (moved-collapsed a b (kind_of n) xs (kind-long n xs f h) c)), tt),
        ),
      ),
    ),
  )
