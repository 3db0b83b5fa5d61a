-- What the contracts of the calls come to: one outcome each, and bounds that hold.
--   control-values-unique : answer and buffer are determined by the arguments
--   count_room            : the number of values is not above the number of the buffer's places
--   bounds-of-unique, solver-bounds-unique : so is the answer of `solver_bounds`
--   bounds-bracket        : its bounds are whole numbers, and the scaled J lies between them at every point
-- Assumes nothing.
use mathlib.Core.Path.{◌≡◌, refl, sym, ◌∙◌, ap, ap₂}
use mathlib.Core.List.{List}
use mathlib.Core.Logic.{inl, inr}
use Prim.Native.Nat.{ℕ, ◌≤◌}
use native.Mathlib.Nat as N
use native.Mathlib.Omega.{arith}
use lib.IntN.{ℤ}
use lib.ListN.{length}
use lib.Ieee.{Float}
use Rattle.element.specs.Kinds.{kind_of}
use Rattle.element.specs.Control.{control_values}
use Rattle.element.specs.Refusals.{control_codes, bounds_codes}
use Rattle.element.proofs.Refusals.{refused-unique, refused-accepted, refused-some}
use Rattle.element.proofs.Bounds.{least-unique, greatest-unique, bounds-between}
use Rattle.floats.specs.Values.{exact}
use Rattle.control.specs.Calls.{Bounded, controlled, ControlValues, code_of, bounds_of, Told, BoundsOf, NoBounds, HasBounds, SolverBounds, Brackets}
use Rattle.control.specs.declared.Controlled.{Controlled}
use Rattle.control.specs.declared.Bounds.{Bounds}
use Rattle.faults.proofs.Refusals.{number-one}
use Rattle.std.specs.Prelude.{Ok, Err}
use Rattle.control.proofs.Answers.{values-small}
use Rattle.control.proofs.Running.{least-within, greatest-within}
use Rattle.floats.proofs.Whole.{exact-is}

-- ---- control values
pub control-values-unique : (n : ℕ) (xs before : List ℤ) (r s : Controlled) (a b : List ℤ)
    → ControlValues n xs before r a
    → ControlValues n xs before s b
    → (r ≡ s) × (a ≡ b)
control-values-unique n xs before r s a b (inl u) (inl v) = (
  u.zeros ∙ ap (λ (c : ℕ). controlled c 0) (refused-unique (control_codes n xs _) r.code s.code u.refused v.refused) ∙ sym v.zeros,
  u.untouched ∙ sym v.untouched,
)
control-values-unique n xs before r s a b (inl u) (inr v) = absurd (refused-accepted (control_codes n xs _) r.code u.refused v.accepted)
control-values-unique n xs before r s a b (inr u) (inl v) = absurd (refused-accepted (control_codes n xs _) s.code v.refused u.accepted)
control-values-unique n xs before r s a b (inr u) (inr v) = (u.answer ∙ sym v.answer, u.filled ∙ sym v.filled)

pub count_room : {n : ℕ} {xs before after : List ℤ} {r : Controlled} → ControlValues n xs before r after → r.count ≤ length before
count_room (inl p) = omega (arith, ap (λ (q : Controlled). q.count) p.zeros)
count_room (inr p) = omega (arith, N.le_of_suc-le-suc (N.lt_of_not-le p.accepted.1.1.1.1.0), ap (λ (q : Controlled). q.count) p.answer)

-- ---- bounds
pub bounds-of-unique : (c : List ℤ) (a b : Bounds) → BoundsOf c a → BoundsOf c b → a ≡ b
bounds-of-unique c a b p q =
    ap₂ both (p.lo ∙ ap exact (least-unique c _ _ p.is_least q.is_least) ∙ sym q.lo)
    (p.hi ∙ ap exact (greatest-unique c _ _ p.is_greatest q.is_greatest) ∙ sym q.hi)
  where
    both : Float → Float → Bounds
    both x y = record { lo = x; hi = y }

module _ (n : ℕ) (xs : List ℤ) where
  -- a refusal is not the case with bounds: no fault has the code 0
  not-coded : (b : Bounds) → NoBounds n xs (Ok b) → ⊥
  not-coded b p = refused-some (bounds_codes n xs) 0 tt p.refused refl

  coded : (r s : Bounded) → NoBounds n xs r → NoBounds n xs s → r ≡ s
  coded (Err e) (Err f) p q = ap Err (number-one (refused-unique (bounds_codes n xs) _ _ p.refused q.refused))
  coded (Err e) (Ok b) p q = absurd (not-coded b q)
  coded (Ok b) s p q = absurd (not-coded b p)

  told : (r s : Bounded) → HasBounds n xs r → HasBounds n xs s → r ≡ s
  told (Ok a) (Ok b) p q = ap Ok (bounds-of-unique (control_values (kind_of n) xs) a b p.bounds q.bounds)
  told (Ok a) (Err e) p q = absurd q.told
  told (Err e) s p q = absurd p.told

  pub solver-bounds-unique : (r s : Bounded) → SolverBounds n xs r → SolverBounds n xs s → r ≡ s
  solver-bounds-unique r s (inl p) (inl q) = coded r s p q
  solver-bounds-unique r s (inl p) (inr q) = absurd (refused-accepted (bounds_codes n xs) (code_of r) p.refused q.accepted)
  solver-bounds-unique r s (inr p) (inl q) = absurd (refused-accepted (bounds_codes n xs) (code_of s) q.refused p.accepted)
  solver-bounds-unique r s (inr p) (inr q) = told r s p q

  pub bounds-bracket : (r : Bounded) → SolverBounds n xs r → Told r → Brackets n xs (bounds_of r)
  bounds-bracket (Err e) p t = absurd t
  bounds-bracket (Ok b) (inl p) t = absurd (not-coded b p)
  bounds-bracket (Ok b) (inr p) t =
      let q = p.bounds in
      let small = values-small n xs p.accepted refl in
      record {
        low = q.least;
        lo_is = rw q.lo (exact-is q.least (least-within small q.is_least));
        high = q.greatest;
        hi_is = rw q.hi (exact-is q.greatest (greatest-within small q.is_greatest));
        between = bounds-between (kind_of n) xs q.least q.greatest q.is_least q.is_greatest;
      }
