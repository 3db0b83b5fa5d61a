-- What the two calls say of ten-node triangles (02, Ask 11): what holds of every kind, at kind 10.
--   ten-filled       : accepted: fifteen values by relation 24 at the buffer's start, and nothing else changed; refused: nothing at all
--   ten-bracketed    : 192·J of the cubic map lies between the two bounds at every rational point of the closed element
-- Assumes nothing.
use mathlib.Core.Path.{◌≡◌}
use mathlib.Core.List.{List, ◌++◌}
use mathlib.Core.Logic.{◌⊎◌, inl, inr}
use Prim.Native.Nat.{◌*◌}
use lib.IntN.{ℤ, pos, ◌*ℤ◌}
use lib.ListN.{length, drop}
use lib.Signed.{◌≤ℤ◌}
use Rattle.element.specs.Places.{InTriangle, square, whole}
use Rattle.element.specs.Cubic.{J10, values10}
use Rattle.element.specs.Control.{control_values}
use Rattle.element.specs.Refusals.{Refused, Accepted, control_codes}
use Rattle.floats.specs.Values.{IsWhole}
use Rattle.control.specs.Calls.{Bounded, controlled, ControlValues, bounds_of, Told, SolverBounds}
use Rattle.control.specs.declared.Controlled.{Controlled}
use Rattle.control.proofs.Outcomes.{bounds-bracket}

pub ten-filled : (xs before : List ℤ) (r : Controlled) (after : List ℤ) → ControlValues 10 xs before r after
    → (Refused (control_codes 10 xs (length before)) r.code × (r ≡ controlled r.code 0) × (after ≡ before))
    ⊎ (Accepted (control_codes 10 xs (length before)) × (r ≡ controlled 0 15) × (after ≡ values10 xs ++ drop 15 before))
unfolding control_values
ten-filled xs before r after (inl p) = inl (p.refused, p.zeros, p.untouched)
ten-filled xs before r after (inr p) = inr (p.accepted, p.answer, p.filled)

-- J10 is 16·w⁴·J
pub ten-bracketed : (xs : List ℤ) (r : Bounded) → SolverBounds 10 xs r
    → Told r
    → (lo : ℤ) × (hi : ℤ) × IsWhole (bounds_of r).lo lo × IsWhole (bounds_of r).hi hi
    × ((x : InTriangle)
    → ((pos (16 * square (square (whole x))) *ℤ lo) ≤ℤ (pos 192 *ℤ J10 xs x.p x.q x.r))
    × ((pos 192 *ℤ J10 xs x.p x.q x.r) ≤ℤ (pos (16 * square (square (whole x))) *ℤ hi)))
ten-bracketed xs r p t =
    let b = bounds-bracket 10 xs r p t in
    (b.low, b.high, b.lo_is, b.hi_is, λ x. ((b.between x).low, (b.between x).high))
