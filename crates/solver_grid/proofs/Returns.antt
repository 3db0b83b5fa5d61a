-- There and back, over the contracts of the calls alone (02, Ask 13).
--   returns       : what was accepted is taken back, where there is room
--   returns-same  : each accepted list that is handed back has the same numbers
--   returns-float : and the same floats, but for minus zero, which comes back as plus zero
--   all-stand     : a list with a whole number for each float has no fault
--   returns-whole : every list of i32 goes to floats and back unchanged
-- Assumes nothing.
use Rattle.std.proofs.Common.{◌≡◌, ℕ, zero, suc, ◌*◌, ◌≤◌, List, [], ◌∷◌, length, take, ℤ}
use native.Mathlib.Nat as N
use lib.Ieee.{Float}
use Rattle.floats.specs.Values.{F64, SameNumber}
use Rattle.element.specs.Control.{at}
use Rattle.element.specs.Origin.{Held}
use Rattle.solver_grid.specs.declared.Scaled.{Scaled}
use Rattle.solver_grid.specs.Grid.{OnGrid, Over, Returned, SomeOff}
use Rattle.solver_grid.specs.Calls.{scaled, Pairs, Scales, Unscales, ScaleCoordinates, UnscaleCoordinates}
use Rattle.solver_grid.proofs.Pairs.{pairs-only, pairs-join}
use Rattle.solver_grid.proofs.Numbers.{grid-only, over-only, over-stands, back-same, back_float}
use Rattle.solver_grid.proofs.Outcomes.{scale-rest, unscale-rest, scale-is, unscale-is, scale-accepts, unscale-accepts, scale-front, unscale-front, front-many}

-- ---- "each accepted list returns with equal values": xs is accepted, and what it became is handed back to a buffer with room
module _ (n : ℕ) (xs : List Float) (before : List ℤ) (r : Scaled) (a : List ℤ) (p : ScaleCoordinates n xs before r a) (c : r.code ≡ 0)
    (free : List Float) (room : 2 * n ≤ length free) (s : Scaled) (b : List Float) (q : UnscaleCoordinates n (take r.count a) free s b) where
  abbrev vs : List ℤ
  vs = take r.count a

  to : Scales n xs before r a
  to = scale-is n xs before r a p c

  back : Unscales n vs free s b
  back =
      unscale-accepts n vs free s b q
      (to.accepted.0, ((λ w. w (front-many OnGrid grid-only (scale-rest n xs before) n xs before r a to)), ((λ h. N.not-le_of_lt h room), tt)))

  pub returns : s ≡ scaled 0 (2 * n)
  returns = back.answer

  -- what x becomes, and what that becomes
  joined : (Q : Float → Float → Type 0) → ((x : Float) (v : ℤ) (y : Float) → OnGrid x v → Over v y → Q x y) → Pairs Q xs (take s.count b)
  joined Q f = pairs-join OnGrid Over Q f xs vs (take s.count b) (scale-front n xs before r a to) (unscale-front n vs free s b back)

  pub returns-same : Pairs SameNumber xs (take s.count b)
  returns-same = joined SameNumber back-same

  pub returns-float : Pairs (λ x y. F64 x → Returned x y) xs (take s.count b)
  returns-float = joined (λ x y. F64 x → Returned x y) (λ x v y g o f. back_float x v y f g o)

-- ---- "every list of i32 goes to floats and back unchanged"
turned : (vs : List ℤ) (fs : List Float) → ((i : ℕ) → Held (at vs i)) → Pairs Over vs fs → Pairs OnGrid fs vs
turned [] [] h p = tt
turned [] (f ∷ fs) h p = absurd p
turned (v ∷ vs) [] h p = absurd p
turned (v ∷ vs) (f ∷ fs) h (o, p) = (over-stands v f (h 0) o, turned vs fs (λ i. h (suc i)) p)

pub all-stand : (fs : List Float) (vs : List ℤ) → Pairs OnGrid fs vs → ¬ SomeOff fs
all-stand [] vs p (i, h, f) = N.not-suc-le-zero h
all-stand (x ∷ fs) [] p o = p
all-stand (x ∷ fs) (v ∷ vs) (g, p) (zero, h, f) = f (v, g)
all-stand (x ∷ fs) (v ∷ vs) (g, p) (suc i, h, f) = all-stand fs vs p (i, N.le_of_suc-le-suc h, f)

module _ (n : ℕ) (vs : List ℤ) (held : (i : ℕ) → Held (at vs i)) (before : List Float) (r : Scaled) (a : List Float)
    (p : UnscaleCoordinates n vs before r a) (c : r.code ≡ 0) (free : List ℤ) (room : 2 * n ≤ length free) (s : Scaled) (b : List ℤ)
    (q : ScaleCoordinates n (take r.count a) free s b) where
  abbrev fs : List Float
  fs = take r.count a

  handed : Unscales n vs before r a
  handed = unscale-is n vs before r a p c

  stand : Pairs OnGrid fs vs
  stand = turned vs fs held (unscale-front n vs before r a handed)

  again : Scales n fs free s b
  again =
      scale-accepts n fs free s b q (
        handed.accepted.0,
        (
          (λ w. w (front-many Over over-only (unscale-rest n vs before) n vs before r a handed)),
          (all-stand fs vs stand, ((λ h. N.not-le_of_lt h room), tt)),
        ),
      )

  pub returns-whole : (s ≡ scaled 0 (2 * n)) × (take s.count b ≡ vs)
  returns-whole = (again.answer, pairs-only OnGrid grid-only fs (take s.count b) vs (scale-front n fs free s b again) stand)
