-- The worked-out triangle, as answers of the calls in every field.
--   given-minus, given-f64 : its first number is minus zero, and each is a value of f64
--   example-scaled : with room for twelve the call takes it, and gives the whole numbers
--   example-handed : and these are handed back
-- A call that refuses everything is shut out. Over the contracts alone. Assumes nothing.
use Rattle.std.proofs.Common.{◌≡◌, ℕ, ◌<◌, ◌≤◌, true, false, T, ltb, List, length, take, ℤ, pos, nat_abs, refl, subst, ltb→lt}
use native.Mathlib.Nat as N
use lib.Signed.{mag}
use lib.Ieee.{Float, fits}
use Rattle.floats.specs.Values.{F64, zero_of}
use Rattle.element.specs.Kinds.{NotStored}
use Rattle.solver_grid.specs.declared.Scaled.{Scaled}
use Rattle.solver_grid.specs.Grid.{Is1024th, OnGrid, Over, float}
use Rattle.solver_grid.specs.Calls.{scaled, Pairs, ScaleCoordinates, UnscaleCoordinates}
use Rattle.solver_grid.specs.Examples.{given, wholes, handed}
use Rattle.solver_grid.proofs.Pairs.{pairs-only}
use Rattle.solver_grid.proofs.Numbers.{grid-only, over-only}
use Rattle.solver_grid.proofs.Outcomes.{scale-accepts, scale-front, unscale-accepts, unscale-front}
use Rattle.solver_grid.proofs.Returns.{all-stand}

-- one behind the other
infixr 20 ◌&◌
◌&◌ : {A B : Type 0} → A → B → A × B
a & b = (a, b)

on : (x : Float) (v : ℤ) → Is1024th x v → T (ltb (mag v) 2147483648) → OnGrid x v
on x v i t = record { is = i; held = ltb→lt (mag v) 2147483648 t }

stand : Pairs OnGrid given wholes
stand =
    on _ _ refl tt & on _ _ refl tt & on _ _ refl tt & on _ _ refl tt & on _ _ refl tt & on _ _ refl tt
    & on _ _ refl tt & on _ _ refl tt & on _ _ refl tt & on _ _ refl tt & on _ _ refl tt & on _ _ refl tt & tt

-- the first is minus zero, which example-handed has as plus zero
pub given-minus : float given 0 ≡ zero_of true
given-minus = refl

-- they are values of f64, so that the machine has them
pub given-f64 : Pairs (λ x v. F64 x) given wholes
unfolding fits
given-f64 = tt & tt & tt & tt & tt & tt & tt & tt & tt & tt & tt & tt & tt

-- a number that is not zero
over : (v : ℤ) (x : Float) → Is1024th x v → T (ltb 0 (nat_abs v)) → F64 x → Over v x
over v x i t f =
    record {
      is = i;
      zero_plus = λ e. absurd (N.lt_irrefl 0 (subst (λ z. 0 < nat_abs z) e (ltb→lt 0 (nat_abs v) t)));
      of_f64 = f;
    }

none : Over (pos 0) (zero_of false)
unfolding fits
none = record { is = refl; zero_plus = λ e. refl; of_f64 = tt }

back : Pairs Over wholes handed
unfolding fits
back =
    none & over _ _ refl tt tt & over _ _ refl tt tt & over _ _ refl tt tt & over _ _ refl tt tt & over _ _ refl tt tt
    & over _ _ refl tt tt & none & over _ _ refl tt tt & over _ _ refl tt tt & over _ _ refl tt tt & over _ _ refl tt tt & tt

six-stored : ¬ NotStored 6
six-stored f = f.0 refl

room : {l : ℕ} → 12 ≤ l → ¬ (l < 12)
room h k = N.not-le_of_lt k h

module _ (r : Scaled) where
  pub example-scaled : (before a : List ℤ) → 12 ≤ length before → ScaleCoordinates 6 given before r a → (r ≡ scaled 0 12) × (take r.count a ≡ wholes)
  example-scaled before a h p =
      let l = scale-accepts 6 given before r a p (six-stored, ((λ w. w refl), (all-stand given wholes stand, (room h, tt)))) in
      (l.answer, pairs-only OnGrid grid-only given (take r.count a) wholes (scale-front 6 given before r a l) stand)

  pub example-handed : (before a : List Float) → 12 ≤ length before → UnscaleCoordinates 6 wholes before r a → (r ≡ scaled 0 12) × (take r.count a ≡ handed)
  example-handed before a h p =
      let l = unscale-accepts 6 wholes before r a p (six-stored, ((λ w. w refl), (room h, tt))) in
      (l.answer, pairs-only Over over-only wholes (take r.count a) handed (unscale-front 6 wholes before r a l) back)
