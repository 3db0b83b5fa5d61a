-- Walks by their fields.
--   walk-≡ : walks with equal bad points, equal levels and the same counts are equal
--   stays  : a bad point, or none, is what it is beside none
-- Assumes nothing.
use mathlib.Core.Path.{◌≡◌, refl}
use mathlib.Core.Bool.{Bool, true, false, cond, ◌&&◌}
use Prim.Native.Nat.{ℕ}
use Rattle.corners.specs.First.{nothing, sooner, better}
use Rattle.corners.specs.declared.First.{First}
use Rattle.steps.specs.Steps.{Plain}
use Rattle.steps.specs.declared.Walk.{Walk}

pub walk-≡ : {p q : First} {d e m n : ℕ} → p ≡ q
    → d ≡ e
    → ◌≡◌ {A = Walk} (record { best = p; deep = d; cells = m; failing = n }) (record { best = q; deep = e; cells = m; failing = n })
walk-≡ {m} {n} p d = λ t. record { best = p t; deep = d t; cells = m; failing = n }

pub stays : (f : First) → Plain f → f ≡ better f nothing
unfolding better
stays f p = go f.bad p
  where
    go : (b : Bool) → (b ≡ false → f ≡ nothing) → f ≡ cond ((b && false) && sooner nothing f) nothing (cond b f nothing)
    go true p = refl
    go false p = p refl
