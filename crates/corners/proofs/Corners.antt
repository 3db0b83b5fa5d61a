-- What a corner says, from the test that the code makes of its value u, which is the value v; and the first of two bad points, from
-- the tests that the code makes of them, where t is whether the second is reported sooner.
--   corner-bad, corner-good : a value that is not positive, and a positive one
--   better-other  : where the first is none, the second
--   better-second : where both are bad and the second is reported sooner, the second
--   better-first  : else the first
-- Assumes nothing.
use mathlib.Core.Path.{◌≡◌}
use mathlib.Core.Bool.{Bool, true, false, not, ◌&&◌}
use Prim.Native.Nat.{ℕ}
use borrow.Author.Tests.{not-true, not-false}
use lib.IntN.{ℤ, pos}
use lib.Signed.{le_z}
use Rattle.corners.specs.First.{nothing, something, sooner, better, corner}
use Rattle.corners.specs.declared.First.{First}

pub corner-bad : (u v : ℤ) (l i j : ℕ) → u ≡ v → le_z u (pos 0) ≡ true → something l i j u ≡ corner v l i j
unfolding corner
corner-bad u v l i j e h = rw (← e, h)

pub corner-good : (u v : ℤ) (l i j : ℕ) → u ≡ v → le_z u (pos 0) ≡ false → nothing ≡ corner v l i j
unfolding corner
corner-good u v l i j e h = rw (← e, h)

module _ (a b : First) where
  pub better-other : not a.bad ≡ true → b ≡ better a b
  unfolding better
  better-other h = rw (not-true a.bad h)

  module _ {t : Bool} (e : t ≡ sooner b a) (h : not a.bad ≡ false) where
    pub better-second : (b.bad && t) ≡ true → b ≡ better a b
    unfolding better
    better-second k = rw (← e, not-false a.bad h, k)

    pub better-first : (b.bad && t) ≡ false → a ≡ better a b
    unfolding better
    better-first k = rw (← e, not-false a.bad h, k)
