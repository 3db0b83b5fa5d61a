-- Nodes at one place, pair by pair.
--   same_bits        : numbers of 32 bits with the same bits are the same
--   found            : what is returned where two stand at one place
--   none-of-three, none_of_four : where no two of a pair stand at one place, no two of the nodes do
-- Assumes nothing.
use mathlib.Core.Path.{◌≡◌, sym, ◌∙◌, ap}
use mathlib.Core.Bool.{true, false}
use mathlib.Core.List.{List, [], ◌∷◌}
use Prim.Native.Nat.{ℕ}
use lib.IntN.{ℤ}
use mir.Syntax.{w32}
use mir.Val.{SFits, to_z, of_z}
use mir.Facts.{to_z-of_z}
use Rattle.algebra.proofs.Truth.{true-T}
use Rattle.element.specs.Corners.{SamePlace, SameTwo}
use Rattle.element.proofs.Corners.{one_none, one-not, two_none, two-not}

pub same_bits : {x y : ℤ} → SFits w32 x → SFits w32 y → of_z w32 x ≡ of_z w32 y → x ≡ y
same_bits p q e = sym (to_z-of_z p) ∙ ap (to_z w32) e ∙ to_z-of_z q

pub found : {A : Type 0} → A → (true ≡ true → A) × (true ≡ false → ¬ A)
found a = ((λ e. a), λ e. absurd (true-T (sym e)))

module _ (xs : List ℤ) (a b c : ℕ) where
  pub none-of-three : ¬ SamePlace xs a b → ¬ SamePlace xs a c → ¬ SamePlace xs b c → ¬ SameTwo xs (a ∷ b ∷ c ∷ [])
  none-of-three p q r =
      two-not xs a (b ∷ c ∷ []) (one-not xs a b (c ∷ []) p (one-not xs a c [] q (one_none xs a)))
      (two-not xs b (c ∷ []) (one-not xs b c [] r (one_none xs b)) (two-not xs c [] (one_none xs c) (two_none xs)))

pub none_of_four : (xs : List ℤ) (a b c d : ℕ) → ¬ SamePlace xs a b → ¬ SamePlace xs a c → ¬ SamePlace xs a d
    → ¬ SameTwo xs (b ∷ c ∷ d ∷ [])
    → ¬ SameTwo xs (a ∷ b ∷ c ∷ d ∷ [])
none_of_four xs a b c d p q r s =
    two-not xs a (b ∷ c ∷ d ∷ []) (one-not xs a b (c ∷ d ∷ []) p (one-not xs a c (d ∷ []) q (one-not xs a d [] r (one_none xs a)))) s
