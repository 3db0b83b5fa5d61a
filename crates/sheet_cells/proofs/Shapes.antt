-- Cells of both shapes in one form, by the branches of the code.
--   lawful-by      : both shapes are lawful
--   first-six, only-six : the first six of some numbers, and of six
--   pass-triangle, pass-quad, cut-triangle, cut-quad : the sign test and a quarter, for each of the two
--   room-triangle, room-quad : the room for a cut, as the two cuts ask it
-- Assumes nothing.
use mathlib.Core.Path.{◌≡◌, refl, sym, ◌∙◌, ap, subst}
use mathlib.Core.Bool.{Bool, true, false}
use mathlib.Core.List.{List, [], ◌∷◌}
use Prim.Native.Nat.{◌≤◌}
use native.Mathlib.Omega.{arith}
use lib.IntN.{ℤ, pos}
use lib.ListN.{length, get_or, take}
use lib.Seq.{take_all}
use Rattle.algebra.specs.Within.{Each}
use Rattle.algebra.proofs.Within.{each-as}
use Rattle.forms.specs.Cuttings.{Four}
use Rattle.forms.specs.Shapes.{Lawful, pass, cut_to}
use Rattle.forms.specs.Triangles.{six}
use Rattle.forms.specs.Quads.{quad}
use Rattle.forms.proofs.Triangles.{six-lawful}
use Rattle.forms.proofs.Quads.{quad-lawful}
use Rattle.walks.specs.Room.{cap}
use Rattle.sheet_cells.specs.Either.{shape_by, values_by, growth_by}

pub lawful-by : (b : Bool) → Lawful (shape_by b)
lawful-by true = six-lawful
lawful-by false = quad-lawful

-- of copies of its numbers
pub first-six : (c : List ℤ) {x y z u v w : ℤ} → 6 ≤ length c
    → x ≡ get_or c 0 (pos 0)
    → y ≡ get_or c 1 (pos 0)
    → z ≡ get_or c 2 (pos 0)
    → u ≡ get_or c 3 (pos 0)
    → v ≡ get_or c 4 (pos 0)
    → w ≡ get_or c 5 (pos 0)
    → x ∷ y ∷ z ∷ u ∷ v ∷ w ∷ [] ≡ take 6 c
first-six [] h p q r s t k = absurd (omega arith)
first-six (x ∷ []) h p q r s t k = absurd (omega arith)
first-six (x ∷ y ∷ []) h p q r s t k = absurd (omega arith)
first-six (x ∷ y ∷ z ∷ []) h p q r s t k = absurd (omega arith)
first-six (x ∷ y ∷ z ∷ u ∷ []) h p q r s t k = absurd (omega arith)
first-six (x ∷ y ∷ z ∷ u ∷ v ∷ []) h p q r s t k = absurd (omega arith)
first-six (x ∷ y ∷ z ∷ u ∷ v ∷ w ∷ c) h p q r s t k = rw (p, q, r, s, t, k) refl

-- and the six of a list of six are all
pub only-six : (c : List ℤ) → length c ≡ 6 → take 6 c ≡ c
only-six c e = take_all 6 c (omega arith)

-- ---- a triangle, and a quad, by the test of the code
module _ (b : Bool) (c : List ℤ) where
  pub pass-triangle : {s : List ℤ} {r : Bool} → b ≡ true → s ≡ take 6 c → r ≡ pass six s → r ≡ pass (shape_by b) (values_by b c)
  pass-triangle e f g = g ∙ ap (pass six) f ∙ ap (λ (b : Bool). pass (shape_by b) (values_by b c)) (sym e)

  pub pass-quad : {r : Bool} → b ≡ false → r ≡ pass quad c → r ≡ pass (shape_by b) (values_by b c)
  pass-quad e g = g ∙ ap (λ (b : Bool). pass (shape_by b) (values_by b c)) (sym e)

  pub room-triangle : {s : List ℤ} → b ≡ true → s ≡ take 6 c → Each (cap (growth_by b) 1) (values_by b c) → Each 1152921504606846976 s
  unfolding cap
  room-triangle e f h = each-as f (subst (λ (b : Bool). Each (cap (growth_by b) 1) (values_by b c)) e h)

  pub room-quad : b ≡ false → Each (cap (growth_by b) 1) (values_by b c) → Each 72057594037927936 c
  unfolding cap
  room-quad e h = subst (λ (b : Bool). Each (cap (growth_by b) 1) (values_by b c)) e h

  module _ (i : Four) where
    pub cut-triangle : {s q : List ℤ} (r : List ℤ) → b ≡ true → s ≡ take 6 c → q ≡ cut_to six i s → take 6 r ≡ q → values_by b r ≡ cut_to (shape_by b) i (values_by b c)
    cut-triangle r e f g h = subst (λ (b : Bool). values_by b r ≡ cut_to (shape_by b) i (values_by b c)) (sym e) (h ∙ g ∙ ap (cut_to six i) f)

    pub cut-quad : (r : List ℤ) → b ≡ false → r ≡ cut_to quad i c → values_by b r ≡ cut_to (shape_by b) i (values_by b c)
    cut-quad r e g = subst (λ (b : Bool). values_by b r ≡ cut_to (shape_by b) i (values_by b c)) (sym e) g
