-- Lines of values and their sums from the first end, once for whole numbers and for expressions.
--   beside l      == the sums of neighbours on the line l
--   lean n l      == the first of l, of the sums of neighbours, of the sums of neighbours of those, ..: n of them. Number j weighs
--                    value i of l by the binomial coefficient of j and i
--   list2 .. list5 == the values of a line of the code
-- Definitions only.
use Rattle.std.specs.Prelude.{List, [], ◌∷◌, ℕ, zero, suc, ℤ}
use Rattle.cubic_cuts.specs.declared.by_sums.Line2.{Line2}
use Rattle.cubic_cuts.specs.declared.by_sums.Line3.{Line3}
use Rattle.cubic_cuts.specs.declared.by_sums.Line4.{Line4}
use Rattle.cubic_cuts.specs.declared.by_sums.Line5.{Line5}

module _ {A : Type 0} (add : A → A → A) where
  abbrev pub beside : List A → List A
  beside [] = []
  beside (x ∷ []) = []
  beside (x ∷ y ∷ l) = add x y ∷ beside (y ∷ l)

  abbrev pub lean : ℕ → List A → List A
  lean zero l = []
  lean (suc n) [] = []
  lean (suc n) (x ∷ l) = x ∷ lean n (beside (x ∷ l))

abbrev pub list2 : Line2 → List ℤ
list2 r = r.a ∷ r.b ∷ []

abbrev pub list3 : Line3 → List ℤ
list3 r = r.a ∷ r.b ∷ r.c ∷ []

abbrev pub list4 : Line4 → List ℤ
list4 r = r.a ∷ r.b ∷ r.c ∷ r.d ∷ []

abbrev pub list5 : Line5 → List ℤ
list5 r = r.a ∷ r.b ∷ r.c ∷ r.d ∷ r.e ∷ []
