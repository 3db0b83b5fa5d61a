-- A cell as the list of its control values, and the sign test (01: "A cell passes when its corner values are all above zero
-- and its other values are zero or more").
--   stored p c     == the form whose entry ks stands at place p ks of the list c
--   dot r c        == the sum of the values c, each times its weight in the row r
--   coeffs ws p    == the weight of each stored value in the value at ws: closed weights give a closed row
--   quarter Q c    == the values of a quarter of c by its table Q, a row for each value
--   positives, non_negatives, passes == the sign test, with the corner values at the given places
--   Inside ss ks   == each index is below the size of its slot
--   every ss f     == the test f holds of all indices inside: a test that computes
--   Tabled ss p Ms Q == the test that the table Q is the form on the cell with the corners Ms
--   heirs ks tips Q == the test that each new value at ks weighs an old one at tips
--   rows_add t Q    == the test that each row of the table adds up to t
-- Definitions only.
use Rattle.std.specs.Prelude.{Bool, true, false, ◌&&◌, ◌||◌, List, [], ◌∷◌, map, ℕ, zero, suc, ◌<◌, eqb, ltb, ℤ, pos, get_or}
use Rattle.std.specs.Int.Signed.{le_z, lt_z}
use Rattle.forms.specs.Rows.{Row, mix, total, weigh, unit}
use Rattle.forms.specs.Forms.{Form, pick, Along}

abbrev pub stored : (List ℕ → ℕ) → List ℤ → Form
stored p c ks = get_or c (p ks) (pos 0)

abbrev pub dot : Row → List ℤ → ℤ
dot r c = weigh r (λ i. get_or c i (pos 0))

abbrev pub coeffs : List Row → (List ℕ → ℕ) → Row
coeffs [] p = unit (p [])
coeffs (w ∷ ws) p = mix w (λ i. coeffs ws (λ ks. p (i ∷ ks)))

abbrev pub quarter : List Row → List ℤ → List ℤ
quarter Q c = map (λ r. dot r c) Q

abbrev pub positives : List ℕ → List ℤ → Bool
positives [] c = true
positives (k ∷ ks) c = lt_z (pos 0) (get_or c k (pos 0)) && positives ks c

abbrev pub non_negatives : List ℤ → Bool
non_negatives [] = true
non_negatives (z ∷ c) = le_z (pos 0) z && non_negatives c

-- a corner value above zero is zero or more too
abbrev pub passes : List ℕ → List ℤ → Bool
passes tips c = positives tips c && non_negatives c

-- ---- tests over all entries of a form
abbrev pub Inside : List ℕ → List ℕ → Type 0
Inside = Along (λ s k. k < s)

abbrev pub up_to : ℕ → (ℕ → Bool) → Bool
up_to zero f = true
up_to (suc n) f = f 0 && up_to n (λ i. f (suc i))

abbrev pub every : List ℕ → (List ℕ → Bool) → Bool
every [] f = f []
every (s ∷ ss) f = up_to s (λ i. every ss (λ ks. f (i ∷ ks)))

abbrev pub same : List ℕ → List ℕ → Bool
same [] [] = true
same [] (y ∷ b) = false
same (x ∷ a) [] = false
same (x ∷ a) (y ∷ b) = eqb x y && same a b

abbrev pub Tabled : List ℕ → (List ℕ → ℕ) → List (ℕ → Row) → List Row → Bool
Tabled ss p Ms Q = every ss (λ ks. same (coeffs (pick Ms ks) p) (get_or Q (p ks) []))

abbrev pub weighs : List ℕ → Row → Bool
weighs [] r = false
weighs (k ∷ tips) r = ltb 0 (get_or r k 0) || weighs tips r

abbrev pub heirs : List ℕ → List ℕ → List Row → Bool
heirs [] tips Q = true
heirs (k ∷ ks) tips Q = weighs tips (get_or Q k []) && heirs ks tips Q

abbrev pub rows_add : ℕ → List Row → Bool
rows_add t [] = true
rows_add t (r ∷ Q) = eqb (total r) t && rows_add t Q
