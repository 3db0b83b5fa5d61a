-- Forms with one slot for each degree, over whole numbers. A form is the table of its entries; a row of weights goes into
-- each slot. A polynomial of degree n on a triangle is a form of n slots of size 3 with the same weights in each (its polar
-- form); one of bidegree (m, n) on a square has m slots of size 2 and then n.
--   Form         == an entry for each list of indices, one index a slot
--   slot T i     == the form left when the first slot holds component i
--   value ws T   == the value with the rows ws in the slots
--   through ys Ms == the weights ys of a cell's point, as weights of the whole; Ms gives the cell's corners in each slot
--   restrict Ms T == the form on that cell: its entries are the values at the cell's corners
--   pick Ms ks   == the corners that the indices ks name
--   times x ws   == x times every row; power x ws is x to the number of rows
--   mass ws      == the product of the rows' totals
--   NonNeg T     == no entry is negative
--   Along R l m  == R holds between the lists l and m, place by place
--   Touch ws ks  == each row has weight at its index
--   Picks ws ks  == each row weighs its index alone, by 1
-- Definitions only.
use Rattle.std.specs.Prelude.{◌≡◌, List, [], ◌∷◌, ℕ, ◌*◌, ◌<◌, ℤ, pos, get_or, ◌≤ℤ◌}
use Rattle.forms.specs.Rows.{Row, ◌⊙◌, mix, total, weigh}

abbrev pub Form : Type 0
Form = List ℕ → ℤ

abbrev pub slot : Form → ℕ → Form
slot T i ks = T (i ∷ ks)

unfoldable pub value : List Row → Form → ℤ
value [] T = T []
value (w ∷ ws) T = weigh w (λ i. value ws (slot T i))

abbrev pub through : List Row → List (ℕ → Row) → List Row
through [] Ms = []
through (y ∷ ys) [] = y ∷ ys
through (y ∷ ys) (M ∷ Ms) = mix y M ∷ through ys Ms

unfoldable pub restrict : List (ℕ → Row) → Form → Form
restrict [] T ks = T ks
restrict (M ∷ Ms) T [] = T []
restrict (M ∷ Ms) T (k ∷ ks) = weigh (M k) (λ i. restrict Ms (slot T i) ks)

abbrev pub pick : List (ℕ → Row) → List ℕ → List Row
pick [] ks = []
pick (M ∷ Ms) [] = []
pick (M ∷ Ms) (k ∷ ks) = M k ∷ pick Ms ks

abbrev pub times : ℕ → List Row → List Row
times x [] = []
times x (w ∷ ws) = (x ⊙ w) ∷ times x ws

abbrev pub power : ℕ → List Row → ℕ
power x [] = 1
power x (w ∷ ws) = x * power x ws

abbrev pub mass : List Row → ℕ
mass [] = 1
mass (w ∷ ws) = total w * mass ws

abbrev pub NonNeg : Form → Type 0
NonNeg T = (ks : List ℕ) → pos 0 ≤ℤ T ks

abbrev pub Along : {A B : Type 0} → (A → B → Type 0) → List A → List B → Type 0
Along R [] [] = Unit {0}
Along R [] (b ∷ bs) = ⊥
Along R (a ∷ as') [] = ⊥
Along R (a ∷ as') (b ∷ bs) = R a b × Along R as' bs

abbrev pub Touch : List Row → List ℕ → Type 0
Touch = Along (λ w k. 0 < get_or w k 0)

abbrev pub Picks : List Row → List ℕ → Type 0
Picks = Along (λ w k. (f : ℕ → ℤ) → weigh w f ≡ f k)
