-- Rows of weights, and the sum of what they weigh (01: "weights p, q, r, whole, not negative").
--   Row         == a list of weights, one for each component
--   a ⊕ b       == the sum, place by place; the shorter row counts as filled up with 0
--   x ⊙ a       == x times each weight
--   mix a M     == the rows M 0, M 1, .. each times its weight in a, added up
--   total a     == the sum of the weights
--   weigh a f   == the sum of f 0, f 1, .. each times its weight in a
--   unit k      == all weight, 1, at place k
--   corner s k  == the same, of s weights
-- Definitions only.
use Rattle.std.specs.Prelude.{List, [], ◌∷◌, ℕ, zero, suc, ◌+◌, ◌*◌, ℤ, pos, ◌+ℤ◌, ◌*ℤ◌, set, replicate}

abbrev pub Row : Type 0
Row = List ℕ

infixl 6 ◌⊕◌
abbrev pub ◌⊕◌ : Row → Row → Row
[] ⊕ b = b
(x ∷ a) ⊕ [] = x ∷ a
(x ∷ a) ⊕ (y ∷ b) = (x + y) ∷ (a ⊕ b)

infixl 7 ◌⊙◌
abbrev pub ◌⊙◌ : ℕ → Row → Row
x ⊙ [] = []
x ⊙ (y ∷ b) = (x * y) ∷ (x ⊙ b)

abbrev pub mix : Row → (ℕ → Row) → Row
mix [] M = []
mix (x ∷ a) M = (x ⊙ M 0) ⊕ mix a (λ i. M (suc i))

abbrev pub total : Row → ℕ
total [] = 0
total (x ∷ a) = x + total a

unfoldable pub weigh : Row → (ℕ → ℤ) → ℤ
weigh [] f = pos 0
weigh (x ∷ a) f = pos x *ℤ f 0 +ℤ weigh a (λ i. f (suc i))

abbrev pub unit : ℕ → Row
unit zero = 1 ∷ []
unit (suc k) = 0 ∷ unit k

abbrev pub corner : ℕ → ℕ → Row
corner s k = set (replicate s 0) k 1
