-- Triangles that show what is chosen.
--   bent s          == a triangle whose middle nodes in the set s stand far off, and whose others stand at the middle of their edge
--   folded          == one that two sets of one node make valid
--   clockwise       == one that is numbered the other way round
-- Definitions only.
use Rattle.std.specs.Prelude.{cond, List, [], ◌∷◌, ℕ, ℤ, pos, neg_ℤ}
use Rattle.middles.specs.declared.Replaced.{Replaced}

abbrev n : ℕ → ℤ
n k = neg_ℤ (pos k)

-- corners (-5, -5), (2, -5), (-5, 2): the middles -1.5 come to -2
abbrev pub bent : Replaced → List ℤ
bent s =
    n 5 ∷ n 5 ∷ pos 2 ∷ n 5 ∷ n 5 ∷ pos 2
    ∷ cond s.m01 (pos 9) (n 2) ∷ cond s.m01 (pos 9) (n 5)
    ∷ cond s.m12 (n 9) (n 2) ∷ cond s.m12 (n 9) (n 2)
    ∷ cond s.m02 (pos 9) (n 5) ∷ cond s.m02 (pos 9) (n 2) ∷ []

abbrev pub folded : List ℤ
folded = n 8 ∷ pos 0 ∷ pos 8 ∷ pos 0 ∷ pos 0 ∷ pos 16 ∷ pos 2 ∷ pos 7 ∷ pos 5 ∷ pos 8 ∷ n 8 ∷ pos 8 ∷ []

abbrev pub clockwise : List ℤ
clockwise = pos 0 ∷ pos 0 ∷ pos 0 ∷ pos 8 ∷ pos 8 ∷ pos 0 ∷ pos 0 ∷ pos 4 ∷ pos 4 ∷ pos 4 ∷ pos 4 ∷ pos 0 ∷ []
