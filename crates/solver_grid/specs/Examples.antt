-- A triangle's coordinates as a solver has them, with both ends of the range, and what becomes of them.
--   given   == the solver's: -0, 1.5, 1/1024, -2^21, 2^21 - 1/1024, -1/4, 8, 0, 3, -1/1024, 1000, 1/2
--   wholes  == 1024 times each
--   handed  == what is handed back: the same, with plus zero
-- Definitions only.
use Rattle.std.specs.Prelude.{true, false, List, [], ◌∷◌, ℤ, pos, negsuc, Float}
use Rattle.std.specs.Float.{fin}

-- from the second on
abbrev pub rest : List Float
rest =
    fin false 3 (negsuc 0)
    ∷ fin false 1 (negsuc 9)
    ∷ fin true 1 (pos 21)
    ∷ fin false 2147483647 (negsuc 9)
    ∷ fin true 1 (negsuc 1)
    ∷ fin false 1 (pos 3)
    ∷ fin false 0 (pos 0)
    ∷ fin false 3 (pos 0)
    ∷ fin true 1 (negsuc 9)
    ∷ fin false 125 (pos 3)
    ∷ fin false 1 (negsuc 0)
    ∷ []

abbrev pub given : List Float
given = fin true 0 (pos 0) ∷ rest

abbrev pub wholes : List ℤ
wholes =
    pos 0
    ∷ pos 1536
    ∷ pos 1
    ∷ negsuc 2147483647
    ∷ pos 2147483647
    ∷ negsuc 255
    ∷ pos 8192
    ∷ pos 0
    ∷ pos 3072
    ∷ negsuc 0
    ∷ pos 1024000
    ∷ pos 512
    ∷ []

abbrev pub handed : List Float
handed = fin false 0 (pos 0) ∷ rest
