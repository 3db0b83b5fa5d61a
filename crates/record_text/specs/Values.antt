-- The same as functions that compute: what the code reads. That they say what Says states is proved in proofs/Readings.
--   silent_b ws       == ws are Silent
--   given_of ws       == the record that a line of the words ws says
--   said_by n ws      == what the n-th line says, of the words ws
--   said_in n ls      == what the lines ls say, the first of them the n-th
-- Definitions only.
use Rattle.std.specs.Prelude.{Bool, true, false, cond, List, [], ◌∷◌, ◌++◌, map, ℕ, suc, eqb, drop}
use Rattle.append.specs.Series.{Given}
use Rattle.mesh_text.specs.Rows.{first, rest, words}
use Rattle.mesh_text.specs.Tests.{number_of, value_of}
use Rattle.record_text.specs.Says.{Line}

abbrev pub silent_b : List (List ℕ) → Bool
silent_b [] = true
silent_b ([] ∷ ws) = false
silent_b ((b ∷ w) ∷ ws) = eqb b 35

abbrev pub given_of : List (List ℕ) → Given
given_of ws =
    record { id = number_of (first ws); kind = number_of (first (rest ws)); limit = number_of (first (rest (rest ws))); coords = map value_of (drop 3 ws) }

abbrev pub said_by : ℕ → List (List ℕ) → List Line
said_by n ws = cond (silent_b ws) [] (record { line = n; given = given_of ws } ∷ [])

abbrev pub said_in : ℕ → List (List ℕ) → List Line
said_in n [] = []
said_in n (l ∷ []) = []
said_in n (l ∷ m ∷ ls) = said_by n (words l) ++ said_in (suc n) (m ∷ ls)
