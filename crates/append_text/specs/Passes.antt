-- A pass over the lines of a text: the record of each line that counts is tried behind those before.
--   handed ws        == what is handed over of a line: 255 for a kind or a level limit above it, the first 19 coordinates, each beyond
--                       2^32 - 1 in size as one of that size
--   givens_by ws      == the record that a line of the words ws says; none where it counts for nothing
--   Halts gs z b r a == one of the records gs is refused, behind those before it that pass; r has its code and its line
--   Gathers gs z b r a == all of gs pass, or it halts
-- z and b are the tally and the bytes before the pass, r and a those behind it.
-- Definitions only.
use Rattle.std.specs.Prelude.{◌≡◌, cond, List, [], ◌∷◌, ◌++◌, map, ℕ, ◌+◌, ◌-◌, ◌*◌, min, length, take, drop, Result, Ok, Err}
use Rattle.element.specs.Refusals.{Refused}
use Rattle.faults.specs.Refusal.{number_of as refusal_number}
use Rattle.append.specs.Series.{Given, next_codes, low_after, Passes}
use Rattle.batch.specs.declared.Tally.{Tally}
use Rattle.batch.specs.Tallies.{Moved}
use Rattle.mesh_text.specs.Rows.{first, rest}
use Rattle.mesh_text.specs.Tests.{number_of, clipped}
use Rattle.record_text.specs.Says.{Line, givens}
use Rattle.record_text.specs.Values.{silent_b, given_of}
use Rattle.append_text.specs.declared.RefusedLine.{RefusedLine}

abbrev pub handed : List (List ℕ) → Given
handed ws =
    record {
      id = number_of (first ws);
      kind = min 255 (number_of (first (rest ws)));
      limit = min 255 (number_of (first (rest (rest ws))));
      coords = map (clipped 4294967295) (take 19 (drop 3 ws));
    }

abbrev pub givens_by : List (List ℕ) → List Given
givens_by ws = cond (silent_b ws) [] (given_of ws ∷ [])

pub record Halts (gs : List Line) (z : Tally) (b : List ℕ) (r : RefusedLine) (a : List ℕ) : Type 0 where
  pub before : List Line
  pub one : Line
  pub after : List Line
  pub whole : gs ≡ before ++ (one ∷ after)
  pub passes : Passes z.low z.count z.room (givens before)
  pub refused : Refused
      (next_codes (low_after z.low (givens before)) (z.count + length (givens before)) (z.room - 80 * length (givens before)) one.given)
      (refusal_number r.refusal)
  pub named : r.line ≡ one.line
  pub long : length a ≡ length b

abbrev pub Gathers : List Line → Tally → List ℕ → Result Tally RefusedLine → List ℕ → Type 0
Gathers gs z b (Ok r) a = Moved (givens gs) 0 z b r a
Gathers gs z b (Err r) a = Halts gs z b r a
