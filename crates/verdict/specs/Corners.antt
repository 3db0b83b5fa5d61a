-- Elements that are refused for their corners alone, as calls of `verdict` (02, Asks 9 and 11).
--   AllRefused qs == under every limit of its kind each has the answer 21, and no other
-- Definitions only.
use Rattle.std.specs.Prelude.{List, [], ◌∷◌, ℕ, ◌≤◌}
use Rattle.element.specs.Kinds.{node_count, greatest_level}
use Rattle.judge.specs.Corners.{Case}
use Rattle.verdict.specs.Calls.{refusal, VerdictOf, Only}

abbrev pub AllRefused : List Case → Type 0
AllRefused [] = Unit {0}
AllRefused (q ∷ qs) =
    ((L : ℕ) → L ≤ greatest_level q.kind → Only (VerdictOf (node_count q.kind) L q.coords) (refusal 21)) × AllRefused qs
