-- The twelve elements of 01 ("Twelve elements to prove") as calls of `verdict`.
--   told_of o      == the answer's fields for an outcome
--   Called r      == the call with the element and the limit of the row r has the row's outcome as its answer, and no other
--   AllCalled rs  == that, of each row
-- Definitions only.
use Rattle.std.specs.Prelude.{List, [], ◌∷◌}
use Rattle.element.specs.Kinds.{node_count}
use Rattle.judge.specs.Twelve.{Outcome, judged, refused, Row}
use Rattle.verdict.specs.Calls.{given, refusal, VerdictOf, Only}
use Rattle.verdict.specs.declared.Judged.{Judged}

abbrev pub told_of : Outcome → Judged
told_of (judged a) = given a
told_of (refused c) = refusal c

abbrev pub Called : Row → Type 0
Called r = Only (VerdictOf (node_count r.kind) r.limit r.coords) (told_of r.outcome)

abbrev pub AllCalled : List Row → Type 0
AllCalled [] = Unit {0}
AllCalled (r ∷ rs) = Called r × AllCalled rs
