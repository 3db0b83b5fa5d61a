-- An element as a subject of the verdict: bad points and the value shown are read off its nodes, and its cells are those of
-- its control values.
--   subject_by k f c == bad points and the value shown are read off the numbers f at places, and the cells are those of the values c
--   subject k xs    == the element of kind k with the coordinates xs
-- Definitions only.
use Rattle.std.specs.Prelude.{List, ℤ}
use Rattle.element.specs.Kinds.{Kind}
use Rattle.element.specs.Places.{Place}
use Rattle.element.specs.Jacobian.{jacobian, BadBy, ShowsBy}
use Rattle.element.specs.Control.{control_values}
use Rattle.element.specs.Cells.{shape_of}
use Rattle.judge.specs.Verdict.{Subject}

abbrev pub subject_by : (k : Kind) → (Place k → ℤ) → List ℤ → Subject
subject_by k f c = record { shape = shape_of k; values = c; Bad = BadBy k f; Shows = ShowsBy k f }

abbrev pub subject : Kind → List ℤ → Subject
subject k xs = subject_by k (jacobian k xs) (control_values k xs)
