-- The shapes of degree 2 and 3, which the middle quarter of a cell is made of, are triangles as that of degree 4 is.
--   degree2-lawful, degree3-lawful : their tables are those of the quarters, by the symmetric form
--   degree2-readable, degree3-readable : each value stands at its place, and they determine a form
-- Assumes nothing.
use mathlib.Core.List.{[], ◌∷◌}
use lib.Dec.{T}
use Rattle.forms.specs.Shapes.{Lawful}
use Rattle.forms.specs.Polar.{readable}
use Rattle.forms.proofs.Triangles.{triangle-lawful}
use Rattle.cubic_cuts.specs.Cells.{placed, degrees2, degree2, degrees3, degree3}

pub degree2-lawful : Lawful degree2
degree2-lawful = triangle-lawful 2 degrees2 (placed (0 ∷ 3 ∷ 5 ∷ [])) tt tt tt tt

pub degree2-readable : T (readable degree2)
degree2-readable = tt

pub degree3-lawful : Lawful degree3
degree3-lawful = triangle-lawful 3 degrees3 (placed (0 ∷ 4 ∷ 7 ∷ 9 ∷ [])) tt tt tt tt

pub degree3-readable : T (readable degree3)
degree3-readable = tt
