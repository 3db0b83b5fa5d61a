-- The law of walks for elements: the walk of an element's control values answers its verdict.
--   charted        : the chart of each kind is true
--   walk-verdict   : the law
-- Assumes nothing.
use mathlib.Core.List.{List}
use Prim.Native.Nat.{ℕ}
use lib.IntN.{ℤ}
use Rattle.forms.specs.Triangles.{degrees6, place6, degrees10, place10}
use Rattle.element.specs.Kinds.{Kind, six, eight, nine, ten}
use Rattle.element.specs.Cells.{shape_of}
use Rattle.element.specs.Control.{control_values}
use Rattle.judge.specs.Verdict.{Judges}
use Rattle.judge.specs.Elements.{subject}
use Rattle.judge.proofs.Faithful.{element-faithful}
use Rattle.walks.specs.Walk.{answer}
use Rattle.walks.specs.Elements.{chart_of, walk_of}
use Rattle.walks.proofs.Charts.{Charted}
use Rattle.walks.proofs.Judged.{walk-judges}
use Rattle.walks.proofs.Triangles.{triangle-charted}
use Rattle.walks.proofs.Quads.{quad-charted}

pub charted : (k : Kind) → Charted (shape_of k) (chart_of k)
charted six = triangle-charted 2 degrees6 place6
charted eight = quad-charted
charted nine = quad-charted
charted ten = triangle-charted 4 degrees10 place10

pub walk-verdict : (k : Kind) (xs : List ℤ) (L : ℕ) → Judges (subject k xs) L (answer L (walk_of k L (control_values k xs)))
walk-verdict k xs L = walk-judges (subject k xs) (element-faithful k xs) (chart_of k) (charted k) L
