-- `quad::values` meets its contract: the points along x and along y make the control values.
use mathlib.Core.Path.{◌∙◌, ap, ap₂}
use mathlib.Core.List.{List}
use Prim.Native.Nat.{ℕ}
use lib.IntN.{ℤ}
use Rattle.element.specs.Origin.{from_first}
use Rattle.points.specs.Points.{coordinates}
use Rattle.points.proofs.Points.{coordinates-ten}
use Rattle.quad.specs.Points.{points9, combine9}
use Rattle.quad.proofs.Points.{quad-first, points9-ten}
use Rattle.quad.proofs.Formula.{combine9-is}
use Rattle.quad.proofs.values.Goals as goal

pub points9-x-requires : goal.points9-x-requires
points9-x-requires c = rw c.coordinates.ensures (coordinates-ten (quad-first c.args.eight c.requires) c.gap-g.result 0)

pub points9-y-requires : goal.points9-y-requires
points9-y-requires c = rw c.coordinates-2.ensures (coordinates-ten (quad-first c.args.eight c.requires) c.gap-g.result 1)

pub invariant_of-combine-clause-along_x : goal.invariant_of-combine-clause-along_x
invariant_of-combine-clause-along_x c =
    rw (c.points9-x.ensures, c.coordinates.ensures)
    (points9-ten (coordinates-ten (quad-first c.args.eight c.requires) c.gap-g.result 0) c.args.eight)

pub invariant_of-combine-clause-along_y : goal.invariant_of-combine-clause-along_y
invariant_of-combine-clause-along_y c =
    rw (c.points9-y.ensures, c.coordinates-2.ensures)
    (points9-ten (coordinates-ten (quad-first c.args.eight c.requires) c.gap-g.result 1) c.args.eight)

pub returns : goal.returns
returns c =
    let xs = c.args.xs.now in let b = c.args.eight in
    let along : ℕ → ℕ → List ℤ = λ a g. points9 (coordinates (from_first xs) g a) b in
    c.combine.ensures
    ∙ ap₂ combine9
    (c.points9-x.ensures ∙ ap (λ n. points9 n b) c.coordinates.ensures ∙ ap (along 0) c.gap-g.ensures)
    (c.points9-y.ensures ∙ ap (λ n. points9 n b) c.coordinates-2.ensures ∙ ap (along 1) c.gap-g.ensures)
    ∙ combine9-is xs b c.requires
