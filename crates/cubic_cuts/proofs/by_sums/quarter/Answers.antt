-- `by_sums::quarter` meets its contract: quarter by quarter, the cell turned to its first corner. Assumes nothing.
use mathlib.Core.Path.{◌∙◌, ap}
use mathlib.Core.List.{List}
use lib.IntN.{ℤ}
use Rattle.forms.specs.Cuttings.{first}
use Rattle.forms.specs.Shapes.{cut_to}
use Rattle.forms.specs.Triangles.{ten}
use Rattle.cells.proofs.Quarters.{last-quarter}
use Rattle.cubic_cuts.specs.Cells.{values4, turned, taken}
use Rattle.cubic_cuts.proofs.Sums.{taken-each}
use Rattle.cubic_cuts.proofs.Turns.{turns, second-turned, third-turned}
use Rattle.cubic_cuts.proofs.by_sums.quarter.Goals as goal

pub returns-then-i-eq0 : goal.returns-then-i-eq0
returns-then-i-eq0 c = rw c.if-i-eq0.true c.at_first.ensures

pub at_first-requires-then-i-eq1 : goal.at_first-requires-then-i-eq1
at_first-requires-then-i-eq1 c = rw c.turned.ensures (taken-each turns c.requires.1)

pub returns-then-i-eq1 : goal.returns-then-i-eq1
returns-then-i-eq1 c =
    rw c.if-i-eq1.true
    (ap values4 (c.turned-then-i-eq1-2.ensures ∙ ap turned c.turned-then-i-eq1.ensures)
    ∙ ap (λ (l : List ℤ). taken turns (taken turns l)) (c.at_first-then-i-eq1.ensures ∙ ap (cut_to ten first) (ap values4 c.turned.ensures))
    ∙ second-turned c.args.c)

pub at_first-requires-then-i-eq2 : goal.at_first-requires-then-i-eq2
at_first-requires-then-i-eq2 c = rw (c.turned-then-i-eq2-2.ensures, c.turned-then-i-eq2.ensures) (taken-each turns (taken-each turns c.requires.1))

pub returns-then-i-eq2 : goal.returns-then-i-eq2
returns-then-i-eq2 c =
    rw c.if-i-eq2.true
    (ap values4 c.turned-then-i-eq2-3.ensures
    ∙ ap (taken turns)
    (c.at_first-then-i-eq2.ensures ∙ ap (cut_to ten first) (ap values4 (c.turned-then-i-eq2-2.ensures ∙ ap turned c.turned-then-i-eq2.ensures)))
    ∙ third-turned c.args.c)

pub returns : goal.returns
returns c = rw (last-quarter _ c.if-i-eq0.false c.if-i-eq1.false c.if-i-eq2.false) c.middle4.ensures
