-- `by_sums::split` meets its contract: the quarter of the cell by its names is that of the list. Assumes nothing.
use mathlib.Core.Path.{◌∙◌, ap}
use Prim.Native.Nat.{◌^◌}
use Rattle.algebra.specs.Within.{Each}
use Rattle.algebra.proofs.Within.{each-as}
use Rattle.forms.specs.Cuttings.{four_of}
use Rattle.forms.specs.Shapes.{cut_to}
use Rattle.forms.specs.Triangles.{ten}
use Rattle.forms.proofs.Shapes.{cut_to-size}
use Rattle.forms.proofs.Triangles.{ten-lawful}
use Rattle.cubic_cuts.specs.Cells.{values4, places}
use Rattle.cubic_cuts.proofs.Sums.{taken-each}
use Rattle.cubic_cuts.proofs.Turns.{places-cut}
use Rattle.cubic_cuts.proofs.by_sums.split.Goals as goal

pub listed-requires : goal.listed-requires
listed-requires c =
    let small : Each (2 ^ 58) (values4 c.named.result) = each-as c.named.ensures (taken-each places c.requires.1) in
    each-as c.quarter.ensures
    (cut_to-size ten ten-lawful (four_of c.args.i) (2 ^ 58) (values4 c.named.result) small)

pub returns : goal.returns
returns c =
    let q = four_of c.args.i in
    c.listed.ensures
    ∙ c.quarter.ensures
    ∙ ap (cut_to ten q) c.named.ensures
    ∙ places-cut q c.args.c.now
