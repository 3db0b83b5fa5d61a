-- `write::cell` and `write::quarters` meet their contracts: piece behind piece. Assumes nothing.
use mathlib.Core.Path.{sym, ◌∙◌, ap}
use mathlib.Core.Bool.{Bool, ◌||◌}
use native.Mathlib.Omega.{arith}
use lib.Dec.{eqb}
use Rattle.forms.specs.Cuttings.{four_of}
use Rattle.cuttings.proofs.Writing.{writes-cut, written-kept, written-cut, written-more}
use Rattle.cuttings.proofs.Room.{cut_left, quarter-room, cut-room}
use Rattle.sheet_cells.specs.Either.{shape_by, values_by, growth_by}
use Rattle.sheet_cells.proofs.Shapes.{lawful-by}
use Rattle.sheet_cells.proofs.write.+cell_quarters.Goals as goal

pub cell-returns-then-passes-left : goal.cell-returns-then-passes-left
cell-returns-then-passes-left t c =
    let a = c.args in
    written-kept (shape_by a.triangle) a.left (values_by a.triangle a.c)
    (ap (λ (b : Bool). b || eqb a.left 0) (sym c.passes.ensures) ∙ c.if-passes-left.true) c.put.ensures

pub cell-returns : goal.cell-returns
cell-returns t c =
    let a = c.args in
    let h = writes-cut c.passes.result a.left c.if-passes-left.false in
    written-cut (shape_by a.triangle) a.left (values_by a.triangle a.c) (sym c.passes.ensures ∙ h.0) h.1 c.put-next.ensures c.quarters.ensures

pub cell-quarters-requires : goal.cell-quarters-requires
cell-quarters-requires t c =
    let a = c.args in
    let h = writes-cut c.passes.result a.left c.if-passes-left.false in let n = h.1 in
    (omega (arith, c.decreases), (omega arith, cut_left (growth_by a.triangle) a.left (values_by a.triangle a.c) n c.requires))

pub quarters-quarter-requires : goal.quarters-quarter-requires
quarters-quarter-requires t c =
    let a = c.args in
    (omega (arith, c.requires.0), cut-room (growth_by a.triangle) a.left (values_by a.triangle a.c) c.requires.1)

pub quarters-cell-next-requires : goal.quarters-cell-next-requires
quarters-cell-next-requires t c =
    let a = c.args in (
      omega (arith, c.decreases, c.requires.0),
      quarter-room (shape_by a.triangle) (lawful-by a.triangle) (four_of a.i) a.left (values_by a.triangle a.c) c.requires.1 c.quarter.ensures,
    )

pub quarters-returns : goal.quarters-returns
quarters-returns t c =
    let a = c.args in
    written-more (shape_by a.triangle) a.left (values_by a.triangle a.c) a.i (omega (arith, c.requires.0)) c.quarter.ensures c.cell-next.ensures c.quarters.ensures
