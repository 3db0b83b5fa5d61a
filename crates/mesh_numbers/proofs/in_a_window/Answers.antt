-- `mesh_numbers::in_a_window` meets its contract: the loop keeps that nothing is found below the window. Assumes nothing.
use native.Mathlib.Omega.{arith}
use Rattle.mesh_numbers.specs.Windows.{at_start, window}
use Rattle.mesh_numbers.proofs.in_a_window.Goals as goal

pub loop-base-init : goal.loop-base-init
loop-base-init g c = (omega arith, at_start)

pub loop-base-preserved : goal.loop-base-preserved
loop-base-preserved g c =
    let l = c.loop-base in
    ((c.requires.onwards l.base c.pass-p.result (omega arith) c.pass-p.ensures).1, window l.invariant.1 c.pass-p.ensures c.if-p.false)
