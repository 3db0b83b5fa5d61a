-- `mesh_numbers::look::look_among` meets its contract: the loop keeps what looking up the numbers so far gives. Assumes nothing.
use mathlib.Core.Path.{refl, ap, subst}
use mathlib.Core.Bool.{◌||◌}
use mathlib.Core.List.{[]}
use native.Mathlib.Omega.{arith}
use lib.Seq.{take_all}
use Rattle.mesh_numbers.specs.Windows.{Looks}
use Rattle.mesh_numbers.proofs.Passes.{looks-nil, looks-more}
use Rattle.mesh_numbers.proofs.look.look_among.Goals as goal

pub loop-n-init : goal.loop-n-init
loop-n-init c = looks-nil _ _ _ _ [] refl

pub loop-n-preserved : goal.loop-n-preserved
loop-n-preserved c =
    let l = c.loop-n in
    let a = c.args in
    looks-more a.w.base a.w.lim a.flags.now a.p (record { found = l.found; above = l.above }) (record { found = l.found || c.lacks-missing.result; above = c.lesser-above.result })
    a.names.now l.n-index (omega arith) l.invariant (ap (λ b. l.found || b) c.lacks-missing.ensures) c.lesser-above.ensures

pub returns : goal.returns
returns c =
    let l = c.loop-n in
    let a = c.args in
    subst (λ ns. Looks a.w.base a.w.lim a.flags.now a.p ns (record { found = l.found; above = l.above }))
    (take_all l.n-index a.names.now (omega arith)) l.invariant
