-- `mesh_numbers::look::look` meets its contract: the loop keeps that what looking up the numbers left gives is what looking up all gives. Assumes nothing.
use mathlib.Core.Path.{◌≡◌}
use Rattle.mesh_form.specs.Walk.{items_from, items_in}
use Rattle.mesh_numbers.specs.declared.Pass.{Pass}
use Rattle.mesh_numbers.specs.Numbers.{gather, wanted_by}
use Rattle.mesh_numbers.specs.Windows.{Looks}
use Rattle.mesh_numbers.proofs.look.look.Given as goal

abbrev pub invariant-loop-item : goal.invariant-loop-item
invariant-loop-item l =
    (l.item-iterator.t.now ≡ l.t)
    × ((s : Pass) → Looks l.w.base l.w.lim l.flags l.p (gather wanted_by (items_from l.t l.item-iterator.c)) s → Looks l.w.base l.w.lim l.flags l.initial.p (gather wanted_by (items_in l.t)) s)
