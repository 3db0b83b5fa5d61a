-- `mesh_numbers::mark::mark` meets its contract: the loop keeps that what marking the numbers left gives is what marking all gives. Assumes nothing.
use mathlib.Core.Path.{◌≡◌}
use mathlib.Core.List.{List}
use Prim.Native.Nat.{ℕ}
use Rattle.mesh_form.specs.Walk.{items_from, items_in}
use Rattle.mesh_numbers.specs.declared.Pass.{Pass}
use Rattle.mesh_numbers.specs.Numbers.{gather, node_number}
use Rattle.mesh_numbers.specs.Windows.{Marks}
use Rattle.mesh_numbers.proofs.mark.mark.Given as goal

abbrev pub invariant-loop-item : goal.invariant-loop-item
invariant-loop-item l =
    (l.item-iterator.t.now ≡ l.t)
    × ((s : Pass) (js : List ℕ) → Marks l.w.base l.w.lim l.flags l.p (gather node_number (items_from l.t l.item-iterator.c)) s js → Marks l.w.base l.w.lim l.initial.flags l.initial.p (gather node_number (items_in l.t)) s js)
