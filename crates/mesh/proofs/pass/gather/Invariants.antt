-- `mesh::pass::gather` meets its contract: the loop keeps what was taken and passed over so far.
use mathlib.Core.Path.{◌≡◌}
use Rattle.mesh.proofs.Gathers.{Keeps}
use Rattle.mesh.proofs.pass.gather.Given as goal

abbrev pub invariant-loop-item : goal.invariant-loop-item
invariant-loop-item l =
    (l.item-iterator.t.now ≡ l.fn.m.t.now) × Keeps l.fn.m.limit l.fn.m.t.now l.initial.s l.initial.out l.s l.out l.item-iterator.c
