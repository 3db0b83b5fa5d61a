-- `mesh_form::items::Items::next` meets its contract: the loop keeps that what is read from the cursor is what is read from the first.
use mathlib.Core.Path.{◌≡◌}
use Prim.Native.Nat.{ℕ, ◌-◌}
use lib.ListN.{length}
use Rattle.mesh_form.specs.Walk.{Found, Reads}
use Rattle.mesh_form.proofs.items.ItemsIterator.next.Given as goal

abbrev pub invariant-loop-row : goal.invariant-loop-row
invariant-loop-row l =
    (l.self.t ≡ l.initial.self.t)
    × ((m : ℕ) (f : Found) → Reads m l.self.t.now l.self.c f → Reads m l.initial.self.t.now l.initial.self.c f)

abbrev pub decreases-loop-row : goal.decreases-loop-row
decreases-loop-row l = length l.self.t.now - l.self.c.at
