-- `mesh_form::values::skip` meets its contract: the loop keeps that behind the words that are left to pass stands what is asked for. Assumes nothing.
use mathlib.Core.Path.{◌≡◌}
use Prim.Native.Nat.{◌-◌, ◌≤◌}
use lib.ListN.{length, drop}
use Rattle.mesh_text.specs.Rows.{line}
use Rattle.mesh_form.proofs.values.skip.Given as goal

abbrev pub invariant-loop : goal.invariant-loop
invariant-loop l = (l.p ≤ length l.t) × (drop (l.n - l.counter) (line (drop l.p l.t)) ≡ drop l.n (line (drop l.at l.t)))
