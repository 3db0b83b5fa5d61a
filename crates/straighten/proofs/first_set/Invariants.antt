-- `straighten::first_set` meets its contract: the loop keeps that no set before t gives valid. Assumes nothing.
use Prim.Native.Nat.{ℕ, ◌<◌}
use Rattle.straighten.specs.Calls.{GivesValid}
use Rattle.straighten.specs.Trials.{set_at}
use Rattle.straighten.proofs.first_set.Given as goal

abbrev pub invariant-loop-t : goal.invariant-loop-t
invariant-loop-t l = (k : ℕ) → k < l.t → ¬ GivesValid l.limit l.coords (set_at k)
