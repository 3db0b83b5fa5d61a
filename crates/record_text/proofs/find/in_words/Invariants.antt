-- `record_text::find::in_words` meets its contract: the loop keeps that no word before has the fault.
use Prim.Native.Nat.{◌+◌, ◌-◌, ◌≤◌}
use lib.ListN.{length, drop}
use Rattle.mesh_text.specs.Rows.{line}
use Rattle.record_text.specs.Faults.{Flawed, each_word}
use Rattle.record_text.specs.Finds.{code_of, FlawBy}
use Rattle.record_text.proofs.Searches.{Ahead}
use Rattle.record_text.proofs.find.in_words.Given as goal

abbrev pub invariant-loop-p : goal.invariant-loop-p
invariant-loop-p l =
    (l.p ≤ length l.t)
    × (l.k ≤ l.p + 1)
    × Ahead (each_word (code_of l.test) l.n (Flawed (FlawBy l.test) (line (drop l.at l.t))) 1 (line (drop l.at l.t)))
    (each_word (code_of l.test) l.n (Flawed (FlawBy l.test) (line (drop l.at l.t))) l.k (line (drop l.p l.t)))

abbrev pub decreases-loop-p : goal.decreases-loop-p
decreases-loop-p l = length l.t - l.p
