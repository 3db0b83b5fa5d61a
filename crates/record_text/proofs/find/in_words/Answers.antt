-- `record_text::find::in_words` meets its contract: the loop keeps that no word before has the fault.
use mathlib.Core.Path.{◌≡◌, ap, ◌∙◌}
use mathlib.Core.Bool.{true}
use mathlib.Core.List.{[]}
use Prim.Native.Nat.{◌≤◌}
use native.Mathlib.Omega.{arith}
use lib.ListN.{length, drop, drop_of_length-le}
use Rattle.mesh_text.specs.Rows.{line, is_nil}
use Rattle.mesh_text.proofs.Rows.{line-nil}
use Rattle.record_text.specs.Faults.{Flawed}
use Rattle.record_text.specs.Finds.{code_of, FlawBy}
use Rattle.record_text.proofs.Searches.{words-end}
use Rattle.record_text.proofs.find.in_words.Goals as goal

pub returns : goal.returns
returns c =
    let l = c.loop-p in
    let a = c.args in
    let h : length a.t.now ≤ l.p = omega arith in
    let z : drop l.p a.t.now ≡ [] = drop_of_length-le a.t.now h in
    let e : is_nil (line (drop l.p a.t.now)) ≡ true = ap (λ u. is_nil (line u)) z ∙ ap is_nil line-nil in
    words-end (code_of a.test) a.n (Flawed (FlawBy a.test) (line (drop a.at a.t.now))) l.k (line (drop l.p a.t.now)) e l.invariant.2
