-- `record::used_code` meets its contract: the slice lent holds the coordinates of the kind's nodes. Assumes nothing.
use mathlib.Core.Path.{◌≡◌, sym}
use mathlib.Core.List.{List}
use native.Mathlib.Omega.{arith}
use lib.IntN.{ℤ}
use lib.ListN.{length, take}
use lib.Seq.{length-take-le, take_all}
use borrow.Author.Rules.{rules}
use Rattle.algebra.proofs.Truth.{not-not}
use Rattle.record.proofs.used_code.Goals as goal

sixteen : (l : List ℤ) → length l ≡ 18 → length (take 16 l) ≡ 16
sixteen l e = length-take-le 16 l (omega arith)

pub slice_bounds-node_code-end-in-8 : goal.slice_bounds-node_code-end-in-8
slice_bounds-node_code-end-in-8 c = sym (sixteen c.args.coords (search rules))

pub node_code-requires-in-8 : goal.node_code-requires-in-8
node_code-requires-in-8 c = sixteen c.args.coords (search rules)

pub returns-in-6 : goal.returns-in-6
returns-in-6 c = rw c.in-6.is c.node_code.ensures

pub returns-in-8 : goal.returns-in-8
returns-in-8 c = rw c.in-8.is c.node_code-in-8.ensures

pub returns-in_default : goal.returns-in_default
returns-in_default c =
    let l : length c.args.coords ≡ 18 = search rules in
    let n : c.args.kind ≡ 9 = not-not c.args.kind 9 (λ h. c.requires ((λ e. omega (arith, e)), (λ e. omega (arith, e)), h)) in
    rw (n, take_all 18 c.args.coords (omega arith)) c.node_code-in_default.ensures
