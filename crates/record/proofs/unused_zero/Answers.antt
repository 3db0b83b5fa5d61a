-- `record::unused_zero` meets its contract: the slice lent is what is left behind the kind's nodes. Assumes nothing.
use mathlib.Core.Path.{◌≡◌}
use mathlib.Core.List.{List}
use Prim.Native.Nat.{ℕ, ◌-◌, ◌≤◌}
use native.Mathlib.Omega.{arith}
use lib.Dec.{lit≤}
use lib.IntN.{ℤ}
use lib.ListN.{length, take, drop, length-drop}
use lib.Seq.{take_all}
use borrow.Author.Rules.{rules}
use Rattle.record.proofs.unused_zero.Goals as goal

behind : (n : ℕ) (l : List ℤ) → length l ≡ 18 → n ≤ 18 → take (18 - n) (drop n l) ≡ drop n l
behind n l e h = take_all (18 - n) (drop n l) (simp length-drop (omega arith))

pub returns-then-kind-eq6 : goal.returns-then-kind-eq6
returns-then-kind-eq6 c =
    let l : length c.args.coords ≡ 18 = search rules in
    let e = behind 12 c.args.coords l (lit≤ tt) in
    record {
      yes = rw c.if-kind-eq6.true (rw e at c.within.ensures.yes);
      no = rw c.if-kind-eq6.true (rw e at c.within.ensures.no);
    }
