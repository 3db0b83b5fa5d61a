-- `mesh_numbers::unlisted` meets its contract: window by window, every number below that is wanted is listed. Assumes nothing.
use mathlib.Core.List.{Memᴰ}
use Prim.Native.Nat.{ℕ, ◌<◌}
use lib.Dec.{lit<}
use Rattle.mesh_numbers.specs.Numbers.{numbers, wanted}
use Rattle.mesh_numbers.proofs.Windows.{big, none_below, above-small, above_on, lacks-yes, lacks-none, swept-all}
use Rattle.mesh_numbers.proofs.unlisted.Goals as goal

pub in_a_window-requires-clause-onwards : goal.in_a_window-requires-clause-onwards
in_a_window-requires-clause-onwards c = λ base p h e.
    let w = wanted c.args.t.now in
    (above_on base 1048576 w p e.above (lit< tt) h, above-small base 1048576 w p e.above)

pub returns : goal.returns
returns c =
    let l = numbers c.args.t.now in
    let w = wanted c.args.t.now in
    record {
      yes = λ e. let y = c.in_a_window.ensures.yes e in lacks-yes y.0 1048576 l w y.1.0 y.1.1.0 y.1.1.1;
      no = λ e n i k. let s = c.in_a_window.ensures.no e in
          swept-all (λ b. (m : ℕ) → Memᴰ m w → m < b → Memᴰ m l) (λ m j h. absurd (none_below h)) (λ b p h d f. lacks-none b 1048576 l w p d f h) s.1.1
          n i (big k s.1.0);
    }
