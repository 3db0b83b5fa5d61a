-- `mesh_numbers::twice` meets its contract: window by window, no number below stands twice. Assumes nothing.
use Prim.Native.Nat.{◌<◌}
use lib.Dec.{lit<}
use Rattle.mesh_form.specs.Mesh.{RepeatsIn}
use Rattle.mesh_numbers.specs.Numbers.{numbers}
use Rattle.mesh_numbers.proofs.Flags.{repeats-map}
use Rattle.mesh_numbers.proofs.Windows.{big, above-small, above_on, doubles-yes, doubles-none, repeats-none, swept-all}
use Rattle.mesh_numbers.proofs.twice.Goals as goal

pub in_a_window-requires-clause-onwards : goal.in_a_window-requires-clause-onwards
in_a_window-requires-clause-onwards c = λ base p h e.
    let l = numbers c.args.t.now in
    (above_on base 1048576 l p e.above (lit< tt) h, above-small base 1048576 l p e.above)

pub returns : goal.returns
returns c =
    let l = numbers c.args.t.now in
    record {
      yes = λ e. let y = c.in_a_window.ensures.yes e in doubles-yes y.0 1048576 l y.1.0 y.1.1.0 y.1.1.1;
      no = λ e r. let n = c.in_a_window.ensures.no e in
          swept-all (λ b. ¬ RepeatsIn (λ m. m < b) l) (repeats-none l) (λ b p h d f. doubles-none b 1048576 l p d f h) n.1.1
          (repeats-map (λ m h. big h n.1.0) r);
    }
