-- `append::pad` meets its contract: behind the coordinates the zeros are left.
use mathlib.Core.List.{List, ◌++◌}
use mathlib.Core.Path.{ap}
use lib.IntN.{ℤ, pos}
use lib.ListN.{length}
use Rattle.std.proofs.lemmas.List.{drop-replicate}
use Rattle.append.proofs.pad.Goals as goal

pub returns : goal.returns
returns c =
    let xs = c.args.coords.now in
    rw c.copy_from_slice.ensures.after (ap (λ (zs : List ℤ). xs ++ zs) (drop-replicate (length xs) 18 (pos 0)))
