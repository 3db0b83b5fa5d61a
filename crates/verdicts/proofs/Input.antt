-- The list of what a buffer longer than any block holds of an input is the list of the input.
--   input-listed : that
-- Assumes nothing.
use mathlib.Core.Path.{subst}
use mathlib.Core.List.{List}
use Prim.Native.Nat.{ℕ, ◌≤◌, ◌<◌}
use lib.ListN.{length, take}
use Rattle.block.specs.Block.{place}
use Rattle.list.specs.declared.Listed.{Listed}
use Rattle.floor.specs.declared.Profile.{Profile}
use Rattle.list.specs.Calls.{WritesBy}
use Rattle.list.proofs.Outcomes.{write-prefix, write-text}
use Rattle.verdicts.specs.Input.{ListsInput}

pub input-listed : (q : Profile) (b : List ℕ) (n : ℕ) (o o' : List ℕ) (r : Listed) → place 800 < length b
    → 71680 ≤ length o
    → WritesBy q (take n b) o o' r
    → ListsInput q b n (take r.length o')
input-listed q b n o o' r h k w input e =
    write-text q k (write-prefix q (length b) input o o' r h (subst (λ (l : List ℕ). WritesBy q l o o' r) e w))
