-- Ten-node triangles, proved: one list, one claim.
--   straight-thirds  : in the straight one each node stands at its own weights of the corners, three times taken
--   tens-limits      : the limits
--   tens-hold        : the values, and the verdict, of each of the list
-- Assumes nothing.
use mathlib.Core.Path.{◌≡◌, refl}
use mathlib.Core.List.{List, [], ◌∷◌, map}
use Prim.Native.Nat.{ℕ}
use lib.IntN.{pos, ◌*ℤ◌}
use lib.ListN.{get_or}
use Rattle.forms.specs.Rows.{weigh}
use Rattle.forms.specs.Forms.{value}
use Rattle.forms.specs.Cuttings.{leaves, level, opens, greedy}
use Rattle.forms.specs.Shapes.{scaled}
use Rattle.element.specs.Plane.{Vec, ◌+ᵥ◌, ◌*ᵥ◌}
use Rattle.element.specs.Nodes.{node, A0, A1, A2}
use Rattle.element.specs.Cubic.{value10, values10}
use Rattle.element.specs.Lagrange.{weights10}
use Rattle.element.specs.Control.{control_values}
use Rattle.judge.specs.Twelve.{Row, AllHold}
use Rattle.judge.specs.Tens.{straight10, tens}
use Rattle.judge.proofs.Search.{least}
use Rattle.judge.proofs.Computed.{low, in_row, row_low, row_of_first, cells_of, least-count, in_row_told, from, verdict}
use Rattle.judge.proofs.Twelve.{all_hold}

-- the ten nodes
abbrev places : List ℕ
places = 0 ∷ 1 ∷ 2 ∷ 3 ∷ 4 ∷ 5 ∷ 6 ∷ 7 ∷ 8 ∷ 9 ∷ []

abbrev third : ℕ → Vec
third k =
    let w = weights10 k in
    pos (get_or w 0 0) *ᵥ A0 straight10 +ᵥ pos (get_or w 1 0) *ᵥ A1 straight10 +ᵥ pos (get_or w 2 0) *ᵥ A2 straight10

pub straight-thirds : map (λ k. pos 3 *ᵥ node straight10 k) places ≡ map third places
straight-thirds = refl

pub tens-limits : map (λ (r : Row). r.limit) tens ≡ 2 ∷ 2 ∷ 2 ∷ 3 ∷ 3 ∷ 2 ∷ 3 ∷ []
tens-limits = refl

pub tens-hold : AllHold tens
unfolding verdict from in_row_told least-count cells_of row_of_first row_low in_row low least scaled value weigh leaves level greedy opens control_values values10 value10
tens-hold = all_hold tens tt refl
