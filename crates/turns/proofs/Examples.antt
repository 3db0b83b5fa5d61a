-- The examples as answers of the calls.
--   examples-asked  : kind, element and limit of each row
--   bent-nodes, crossed-nodes : the nodes of the two that stand nowhere else
--   examples-called : the call accepts each element in both numberings, and answers what the list says
--   named-apart     : of the quad `apart` the two answers name two points of the element, with two values
--   floor-mirrored  : the triangle that the floor's examples call mirrored is F(0), numbered the other way round
--   crossed-valid, crossed-straight, crossed-floor : `crossed` is valid, its S is -2000, and the floor gives it 17, so 17 alone shows no mirrored list
-- Assumes nothing.
use mathlib.Core.Path.{◌≡◌, refl, sym, ap, subst}
use mathlib.Core.Bool.{Bool, true, ◌&&◌}
use mathlib.Core.List.{List, [], ◌∷◌, map}
use Prim.Native.Nat.{ℕ, ◌^◌, ◌<◌}
use native.Mathlib.Omega.{arith}
use lib.Dec.{T}
use lib.IntN.{ℤ, pos, nat_abs}
use lib.Signed.{◌≤ℤ◌, le_z_yes}
use Rattle.algebra.proofs.Truth.{T_and}
use Rattle.forms.specs.Rows.{weigh}
use Rattle.forms.specs.Forms.{value}
use Rattle.forms.specs.Shapes.{scaled}
use Rattle.forms.specs.Cuttings.{leaves, level, opens, greedy}
use Rattle.element.specs.Kinds.{Kind, six, eight, nine, node_count}
use Rattle.element.specs.Plane.{Vec}
use Rattle.element.specs.Nodes.{A0, A1, A2, M01, M12, M02, A8}
use Rattle.element.specs.Control.{values6, value as controlValue, control_values}
use Rattle.element.proofs.Tried.{list-accepted, accepts}
use Rattle.judge.specs.Verdict.{Answer, is_valid, Judges}
use Rattle.judge.specs.Elements.{subject}
use Rattle.judge.specs.Twelve.{n, F, G, grid9}
use Rattle.judge.proofs.Faithful.{element-faithful}
use Rattle.judge.proofs.Search.{least}
use Rattle.judge.proofs.Computed.{low, in_row, row_low, row_of_first, cells_of, least-count, in_row_told, from, verdict, verdict-is}
use Rattle.verdict.specs.Calls.{given, refusal, VerdictOf, Only}
use Rattle.verdict.specs.declared.Judged.{Judged}
use Rattle.verdict.proofs.Twelve.{element-called}
use Rattle.floor.specs.Floor.{straight}
use Rattle.floor.specs.Calls.{NoPercent, FloorOf}
use Rattle.floor.specs.Examples as floor
use Rattle.floor.proofs.Codes.{straight-last}
use Rattle.turns.specs.Numbering.{turned, mirrored, turned_point}
use Rattle.turns.specs.Examples.{apart, bent, Row, examples, Called, AllCalled, crossed}

-- ---- what is asked
abbrev asked : Row → Kind × List ℤ × ℕ
asked r = (r.kind, r.coords, r.limit)

pub examples-asked : map asked examples
    ≡ (six, G 7 4, 3) ∷ (six, G 8 4, 3) ∷ (six, G 8 4, 0) ∷ (eight, bent, 2) ∷ (nine, grid9 2 3 2, 2) ∷ (nine, grid9 2 1 4, 2) ∷ []
examples-asked = refl

abbrev at : ℤ → ℤ → Vec
at x y = record { x = x; y = y }

pub bent-nodes : (A8 bent 0 0 ≡ at (pos 0) (pos 1))
    × (A8 bent 1 0 ≡ at (pos 4) (n 2))
    × (A8 bent 2 0 ≡ at (pos 8) (pos 1))
    × (A8 bent 0 1 ≡ at (pos 2) (pos 4))
    × (A8 bent 2 1 ≡ at (pos 6) (pos 4))
    × (A8 bent 0 2 ≡ at (pos 0) (pos 6))
    × (A8 bent 1 2 ≡ at (pos 6) (pos 8))
    × (A8 bent 2 2 ≡ at (pos 8) (pos 8))
bent-nodes = (refl, refl, refl, refl, refl, refl, refl, refl)

pub crossed-nodes : (A0 crossed ≡ at (n 100) (pos 0))
    × (A1 crossed ≡ at (pos 100) (pos 0))
    × (A2 crossed ≡ at (pos 0) (n 10))
    × (M01 crossed ≡ at (pos 0) (n 100))
    × (M12 crossed ≡ at (pos 50) (n 40))
    × (M02 crossed ≡ at (n 50) (n 40))
crossed-nodes = (refl, refl, refl, refl, refl, refl)

pub floor-mirrored : floor.mirrored ≡ mirrored six (F 0)
floor-mirrored = refl

-- ---- one call by what computes
called : (k : Kind) (xs : List ℤ) (L : ℕ) (a : Answer) → T (accepts k L xs)
    → verdict (subject k xs) L ≡ a
    → Only (VerdictOf (node_count k) L xs) (given a)
called k xs L a t e =
    element-called k L xs a t (subst (Judges (subject k xs) L) e (verdict-is (subject k xs) (element-faithful k xs) L))

abbrev tried : Row → Bool
tried r = accepts r.kind r.limit r.coords && accepts r.kind r.limit (turned r.kind r.coords)

-- ---- the list: the answers that compute, and the answers told
abbrev computed : List Row → List Answer
computed [] = []
computed (r ∷ rs) =
    verdict (subject r.kind r.coords) r.limit ∷ verdict (subject r.kind (turned r.kind r.coords)) r.limit ∷ computed rs

abbrev told : List Row → List Answer
told [] = []
told (r ∷ rs) = r.answer ∷ r.next ∷ told rs

abbrev all_tried : List Row → Bool
all_tried [] = true
all_tried (r ∷ rs) = tried r && all_tried rs

all-called : (rs : List Row) → T (all_tried rs) → computed rs ≡ told rs → AllCalled rs
all-called [] t e = tt
all-called (r ∷ rs) t e =
    let (u, v) = T_and (tried r) (all_tried rs) t in
    let (a, b) = T_and (accepts r.kind r.limit r.coords) (accepts r.kind r.limit (turned r.kind r.coords)) u in (
      record {
        first = called r.kind r.coords r.limit r.answer a cc;
        second = called r.kind (turned r.kind r.coords) r.limit r.next b cc;
      },
      all-called rs v cc,
    )

pub examples-called : AllCalled examples
unfolding verdict from in_row_told least-count cells_of row_of_first row_low in_row low least scaled value weigh leaves level greedy opens control_values values6 controlValue
examples-called = all-called examples tt refl

-- ---- two numberings, two points
pub named-apart : (r r' : Judged) → VerdictOf 9 2 apart r
    → VerdictOf 9 2 (turned nine apart) r'
    → ¬ (turned_point nine (2 ^ r.level) (r.i, r.j) ≡ (r'.i, r'.j)) × ¬ (r.value ≡ r'.value)
named-apart r r' v v' =
    let c : Called _ = examples-called.1.1.1.1.1.0 in
    rw (c.first.no_other r v, c.second.no_other r' v')
    ((λ e. let z : ◌≡◌ {A = ℕ} 1 2 = ap (λ (a : ℕ × ℕ). a.0) e in omega arith), (λ e. let z : ◌≡◌ {A = ℕ} 0 36864 = ap nat_abs e in omega arith))

-- ---- a valid triangle whose corners stand clockwise
pub crossed-valid : Only (VerdictOf 6 0 crossed) (given (is_valid 0 1))
unfolding verdict from in_row_told least-count cells_of row_of_first row_low in_row low least scaled value weigh leaves level greedy opens control_values values6
crossed-valid = called six crossed 0 (is_valid 0 1) tt refl

pub crossed-straight : straight crossed ≡ n 2000
unfolding straight
crossed-straight = refl

pub crossed-floor : (l p : ℕ) (r : Judged) → ¬ (7 < l) → ¬ NoPercent p → FloorOf 6 l crossed p r → r ≡ refusal 17
crossed-floor l p r a d v =
    straight-last l crossed p r v a refl (list-accepted six crossed tt).1 (list-accepted six crossed tt).2 d (subst (λ z. z ≤ℤ pos 0) (sym crossed-straight) (le_z_yes tt))
