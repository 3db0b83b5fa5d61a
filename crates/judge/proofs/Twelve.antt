-- The twelve elements of 01, proved: one list, one claim; and the wrong judges' answers, which do not fit.
--   F-nodes, G-nodes, grid-nodes : the elements have the nodes that 01 names
--   twelve-limits      : and the limits
--   tried, outcome-says : an element's outcome by what computes
--   twelve-hold        : the values, and the verdict or the refusal, of each of the twelve
--   always-valid, always-undecided, level-0-and-a-guess, invented-count, .. : answers that do not fit one of them
-- Assumes nothing.
use mathlib.Core.Path.{◌≡◌, refl, sym, ◌∙◌, ap, subst}
use mathlib.Core.List.{List, [], ◌∷◌, map}
use mathlib.Core.Bool.{Bool, true, not, cond, ◌&&◌}
use Prim.Native.Nat.{ℕ, zero, suc, ◌+◌, ◌*◌, ◌<◌}
use native.Mathlib.Omega.{arith}
use lib.Dec.{T, leb, eqb}
use lib.IntN.{ℤ, pos, neg_ℤ}
use Rattle.algebra.proofs.Truth.{T_and, and_T, cond_ind}
use Rattle.forms.specs.Rows.{weigh}
use Rattle.forms.specs.Forms.{value}
use Rattle.forms.specs.Cuttings.{leaves, level, opens, greedy}
use Rattle.forms.specs.Shapes.{scaled}
use Rattle.element.specs.Kinds.{Kind, six, nine, greatest_level}
use Rattle.element.specs.Plane.{Vec}
use Rattle.element.specs.Nodes.{A0, A1, A2, M01, M12, M02, A9}
use Rattle.element.specs.Control.{values6, value as controlValue, control_values}
use Rattle.element.proofs.Corners.{merged}
use Rattle.element.proofs.Tried.{listed, sound, accepted-kind, collapsed-kind}
use Rattle.judge.specs.Verdict.{Answer, valid, undecided, is_valid, is_invalid, Judges}
use Rattle.judge.specs.Elements.{subject}
use Rattle.judge.specs.Twelve.{F, G, grid9, Outcome, judged, refused, Row, row, twelve, Says, Holds, AllHold}
use Rattle.judge.proofs.Faithful.{element-faithful}
use Rattle.judge.proofs.Search.{least}
use Rattle.judge.proofs.Unique.{judges-unique}
use Rattle.judge.proofs.Computed.{low, in_row, row_low, row_of_first, cells_of, least-count, in_row_told, from, verdict, verdict-is}

-- ---- the nodes
abbrev at : ℤ → ℤ → Vec
at x y = record { x = x; y = y }

-- "A0(0,0), A1(8,0), A2(0,8), M12(4,4), M02(0,4), M01(4,t)"
pub F-nodes : (t : ℕ)
    → (A0 (F t) ≡ at (pos 0) (pos 0))
    × (A1 (F t) ≡ at (pos 8) (pos 0))
    × (A2 (F t) ≡ at (pos 0) (pos 8))
    × (M12 (F t) ≡ at (pos 4) (pos 4))
    × (M02 (F t) ≡ at (pos 0) (pos 4))
    × (M01 (F t) ≡ at (pos 4) (pos t))
F-nodes t = (refl, refl, refl, refl, refl, refl)

-- "A0(-8,0), A1(8,0), A2(0,16), M01(0,t), M12(4+s,8), M02(-4-s,8)"
pub G-nodes : (t s : ℕ)
    → (A0 (G t s) ≡ at (neg_ℤ (pos 8)) (pos 0))
    × (A1 (G t s) ≡ at (pos 8) (pos 0))
    × (A2 (G t s) ≡ at (pos 0) (pos 16))
    × (M01 (G t s) ≡ at (pos 0) (pos t))
    × (M12 (G t s) ≡ at (pos (4 + s)) (pos 8))
    × (M02 (G t s) ≡ at (neg_ℤ (pos (4 + s))) (pos 8))
G-nodes t s = (refl, refl, refl, refl, refl, refl)

-- what holds of 0, 1 and 2 holds of each number below 3
below-three : (P : ℕ → Type 0) → P 0 → P 1 → P 2 → (n : ℕ) → n < 3 → P n
below-three P a b c zero h = a
below-three P a b c (suc zero) h = b
below-three P a b c (suc (suc zero)) h = c
below-three P a b c (suc (suc (suc n))) h = absurd (omega arith)

same_at : {a b c d : ℕ} → a ≡ c → b ≡ d → at (pos a) (pos b) ≡ at (pos c) (pos d)
same_at e f = cc

-- "nodes (i,j)" and "nodes (2i,2j) but centre (3,2)": nodes (k·i, k·j), but the given centre
pub grid-nodes : (k x y i j : ℕ) → i < 3
    → j < 3
    → A9 (grid9 k x y) i j ≡ cond (eqb i 1 && eqb j 1) (at (pos x) (pos y)) (at (pos (k * i)) (pos (k * j)))
grid-nodes k x y i j h g =
    below-three (λ i. Node i j)
    (below-three (Node 0) (same_at z z) (same_at z o) (same_at z t) j g)
    (below-three (Node 1) (same_at o z) refl (same_at o t) j g)
    (below-three (Node 2) (same_at t z) (same_at t o) (same_at t t) j g) i h
  where
    Node : ℕ → ℕ → Type 0
    Node i j = A9 (grid9 k x y) i j ≡ cond (eqb i 1 && eqb j 1) (at (pos x) (pos y)) (at (pos (k * i)) (pos (k * j)))

    z : 0 ≡ k * 0
    z = omega arith

    o : k ≡ k * 1
    o = omega arith

    t : 2 * k ≡ k * 2
    t = omega arith

-- ---- the list
-- the limits of 01's first column
pub twelve-limits : map (λ (r : Row). r.limit) twelve ≡ 0 ∷ 3 ∷ 3 ∷ 3 ∷ 0 ∷ 3 ∷ 3 ∷ 3 ∷ 0 ∷ 3 ∷ 2 ∷ 2 ∷ []
twelve-limits = refl

-- an outcome by what computes: 21 where corners stand at one place, and else the verdict
abbrev pub outcome_of : Kind → List ℤ → ℕ → Outcome
outcome_of k xs L = cond (merged k xs) (refused 21) (judged (verdict (subject k xs) L))

-- nothing else is wrong with the element
abbrev pub tried : Kind → List ℤ → ℕ → Bool
tried k xs L = leb L (greatest_level k) && listed k xs

pub outcome-says : (k : Kind) (xs : List ℤ) (L : ℕ) → T (tried k xs L) → Says k xs L (outcome_of k xs L)
outcome-says k xs L t =
    let (a, b) = T_and (leb L (greatest_level k)) (listed k xs) t in
    cond_ind (merged k xs) (refused 21) (judged (verdict (subject k xs) L)) (Says k xs L)
    (λ c. collapsed-kind k L xs (and_T (leb L (greatest_level k)) (listed k xs && merged k xs) a (and_T (listed k xs) (merged k xs) b c)))
    (λ c. (
      accepted-kind k L xs (and_T (leb L (greatest_level k)) (sound k xs) a (and_T (listed k xs) (not (merged k xs)) b c)),
      verdict-is (subject k xs) (element-faithful k xs) L,
    ))

-- the same rows with what computes in place of what is stated
abbrev computed : Row → Row
computed r = row r.kind r.coords r.limit (control_values r.kind r.coords) (outcome_of r.kind r.coords r.limit)

abbrev all_tried : List Row → Bool
all_tried [] = true
all_tried (r ∷ rs) = tried r.kind r.coords r.limit && all_tried rs

computed-holds : (r : Row) → T (tried r.kind r.coords r.limit) → computed r ≡ r → Holds r
computed-holds r t e = (
  ap (λ (q : Row). q.values) e,
  subst (Says r.kind r.coords r.limit) (ap (λ (q : Row). q.outcome) e) (outcome-says r.kind r.coords r.limit t),
)

pub all_hold : (rs : List Row) → T (all_tried rs) → map computed rs ≡ rs → AllHold rs
all_hold [] t e = tt
all_hold (r ∷ rs) t e =
    let (a, b) = T_and (tried r.kind r.coords r.limit) (all_tried rs) t in
    (computed-holds r a cc, all_hold rs b cc)

pub twelve-hold : AllHold twelve
unfolding verdict from in_row_told least-count cells_of row_of_first row_low in_row low least scaled value weigh leaves level greedy opens control_values values6 controlValue
twelve-hold = all_hold twelve tt refl

-- ---- wrong judges
-- an answer that fits a row of the list is the row's answer
only : (k : Kind) (xs : List ℤ) (L : ℕ) (b : Answer) → Says k xs L (judged b) → (a : Answer) → Judges (subject k xs) L a → a ≡ b
only k xs L b h a j = judges-unique (subject k xs) (element-faithful k xs) L a b j h.1

-- F(2) is not valid
pub always-valid : (a : Answer) → a.word ≡ valid → ¬ Judges (subject six (F 2)) 3 a
always-valid a e j = absurd (clash (only _ _ _ _ twelve-hold.1.1.0.1 a j))
  where
    clash : a ≡ is_invalid 0 1 0 (pos 0) → ⊥
    clash p = let z : ◌≡◌ {A = ℕ} 0 1 = cc in omega arith

-- F(0) is not undecided
pub always-undecided : (a : Answer) → a.word ≡ undecided → ¬ Judges (subject six (F 0)) 0 a
always-undecided a e j = absurd (clash (only _ _ _ _ twelve-hold.0.1 a j))
  where
    clash : a ≡ is_valid 0 1 → ⊥
    clash p = let z : ◌≡◌ {A = ℕ} 0 1 = cc in omega arith

-- G(3,4) and G(8,4) are not settled at level 0, whatever is guessed
pub level-0-and-a-guess : (a : Answer) → a.level ≡ 0 → (¬ Judges (subject six (G 3 4)) 3 a) × (¬ Judges (subject six (G 8 4)) 3 a)
level-0-and-a-guess a e =
    ((λ j. absurd (near (only _ _ _ _ twelve-hold.1.1.1.1.1.0.1 a j))), λ j. absurd (far (only _ _ _ _ twelve-hold.1.1.1.1.1.1.1.0.1 a j)))
  where
    near : a ≡ is_valid 1 4 → ⊥
    near p = let z : ◌≡◌ {A = ℕ} 0 1 = cc in omega arith

    far : a ≡ is_invalid 1 1 0 (pos 0) → ⊥
    far p = let z : ◌≡◌ {A = ℕ} 0 1 = cc in omega arith

-- G(3,4) has 4 cells, no other number
pub invented-count : (a : Answer) → ¬ (a.cells ≡ 4) → ¬ Judges (subject six (G 3 4)) 3 a
invented-count a n j =
    let e : a ≡ is_valid 1 4 = only _ _ _ _ twelve-hold.1.1.1.1.1.0.1 a j in n (ap (λ (b : Answer). b.cells) e)
