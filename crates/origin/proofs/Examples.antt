-- At the ends of i32 and of the limits: what `verdict` answers, for each kind and under every limit of the kind.
--   box-nodes      : a box of each kind, node by node
--   ends_of        : where the boxes reach
--   lowest-valid, highest-valid, twice-valid : these are valid at level 0, with one cell
--   wider-refused, taller-refused, across-refused, wrapped-refused : these have code 4
-- Assumes nothing.
use mathlib.Core.Path.{◌≡◌, refl, subst}
use mathlib.Core.Bool.{Bool, true, not, ◌&&◌, ◌||◌}
use mathlib.Core.List.{List, [], ◌∷◌}
use mathlib.Core.Logic.{inl, inr}
use Prim.Native.Nat.{ℕ, zero, suc, ◌*◌, ◌-◌, ◌≤◌, zero-le}
use native.Mathlib.Nat as N
use lib.Dec.{T, leb, ltb, eqb, lit<, leb→le, ltb→lt, eqb→eq}
use lib.IntN.{ℤ, pos, neg_ℤ, nat_abs}
use lib.ListN.{length}
use lib.Signed.{mag}
use Rattle.algebra.specs.Within.{Each}
use Rattle.algebra.proofs.Truth.{T_and, T-or}
use Rattle.forms.specs.Rows.{weigh}
use Rattle.forms.specs.Forms.{value}
use Rattle.forms.specs.Shapes.{scaled}
use Rattle.forms.specs.Cuttings.{leaves, level, opens, greedy}
use Rattle.element.specs.Kinds.{Kind, six, eight, nine, ten, node_count, kind_of, coordinate_limit, greatest_level}
use Rattle.element.specs.Cubic.{value10, values10}
use Rattle.element.specs.Control.{at, values6, value as controlValue, control_values}
use Rattle.element.specs.Origin.{from_first, Ranged, Held}
use Rattle.element.specs.Corners.{Collapsed}
use Rattle.element.specs.Refusals.{Accepted, Beyond, Outside, verdict_codes}
use Rattle.element.proofs.Ranges.{ranged-inside}
use Rattle.element.proofs.Corners.{merged, not-merged}
use Rattle.element.proofs.Tried.{coords_within, within-at, kind-of-nodes, is-kind}
use Rattle.judge.specs.Verdict.{Word, is_valid, Judges}
use Rattle.judge.specs.Elements.{subject}
use Rattle.judge.proofs.Faithful.{element-faithful}
use Rattle.judge.proofs.Demands.{limit-keeps}
use Rattle.judge.proofs.Search.{least}
use Rattle.judge.proofs.Computed.{low, in_row, row_low, row_of_first, cells_of, least-count, in_row_told, from, verdict, verdict-is}
use Rattle.verdict.specs.Calls.{tell, given, refusal, VerdictOf, Only, Settled}
use Rattle.verdict.specs.declared.Judged.{Judged}
use Rattle.verdict.proofs.Judging.{refused-told}
use Rattle.verdict.proofs.Twelve.{accepted-called}
use Rattle.origin.specs.Boxes.{box, lowest, highest, wider, taller, twice, across, wrapped, right, top, ends}

-- ---- what the boxes are
pub box-nodes : (box six (pos 10) (pos 20) 6 8
    ≡ pos 10 ∷ pos 20 ∷ pos 16 ∷ pos 20 ∷ pos 10 ∷ pos 28 ∷ pos 13 ∷ pos 20 ∷ pos 13 ∷ pos 24 ∷ pos 10 ∷ pos 24 ∷ [])
    × (box eight (pos 10) (pos 20) 6 8
    ≡ pos 10 ∷ pos 20 ∷ pos 13 ∷ pos 20 ∷ pos 16 ∷ pos 20 ∷ pos 10 ∷ pos 24 ∷ pos 16 ∷ pos 24 ∷ pos 10 ∷ pos 28 ∷ pos 13 ∷ pos 28 ∷ pos 16 ∷ pos 28 ∷ [])
    × (box nine (pos 10) (pos 20) 6 8
    ≡ pos 10 ∷ pos 20 ∷ pos 13 ∷ pos 20 ∷ pos 16 ∷ pos 20 ∷ pos 10 ∷ pos 24 ∷ pos 13 ∷ pos 24 ∷ pos 16 ∷ pos 24 ∷ pos 10 ∷ pos 28 ∷ pos 13 ∷ pos 28 ∷ pos 16 ∷ pos 28 ∷ [])
    × (box ten (pos 10) (pos 20) 6 9
    ≡ pos 10 ∷ pos 20 ∷ pos 16 ∷ pos 20 ∷ pos 10 ∷ pos 29 ∷ pos 12 ∷ pos 20 ∷ pos 14 ∷ pos 20 ∷ pos 14 ∷ pos 23 ∷ pos 12 ∷ pos 26 ∷ pos 10 ∷ pos 26 ∷ pos 10 ∷ pos 23 ∷ pos 12 ∷ pos 23 ∷ [])
box-nodes = (refl, refl, refl, refl)

abbrev n : ℕ → ℤ
n m = neg_ℤ (pos m)

abbrev reach : Kind → List (List ℤ)
reach k =
    ends k (lowest k) ∷ ends k (highest k) ∷ ends k (wider k) ∷ ends k (taller k) ∷ ends k (twice k) ∷ ends k (across k) ∷ ends k (wrapped k) ∷ []

pub ends_of : (k : Kind) → let c = coordinate_limit k in
    reach k
    ≡ (n 2147483648 ∷ n 2147483648 ∷ n (2147483648 - c) ∷ n (2147483648 - c) ∷ [])
    ∷ (pos (2147483647 - c) ∷ pos (2147483647 - c) ∷ pos 2147483647 ∷ pos 2147483647 ∷ [])
    ∷ (n 2147483648 ∷ n 2147483648 ∷ n (2147483647 - c) ∷ n (2147483648 - c) ∷ [])
    ∷ (pos (2147483647 - c) ∷ pos (2147483646 - c) ∷ pos 2147483647 ∷ pos 2147483647 ∷ [])
    ∷ (n c ∷ n c ∷ pos c ∷ pos c ∷ [])
    ∷ (n c ∷ n 2147483648 ∷ pos c ∷ n (2147483648 - c) ∷ [])
    ∷ (n 2147483648 ∷ pos 0 ∷ pos 2147483647 ∷ pos c ∷ [])
    ∷ []
ends_of six = refl
ends_of eight = refl
ends_of nine = refl
ends_of ten = refl

-- ---- tests that compute
abbrev of_all : (Kind → Bool) → Bool
of_all f = f six && (f eight && (f nine && f ten))

each-kind : (f : Kind → Bool) → T (of_all f) → (k : Kind) → T (f k)
each-kind f t = go
  where
    others : T (f eight && (f nine && f ten))
    others = (T_and (f six) (f eight && (f nine && f ten)) t).1

    last : T (f nine && f ten)
    last = (T_and (f eight) (f nine && f ten) others).1

    go : (k : Kind) → T (f k)
    go six = (T_and (f six) (f eight && (f nine && f ten)) t).0
    go eight = (T_and (f eight) (f nine && f ten) others).0
    go nine = (T_and (f nine) (f ten) last).0
    go ten = (T_and (f nine) (f ten) last).1

abbrev sized : Kind → List ℤ → Bool
sized k xs = eqb (length xs) (2 * node_count k)

abbrev all_held : List ℤ → Bool
all_held [] = true
all_held (z ∷ xs) = leb (suc (mag z)) 2147483648 && all_held xs

held_at : (xs : List ℤ) → T (all_held xs) → (i : ℕ) → Held (at xs i)
held_at [] t i = lit< tt
held_at (z ∷ xs) t zero = leb→le (suc (mag z)) 2147483648 (T_and (leb (suc (mag z)) 2147483648) (all_held xs) t).0
held_at (z ∷ xs) t (suc i) = held_at xs (T_and (leb (suc (mag z)) 2147483648) (all_held xs) t).1 i

each_of : (m : ℕ) (xs : List ℤ) → T (coords_within m xs) → Each m xs
each_of m xs t = record { at = λ i. record { size = within-at m xs t i } }

-- within the limit, by the one rule or the other
abbrev ranged_by : Kind → List ℤ → Bool
ranged_by k xs = coords_within (coordinate_limit k) xs || coords_within (coordinate_limit k) (from_first xs)

inside_of : (k : Kind) (xs : List ℤ) → T (all_held xs) → T (ranged_by k xs) → ¬ Outside k xs
inside_of k xs s t =
    let c = coordinate_limit k in
    ranged-inside c xs (λ (i, h, f). f (held_at xs s i))
    (T-or (coords_within c xs) (coords_within c (from_first xs)) (Ranged c xs) (λ u. inl (each_of c xs u)) (λ u. inr (each_of c (from_first xs) u)) t)

-- beyond a limit at a place
abbrev larger : ℕ → List ℤ → ℕ → Bool
larger m xs i = ltb i (length xs) && ltb m (nat_abs (at xs i))

beyond-of : (m : ℕ) (xs : List ℤ) (i : ℕ) → T (larger m xs i) → Beyond m xs
beyond-of m xs i t =
    let (a, b) = T_and (ltb i (length xs)) (ltb m (nat_abs (at xs i))) t in
    (i, ltb→lt i (length xs) a, ltb→lt m (nat_abs (at xs i)) b)

-- ---- a list of a kind
module _ (l : ℕ) (k : Kind) (h : l ≤ greatest_level k) (xs : List ℤ) (e : length xs ≡ 2 * node_count k) where
  valid-list : ¬ Outside k xs → ¬ Collapsed k xs → verdict (subject k xs) 0 ≡ is_valid 0 1 → Only (VerdictOf (node_count k) l xs) (given (is_valid 0 1))
  valid-list f d c =
      let faith = element-faithful k xs in
      let at-0 : Judges (subject k xs) 0 (is_valid 0 1) = subst (Judges (subject k xs) 0) c (verdict-is (subject k xs) faith 0) in
      let taken : Accepted (verdict_codes (node_count k) l xs) = rw (kind-of-nodes k) (is-kind k, ((λ g. N.not-le_of_lt g h), ((λ g. g e), (f, (d, tt))))) in
      accepted-called k l xs (is_valid 0 1) taken
      (limit-keeps (subject k xs) faith 0 l (is_valid 0 1) (λ w. subst (λ (v : Word). Settled (tell v)) w tt) zero-le at-0)

  refused-list : Outside k xs → (r : Judged) → VerdictOf (node_count k) l xs r → r ≡ refusal 4
  refused-list o r v =
      refused-told (verdict_codes (node_count k) l xs) (subject (kind_of (node_count k)) xs) l 4
      (rw (kind-of-nodes k) (inr (is-kind k, inr ((λ g. N.not-le_of_lt g h), inr ((λ g. g e), inl (o, refl)))))) r v

-- ---- a list for each kind
module _ (lists : Kind → List ℤ) where
  abbrev good : Kind → Bool
  good k = sized k (lists k) && (all_held (lists k) && (ranged_by k (lists k) && not (merged k (lists k))))

  abbrev Settles : Kind → Type 0
  Settles k = verdict (subject k (lists k)) 0 ≡ is_valid 0 1

  valid-boxes : T (of_all good) → Settles six → Settles eight → Settles nine → Settles ten
      → (l : ℕ) (k : Kind) → l ≤ greatest_level k
      → Only (VerdictOf (node_count k) l (lists k)) (given (is_valid 0 1))
  valid-boxes t a b c d l k h =
      let (u, v) = T_and (sized k (lists k)) (all_held (lists k) && (ranged_by k (lists k) && not (merged k (lists k)))) (each-kind good t k) in
      let (w, q) = T_and (all_held (lists k)) (ranged_by k (lists k) && not (merged k (lists k))) v in
      let (x, y) = T_and (ranged_by k (lists k)) (not (merged k (lists k))) q in
      valid-list l k h (lists k) (eqb→eq (length (lists k)) (2 * node_count k) u) (inside_of k (lists k) w x) (not-merged k (lists k) y) (go k)
    where
      go : (k : Kind) → Settles k
      go six = a
      go eight = b
      go nine = c
      go ten = d

  -- beyond the limit at place i as the list stands, and at place j from the first node
  module _ (i : ℕ) (j : Kind → ℕ) where
    abbrev bad : Kind → Bool
    bad k = sized k (lists k) && (larger (coordinate_limit k) (lists k) i && larger (coordinate_limit k) (from_first (lists k)) (j k))

    refused-boxes : T (of_all bad) → (l : ℕ) (k : Kind) → l ≤ greatest_level k → (r : Judged) → VerdictOf (node_count k) l (lists k) r → r ≡ refusal 4
    refused-boxes t l k h =
        let m = coordinate_limit k in
        let (u, v) = T_and (sized k (lists k)) (larger m (lists k) i && larger m (from_first (lists k)) (j k)) (each-kind bad t k) in
        let (w, x) = T_and (larger m (lists k) i) (larger m (from_first (lists k)) (j k)) v in
        refused-list l k h (lists k) (eqb→eq (length (lists k)) (2 * node_count k) u)
        (beyond-of m (lists k) i w, inl (beyond-of m (from_first (lists k)) (j k) x))

-- ---- accepted
pub lowest-valid : (l : ℕ) (k : Kind) → l ≤ greatest_level k → Only (VerdictOf (node_count k) l (lowest k)) (given (is_valid 0 1))
unfolding verdict from in_row_told least-count cells_of row_of_first row_low in_row low least scaled value weigh leaves level greedy opens control_values values6 values10 controlValue value10
lowest-valid = valid-boxes lowest tt refl refl refl refl

pub highest-valid : (l : ℕ) (k : Kind) → l ≤ greatest_level k → Only (VerdictOf (node_count k) l (highest k)) (given (is_valid 0 1))
unfolding verdict from in_row_told least-count cells_of row_of_first row_low in_row low least scaled value weigh leaves level greedy opens control_values values6 values10 controlValue value10
highest-valid = valid-boxes highest tt refl refl refl refl

pub twice-valid : (l : ℕ) (k : Kind) → l ≤ greatest_level k → Only (VerdictOf (node_count k) l (twice k)) (given (is_valid 0 1))
unfolding verdict from in_row_told least-count cells_of row_of_first row_low in_row low least scaled value weigh leaves level greedy opens control_values values6 values10 controlValue value10
twice-valid = valid-boxes twice tt refl refl refl refl

-- ---- refused
pub wider-refused : (l : ℕ) (k : Kind) → l ≤ greatest_level k → (r : Judged) → VerdictOf (node_count k) l (wider k) r → r ≡ refusal 4
wider-refused = refused-boxes wider 0 right tt

pub taller-refused : (l : ℕ) (k : Kind) → l ≤ greatest_level k → (r : Judged) → VerdictOf (node_count k) l (taller k) r → r ≡ refusal 4
taller-refused = refused-boxes taller 0 top tt

pub across-refused : (l : ℕ) (k : Kind) → l ≤ greatest_level k → (r : Judged) → VerdictOf (node_count k) l (across k) r → r ≡ refusal 4
across-refused = refused-boxes across 1 right tt

pub wrapped-refused : (l : ℕ) (k : Kind) → l ≤ greatest_level k → (r : Judged) → VerdictOf (node_count k) l (wrapped k) r → r ≡ refusal 4
wrapped-refused = refused-boxes wrapped 0 right tt
