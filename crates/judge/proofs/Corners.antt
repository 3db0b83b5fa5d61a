-- Corners at one place, and the verdict (02, Ask 9).
--   edge-bad         : where two corners that a quadratic edge joins stand at one place, the middle of that edge is bad
--   edge-never-valid : such an element is never valid
--   triangle-never-valid : nor is a triangle of six nodes with any two corners at one place
--   diagonals-spurned, looped-spurned : quads whose diagonal corners stand at one place can be valid, and ten-node triangles with any
--                      two, so 21 does not follow from J
-- Assumes nothing.
use mathlib.Core.Path.{◌≡◌, refl, ap, subst}
use mathlib.Core.Bool.{Bool, true, ◌&&◌}
use mathlib.Core.List.{List, [], ◌∷◌, map}
use Prim.Native.Nat.{ℕ, ◌+◌, ◌≤◌, zero-le}
use native.Mathlib.Omega.{arith}
use lib.Dec.{T, leb, le→leb}
use lib.IntN.{ℤ, pos}
use lib.Signed.{clash_ℤ}
use Rattle.algebra.proofs.Truth.{T_and, and_T}
use Rattle.algebra.proofs.Order.{≤-of-eq}
use Rattle.forms.specs.Rows.{weigh}
use Rattle.forms.specs.Forms.{value}
use Rattle.forms.specs.Cuttings.{leaves, level, opens, greedy}
use Rattle.forms.specs.Shapes.{scaled}
use Rattle.element.specs.Kinds.{Kind, six, greatest_level}
use Rattle.element.specs.Jacobian.{Bad}
use Rattle.element.specs.Cubic.{value10, values10}
use Rattle.element.specs.Control.{values6, value as controlValue, control_values}
use Rattle.element.specs.Corners.{Collapsed}
use Rattle.element.specs.Edges.{spot, Diagonal, Quadratic}
use Rattle.element.proofs.Places.{grid-place}
use Rattle.element.proofs.Corners.{merged}
use Rattle.element.proofs.Edges.{edge-zero, middle-on}
use Rattle.element.proofs.Tried.{listed, collapsed-kind}
use Rattle.judge.specs.Verdict.{Answer, is_valid, Valid, Judges}
use Rattle.judge.specs.Elements.{subject}
use Rattle.judge.specs.Corners.{Case, diagonals, looped, Spurned, AllSpurned}
use Rattle.judge.proofs.Faithful.{element-faithful}
use Rattle.judge.proofs.Demands.{valid-positive, limit-keeps}
use Rattle.judge.proofs.Search.{least}
use Rattle.judge.proofs.Computed.{low, in_row, row_low, row_of_first, cells_of, least-count, in_row_told, from, verdict, verdict-is}

-- ---- never valid
module _ (k : Kind) (xs : List ℤ) (c : Collapsed k xs) (q : Quadratic k) (f : ¬ Diagonal k c.first c.second) where
  pub edge-bad : Bad k xs 1 ((spot k c.first).0 + (spot k c.second).0) ((spot k c.first).1 + (spot k c.second).1)
  edge-bad =
      let (x, m) = grid-place k 1 _ _ (middle-on k c.first c.second) in
      record { place = x; at_point = m; not_positive = ≤-of-eq (edge-zero k xs c q f x m) }

  pub edge-never-valid : (L : ℕ) (a : Answer) → ¬ Valid (subject k xs) L a
  edge-never-valid L a v = clash_ℤ (valid-positive k xs L a v edge-bad.place) edge-bad.not_positive

pub triangle-never-valid : (xs : List ℤ) → Collapsed six xs → (L : ℕ) (a : Answer) → ¬ Valid (subject six xs) L a
triangle-never-valid xs c = edge-never-valid six xs c tt (λ d. d)

-- ---- valid but for the rule
abbrev computed : Case → Case × Answer
computed q = (record { kind = q.kind; coords = q.coords; values = control_values q.kind q.coords }, verdict (subject q.kind q.coords) 0)

abbrev stated : Case → Case × Answer
stated q = (q, is_valid 0 1)

abbrev joined : Case → Bool
joined q = listed q.kind q.coords && merged q.kind q.coords

abbrev all_joined : List Case → Bool
all_joined [] = true
all_joined (q ∷ qs) = joined q && all_joined qs

spurned : (q : Case) → T (joined q) → computed q ≡ stated q → Spurned q
spurned q t e =
    let k = q.kind in let xs = q.coords in let s = subject k xs in
    let at-0 : Judges s 0 (is_valid 0 1) = subst (Judges s 0) (ap (λ (a : Case × Answer). a.1) e) (verdict-is s (element-faithful k xs) 0) in
    record {
      formed = ap (λ (a : Case × Answer). a.0.values) e;
      valid = λ L. limit-keeps s (element-faithful k xs) 0 L (is_valid 0 1) (λ w. let z : ◌≡◌ {A = ℕ} 0 1 = cc in omega arith) zero-le at-0;
      refused = λ L h. collapsed-kind k L xs (and_T (leb L (greatest_level k)) (joined q) (le→leb L (greatest_level k) h) t);
    }

all-spurned : (qs : List Case) → T (all_joined qs) → map computed qs ≡ map stated qs → AllSpurned qs
all-spurned [] t e = tt
all-spurned (q ∷ qs) t e = let (a, b) = T_and (joined q) (all_joined qs) t in (spurned q a cc, all-spurned qs b cc)

pub diagonals-spurned : AllSpurned diagonals
unfolding verdict from in_row_told least-count cells_of row_of_first row_low in_row low least scaled value weigh leaves level greedy opens control_values values6 controlValue
diagonals-spurned = all-spurned diagonals tt refl

pub looped-spurned : AllSpurned looped
unfolding verdict from in_row_told least-count cells_of row_of_first row_low in_row low least scaled value weigh leaves level greedy opens control_values values10 value10
looped-spurned = all-spurned looped tt refl
