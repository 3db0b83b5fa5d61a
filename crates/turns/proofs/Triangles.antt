-- Triangles of any degree have a turn by one corner: the values turn as their indices do.
--   turn3            == the turn: the corners, the quarters and the order of the stored values, from their degrees
--   value-turn       : a form at turned weights is the turned form
--   triangle-keeps   : it is a turn of the shape, if its tables pass their tests
--   triangle-round   : three of them bring all weights back
--   triangle-filled  : each quarter has all values
--   six-keeps, ten-keeps : the quadratic triangle's tables pass, and the cubic one's
-- Assumes nothing.
use mathlib.Core.Path.{◌≡◌, refl, sym, ◌∙◌, ap, subst}
use mathlib.Core.Bool.{Bool}
use mathlib.Core.List.{List, [], ◌∷◌, map}
use Prim.Native.Nat.{ℕ, zero, suc, ◌+◌, ◌<◌}
use native.Mathlib.Omega.{arith}
use lib.Dec.{T, lit<}
use lib.IntN.{ℤ, pos}
use lib.ListN.{get_or, length, length-map}
use Rattle.algebra.specs.Expr.{var, con, ◌⊕◌, ◌⊗◌}
use Rattle.algebra.proofs.Solve.{solve}
use Rattle.forms.specs.Rows.{Row, weigh, unit}
use Rattle.forms.specs.Forms.{Form, slot, value, through}
use Rattle.forms.specs.Cells.{stored, dot, Inside, every, same, heirs}
use Rattle.forms.specs.Cuttings.{Four, first, second, third, fourth}
use Rattle.forms.specs.Shapes.{Shape, onto, indices, tips, scaled, Heavy, Point}
use Rattle.forms.specs.Triangles.{cuts, triangle, degrees6, place6, six, degrees10, place10, ten}
use Rattle.forms.proofs.Rows.{weigh-unit}
use Rattle.forms.proofs.Cells.{every-at, same-eq, get_d-quarter}
use Rattle.forms.proofs.Triangles.{rows3}
use Rattle.element.proofs.Places.{one-row}
use Rattle.turns.specs.Turns.{Turn, turn_by, Fair, Keeps}
use Rattle.turns.proofs.Orders.{reorder, reorder-table, reorder-passes}

-- the corner that is now corner k
abbrev next : ℕ → ℕ
next k = get_or (1 ∷ 2 ∷ 0 ∷ []) k 3

-- a quarter at a corner goes with it, and the one in the middle stays
abbrev quarters3 : Four → Four
quarters3 first = second
quarters3 second = third
quarters3 third = first
quarters3 fourth = fourth

abbrev row : ℕ → ℕ → ℕ → List Row
row p q r = (p ∷ q ∷ r ∷ []) ∷ []

abbrev weights3 : List Row → List Row
weights3 ws = let w : ℕ → ℕ = λ k. get_or (get_or ws 0 []) k 0 in row (w 1) (w 2) (w 0)

-- the value of each degree is the one whose indices are the next ones
abbrev order : List Row → (List ℕ → ℕ) → List ℕ
order degrees place = map (λ ms. place (map next (indices (ms ∷ [])))) degrees

abbrev pub turn3 : List Row → (List ℕ → ℕ) → Turn
turn3 degrees place = record { values = reorder (order degrees place); quarters = quarters3; weights = weights3 }

-- ---- weights
cut-row : (i : Four) (p q r : ℕ) → weights3 (through (row p q r) (cuts (quarters3 i))) ≡ through (row q r p) (cuts i)
cut-row first p q r = one-row (omega arith) (omega arith) (omega arith)
cut-row second p q r = one-row (omega arith) (omega arith) (omega arith)
cut-row third p q r = one-row (omega arith) (omega arith) (omega arith)
cut-row fourth p q r = one-row (omega arith) (omega arith) (omega arith)

-- what holds of three weights holds of the weights of a point
by_row : (n : ℕ) (degrees : List Row) (place : List ℕ → ℕ) (P : List Row → Type 0) → ((p q r : ℕ) → 0 < p + q + r → P (row p q r))
    → (ws : List Row)
    → Point (triangle n degrees place) ws
    → P ws
by_row n degrees place P f ws h =
    let (p, q, r, e) = rows3 ws h.sized in
    subst P (sym e) (f p q r (above p q r (subst Heavy e h.heavy)))
  where
    above : (p q r : ℕ) → Heavy (row p q r) → 0 < p + q + r
    above p q r (h, u) = omega arith

quarters-fair : Fair quarters3
quarters-fair = record { sums = λ f. omega arith; deepest = λ f. omega arith }

-- ---- values
weigh-turn : (p q r : ℕ) (f g : ℕ → ℤ) → ((k : ℕ) → k < 3 → g k ≡ f (next k)) → weigh (q ∷ r ∷ p ∷ []) g ≡ weigh (p ∷ q ∷ r ∷ []) f
unfolding weigh
weigh-turn p q r f g e =
    rw (e 0 (lit< tt), e 1 (lit< tt), e 2 (lit< tt))
    (solve (pos p ∷ pos q ∷ pos r ∷ f 0 ∷ f 1 ∷ f 2 ∷ [])
    (var 1 ⊗ var 4 ⊕ (var 2 ⊗ var 5 ⊕ (var 0 ⊗ var 3 ⊕ con (pos 0))))
    (var 0 ⊗ var 3 ⊕ (var 1 ⊗ var 4 ⊕ (var 2 ⊗ var 5 ⊕ con (pos 0)))) tt)

pub value-turn : (p q r n : ℕ) (F G : Form)
    → ((ks : List ℕ) → Inside (onto n 3 []) ks → G ks ≡ F (map next ks))
    → value (onto n (q ∷ r ∷ p ∷ []) []) G ≡ value (onto n (p ∷ q ∷ r ∷ []) []) F
unfolding value
value-turn p q r zero F G e = e [] tt
value-turn p q r (suc n) F G e =
    weigh-turn p q r (λ i. value (onto n (p ∷ q ∷ r ∷ []) []) (slot F i)) (λ i. value (onto n (q ∷ r ∷ p ∷ []) []) (slot G i))
    (λ k h. value-turn p q r n (slot F (next k)) (slot G k) (λ ks i. e (k ∷ ks) (h, i)))

-- the test that the value with the indices ks is now the one with the next indices
abbrev pub ordered : List Row → (List ℕ → ℕ) → List ℕ → Bool
ordered degrees place ks = same (get_or (map unit (order degrees place)) (place ks) []) (unit (place (map next ks)))

module _ (n : ℕ) (degrees : List Row) (place : List ℕ → ℕ) where
  abbrev Sh : Shape
  Sh = triangle n degrees place

  abbrev new : List ℕ
  new = order degrees place

  module _ (listed : T (every (onto n 3 []) (ordered degrees place))) where
    stored-turn : (c : List ℤ) (ks : List ℕ) → Inside (onto n 3 []) ks → stored place (reorder new c) ks ≡ stored place c (map next ks)
    stored-turn c ks i =
        ap (λ (v : List ℤ). get_or v (place ks) (pos 0)) (reorder-table new c)
        ∙ get_d-quarter (map unit new) c (place ks)
        ∙ ap (λ (r : Row). dot r c)
        (same-eq (get_or (map unit new) (place ks) []) (unit (place (map next ks))) (every-at (onto n 3 []) (ordered degrees place) listed ks i))
        ∙ weigh-unit (place (map next ks)) (λ m. get_or c m (pos 0))

    scaled-turn : (c : List ℤ) (p q r : ℕ) → scaled Sh (reorder new c) (row q r p) ≡ scaled Sh c (row p q r)
    unfolding scaled
    scaled-turn c p q r = value-turn p q r n (stored place c) (stored place (reorder new c)) (stored-turn c)

  pub triangle-keeps : T (heirs (tips (triangle n degrees place)) (tips (triangle n degrees place)) (map unit (order degrees place)))
      → T (every (onto n 3 []) (ordered degrees place))
      → Keeps (triangle n degrees place) (turn3 degrees place)
  triangle-keeps corners listed =
      record {
        point = by_row n degrees place (λ ws. Point Sh (weights3 ws)) (λ p q r h. record { sized = refl; heavy = (omega arith, tt) });
        cut = λ i. by_row n degrees place (λ ws. weights3 (through ws (cuts (quarters3 i))) ≡ through (weights3 ws) (cuts i)) (λ p q r h. cut-row i p q r);
        fair = quarters-fair;
        full = λ c h. length-map new _ ∙ length-map degrees _ ∙ sym (length-map degrees _);
        value = λ c. by_row n degrees place (λ ws. scaled Sh (reorder new c) (weights3 ws) ≡ scaled Sh c ws) (λ p q r h. scaled-turn listed c p q r);
        passing = reorder-passes (tips Sh) new corners;
      }

  pub triangle-round : (ws : List Row) → Point (triangle n degrees place) ws → (turn_by 3 (turn3 degrees place)).weights ws ≡ ws
  triangle-round = by_row n degrees place (λ ws. (turn_by 3 (turn3 degrees place)).weights ws ≡ ws) (λ p q r h. refl)

  pub triangle-filled : (i : Four) → length ((triangle n degrees place).table i) ≡ length (triangle n degrees place).entries
  triangle-filled i = length-map degrees _ ∙ sym (length-map degrees _)

pub six-keeps : Keeps six (turn3 degrees6 place6)
six-keeps = triangle-keeps 2 degrees6 place6 tt tt

pub ten-keeps : Keeps ten (turn3 degrees10 place10)
ten-keeps = triangle-keeps 4 degrees10 place10 tt tt
