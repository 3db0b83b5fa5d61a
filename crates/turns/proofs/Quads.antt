-- Quads of bidegree (3, 3) have a quarter turn: u, v become v, 1 - u.
--   turn4            == the turn
--   quad-keeps       : it is a turn of the shape
--   quad-round       : four of them bring all weights back
--   quad-filled      : each quarter has all values
-- Assumes nothing.
use mathlib.Core.Path.{◌≡◌, refl, sym, subst}
use mathlib.Core.List.{List, [], ◌∷◌}
use Prim.Native.Nat.{ℕ, ◌+◌, ◌*◌, ◌-◌, ◌<◌}
use native.Mathlib.Omega.{arith}
use lib.IntN.{ℤ, pos}
use lib.ListN.{get_or, length}
use Rattle.algebra.specs.Expr.{Expr, exprs, var}
use Rattle.algebra.proofs.Solve.{solve}
use Rattle.forms.specs.Rows.{Row, weigh}
use Rattle.forms.specs.Forms.{value, through}
use Rattle.forms.specs.Cuttings.{Four, first, second, third, fourth}
use Rattle.forms.specs.Shapes.{spread, tips, scaled, Heavy, Point}
use Rattle.forms.specs.Quads.{quad, place, sixteen}
use Rattle.forms.proofs.Quads.{rows22}
use Rattle.element.proofs.Formulas.{form_value}
use Rattle.element.proofs.Sums.{numbers}
use Rattle.element.proofs.Places.{two-rows}
use Rattle.turns.specs.Turns.{Turn, turn_by, Fair, Keeps}
use Rattle.turns.proofs.Orders.{reorder, reorder-passes}

-- its lower-left quarter was the lower-right one
abbrev quarters4 : Four → Four
quarters4 first = second
quarters4 second = fourth
quarters4 third = first
quarters4 fourth = third

abbrev rows : ℕ → ℕ → ℕ → ℕ → List Row
rows a b c d = (a ∷ b ∷ []) ∷ (c ∷ d ∷ []) ∷ []

abbrev weights4 : List Row → List Row
weights4 ws = let w : ℕ → ℕ → ℕ = λ i k. get_or (get_or ws i []) k 0 in rows (w 1 0) (w 1 1) (w 0 1) (w 0 0)

-- value (I, J) of the turned quad is value (3 - J, I)
abbrev order : List ℕ
order = sixteen (λ I J. (3 - J) + 4 * I)

abbrev pub turn4 : Turn
turn4 = record { values = reorder order; quarters = quarters4; weights = weights4 }

-- ---- weights
cut-rows : (i : Four) (a b c d : ℕ) → weights4 (through (rows a b c d) (quad.cuts (quarters4 i))) ≡ through (rows c d b a) (quad.cuts i)
cut-rows first a b c d = two-rows (omega arith) (omega arith) (omega arith) (omega arith)
cut-rows second a b c d = two-rows (omega arith) (omega arith) (omega arith) (omega arith)
cut-rows third a b c d = two-rows (omega arith) (omega arith) (omega arith) (omega arith)
cut-rows fourth a b c d = two-rows (omega arith) (omega arith) (omega arith) (omega arith)

-- what holds of two pairs of weights holds of the weights of a point
by_rows : (P : List Row → Type 0) → ((a b c d : ℕ) → 0 < a + b → 0 < c + d → P (rows a b c d)) → (ws : List Row) → Point quad ws → P ws
by_rows P f ws h =
    let (a, b, c, d, e) = rows22 ws h.sized in
    let (k, l) = above a b c d (subst Heavy e h.heavy) in
    subst P (sym e) (f a b c d k l)
  where
    above : (a b c d : ℕ) → Heavy (rows a b c d) → (0 < a + b) × (0 < c + d)
    above a b c d (h, (k, u)) = (omega arith, omega arith)

quarters-fair : Fair quarters4
quarters-fair = record { sums = λ f. omega arith; deepest = λ f. omega arith }

-- ---- values
-- the value of the form whose entry at place k is variable 4 + at k
abbrev form_e : List (List Expr) → (ℕ → ℕ) → Expr
form_e ws at = form_value exprs (spread (3 ∷ 3 ∷ []) ws) (λ ks. var (4 + at (place ks)))

scaled-turn : (c : List ℤ) (a b d e : ℕ) → scaled quad (reorder order c) (rows d e b a) ≡ scaled quad c (rows a b d e)
unfolding scaled value weigh
scaled-turn c a b d e =
    solve (pos a ∷ pos b ∷ pos d ∷ pos e ∷ numbers c 0 16)
    (form_e ((var 2 ∷ var 3 ∷ []) ∷ (var 1 ∷ var 0 ∷ []) ∷ []) (λ k. get_or order k 16))
    (form_e ((var 0 ∷ var 1 ∷ []) ∷ (var 2 ∷ var 3 ∷ []) ∷ []) (λ k. k)) tt

pub quad-keeps : Keeps quad turn4
quad-keeps =
    record {
      point = by_rows (λ ws. Point quad (weights4 ws)) (λ a b c d h k. record { sized = refl; heavy = (omega arith, (omega arith, tt)) });
      cut = λ i. by_rows (λ ws. weights4 (through ws (quad.cuts (quarters4 i))) ≡ through (weights4 ws) (quad.cuts i)) (λ a b c d h k. cut-rows i a b c d);
      fair = quarters-fair;
      full = λ c h. refl;
      value = λ c. by_rows (λ ws. scaled quad (reorder order c) (weights4 ws) ≡ scaled quad c ws) (λ a b d e h k. scaled-turn c a b d e);
      passing = reorder-passes (tips quad) order tt;
    }

pub quad-round : (ws : List Row) → Point quad ws → (turn_by 4 turn4).weights ws ≡ ws
quad-round = by_rows (λ ws. (turn_by 4 turn4).weights ws ≡ ws) (λ a b c d h k. refl)

pub quad-filled : (i : Four) → length (quad.table i) ≡ length quad.entries
quad-filled first = refl
quad-filled second = refl
quad-filled third = refl
quad-filled fourth = refl
