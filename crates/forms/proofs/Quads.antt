-- The quad of bidegree (3, 3) is a lawful shape.
--   halve            : weights along a direction that add up to 2h are weights of one of the halves that add up to h
--   sixteen-at       : of sixteen things f I J stands at place I + 4J
--   quad-lawful      : the tables by the binomial rule are the form on the quarters, and each of their rows adds up to 64
-- Assumes nothing.
use mathlib.Core.Path.{◌≡◌, refl, sym, ◌∙◌, ap, ap₂, subst₂}
use mathlib.Core.List.{List, [], ◌∷◌, map}
use Prim.Native.Nat.{ℕ, zero, suc, ◌+◌, ◌*◌, ◌-◌, ◌≤◌, ◌<◌}
use native.Mathlib.Omega.{arith}
use native.Mathlib.Decide.{dec_le}
use lib.ListN.{get_or, length}
use Rattle.forms.specs.Rows.{Row, mix, total}
use Rattle.forms.specs.Forms.{through}
use Rattle.forms.specs.Cuttings.{Four}
use Rattle.forms.specs.Shapes.{entry, Sized, Adds, Lawful}
use Rattle.forms.specs.Quads.{Half, lower, upper, ends, quarter_of, sixteen, quad}
use Rattle.forms.proofs.Shapes.{double}

abbrev two : ℕ → ℕ → Row
two x y = x ∷ y ∷ []

two-≡ : {a b x y : ℕ} → a ≡ x → b ≡ y → two a b ≡ two x y
two-≡ e f = cc

pair-≡ : {a b x y : ℕ} → a ≡ x → b ≡ y → ◌≡◌ {A = List ℕ} (a ∷ b ∷ []) (x ∷ y ∷ [])
pair-≡ e f = cc

-- ---- sixteen things
-- what holds of 0, 1, 2 and 3 holds of each number below 4
below-four : (P : ℕ → Type 0) → P 0 → P 1 → P 2 → P 3 → (n : ℕ) → n < 4 → P n
below-four P a b c d zero h = a
below-four P a b c d (suc zero) h = b
below-four P a b c d (suc (suc zero)) h = c
below-four P a b c d (suc (suc (suc zero))) h = d
below-four P a b c d (suc (suc (suc (suc n)))) h = absurd (omega arith)

pub sixteen-at : {A : Type 0} (f : ℕ → ℕ → A) (z : A) (I J : ℕ) → I < 4 → J < 4 → get_or (sixteen f) (I + 4 * J) z ≡ f I J
sixteen-at f z I J h k =
    below-four (λ I. get_or (sixteen f) (I + 4 * J) z ≡ f I J)
    (below-four (λ J. get_or (sixteen f) (0 + 4 * J) z ≡ f 0 J) refl refl refl refl J k)
    (below-four (λ J. get_or (sixteen f) (1 + 4 * J) z ≡ f 1 J) refl refl refl refl J k)
    (below-four (λ J. get_or (sixteen f) (2 + 4 * J) z ≡ f 2 J) refl refl refl refl J k)
    (below-four (λ J. get_or (sixteen f) (3 + 4 * J) z ≡ f 3 J) refl refl refl refl J k) I h

-- ---- the halves cover a direction
abbrev Halved : ℕ → ℕ → ℕ → Type 0
Halved h x y = (i : Half) × (a : ℕ) × (b : ℕ) × (a + b ≡ h) × (mix (two a b) (ends i) ≡ two x y)

halve : (h x y : ℕ) → x + y ≡ 2 * h → Halved h x y
halve h x y e = go (dec_le h x)
  where
    go : Dec (h ≤ x) → Halved h x y
    go (yes k) = (lower, x - h, y, omega arith, two-≡ (omega arith) (omega arith))
    go (no k) = (upper, x, y - h, omega arith, two-≡ (omega arith) (omega arith))

-- ---- and so the quarters cover the cell
pub through-halves : (i j : Half) (w z : Row)
    → through (w ∷ z ∷ []) (quad.cuts (quarter_of i j)) ≡ mix w (ends i) ∷ mix z (ends j) ∷ []
through-halves lower lower w z = refl
through-halves lower upper w z = refl
through-halves upper lower w z = refl
through-halves upper upper w z = refl

abbrev Split : List ℕ → List Row → Type 0
Split hs ws = (i : Four) × (ys : List Row) × Sized (2 ∷ 2 ∷ []) ys × Adds hs ys × (through ys (quad.cuts i) ≡ ws)

split22 : (h k x y z w : ℕ) → x + y ≡ 2 * h → z + w ≡ 2 * k → Split (h ∷ k ∷ []) (two x y ∷ two z w ∷ [])
split22 h k x y z w s t = go (halve h x y s) (halve k z w t)
  where
    go : Halved h x y → Halved k z w → Split (h ∷ k ∷ []) (two x y ∷ two z w ∷ [])
    go (i, a, b, p, e) (j, c, d, q, f) =
        (quarter_of i j, two a b ∷ two c d ∷ [], refl, pair-≡ (omega arith) (omega arith), through-halves i j (two a b) (two c d) ∙ rw (e, f))

-- ---- weights of a quad are two pairs
pair : (w : Row) → length w ≡ 2 → (x : ℕ) × (y : ℕ) × (w ≡ two x y)
pair (x ∷ y ∷ []) e = (x, y, refl)
pair [] e = absurd (omega arith)
pair (x ∷ []) e = absurd (omega arith)
pair (x ∷ y ∷ z ∷ w) e = absurd (omega arith)

pub rows22 : (ws : List Row) → Sized (2 ∷ 2 ∷ []) ws → (x : ℕ) × (y : ℕ) × (z : ℕ) × (w : ℕ) × (ws ≡ two x y ∷ two z w ∷ [])
rows22 [] e = absurd (let q = ap length e in omega arith)
rows22 (u ∷ []) e = absurd (let q = ap length e in omega arith)
rows22 (u ∷ v ∷ t ∷ ws) e = absurd (let q = ap length e in omega arith)
rows22 (u ∷ v ∷ []) e =
    let (x, y, p) = pair u (cc) in let (z, w, q) = pair v (cc) in
    (x, y, z, w, ap₂ {B = Row} {C = List Row} (λ a b. a ∷ b ∷ []) p q)

two-totals : (s t : ℕ) (hs : List ℕ) → ◌≡◌ {A = List ℕ} (s ∷ t ∷ []) (double hs)
    → (h : ℕ) × (k : ℕ) × (hs ≡ h ∷ k ∷ []) × (s ≡ 2 * h) × (t ≡ 2 * k)
two-totals s t [] e = absurd (let q = ap length e in omega arith)
two-totals s t (h ∷ []) e = absurd (let q = ap length e in omega arith)
two-totals s t (h ∷ k ∷ l ∷ hs) e = absurd (let q = ap length e in omega arith)
two-totals s t (h ∷ k ∷ []) e = (h, k, refl, (cc), (cc))

split_rows : (hs : List ℕ) (ws : List Row) → Sized (2 ∷ 2 ∷ []) ws → Adds (double hs) ws → Split hs ws
split_rows hs ws e a =
    let (x, y, z, w, r) = rows22 ws e in
    let (h, k, s, p, q) = two-totals (total (two x y)) (total (two z w)) hs (ap (map total) (sym r) ∙ a) in
    subst₂ Split (sym s) (sym r) (split22 h k x y z w (omega arith) (omega arith))

-- ---- the grid
abbrev Indexed : ℕ → List Row → Type 0
Indexed n ws = (entry (1, 1) ws ≤ n) × (entry (0, 1) ws ≤ n) × (quad.rows n (entry (0, 1) ws) (entry (1, 1) ws) ≡ ws)

indexed : (n : ℕ) (ws : List Row) → (x : ℕ) × (y : ℕ) × (z : ℕ) × (w : ℕ) × (ws ≡ two x y ∷ two z w ∷ [])
    → Adds (n ∷ n ∷ []) ws
    → Indexed n ws
indexed n ws (x, y, z, w, r) a =
    let s : x + (y + 0) ≡ n = cc in let t : z + (w + 0) ≡ n = cc in
    rw r (omega arith, omega arith, ap₂ {B = Row} {C = List Row} (λ a b. a ∷ b ∷ []) (two-≡ (omega arith) refl) (two-≡ (omega arith) refl))

pub quad-lawful : Lawful quad
quad-lawful =
    record {
      tabled = tt;
      grown = tt;
      inherited = tt;
      kept = tt;
      doubled = tt;
      cornered = tt;
      corners_inside = tt;
      split = split_rows;
      on_grid = λ n i j h k. (refl, pair-≡ (omega arith) (omega arith));
      indexed = λ n ws e a. indexed n ws (rows22 ws e) a;
      placed = λ n i j. (refl, refl);
    }
