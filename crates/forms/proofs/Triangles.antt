-- Triangles of any degree are lawful shapes, and the quadratic and the cubic one are.
--   split3           : weights that add up to 2h are weights of one of the quarters that add up to h
--   triangle-lawful  : the shape of a triangle is lawful if its tables pass their tests
--   six-lawful, ten-lawful : the quadratic triangle's and the cubic one's do
--   fifteen-at       : of fifteen things f I J K stands in the row of K at J
--   quarter-at-V0    : 01's quarter at V0, value by value
-- Assumes nothing.
use mathlib.Core.Path.{◌≡◌, refl, sym, ◌∙◌, ap, subst, subst₂}
use mathlib.Core.List.{List, [], ◌∷◌, map}
use Prim.Native.Nat.{ℕ, zero, suc, ◌+◌, ◌*◌, ◌-◌, ◌^◌, ◌≤◌, ◌<◌}
use native.Mathlib.Omega.{arith}
use native.Mathlib.Decide.{dec_le}
use lib.Dec.{T, ltb}
use lib.IntN.{ℤ, pos, ◌+ℤ◌, ◌*ℤ◌}
use lib.ListN.{get_or, length}
use Rattle.algebra.specs.Expr.{Expr, var, con, ◌⊕◌, ◌⊖◌, ◌⊗◌, eval}
use Rattle.algebra.specs.Normal.{vanishes}
use Rattle.algebra.proofs.Solve.{solve}
use Rattle.forms.specs.Rows.{Row, total, weigh}
use Rattle.forms.specs.Forms.{through}
use Rattle.forms.specs.Cells.{dot, quarter, every, Tabled, heirs, rows_add}
use Rattle.forms.specs.Cuttings.{Four, in_four, first, second, third, fourth}
use Rattle.forms.specs.Shapes.{Shape, spread, entry, Sized, Adds, tips, Lawful}
use Rattle.forms.specs.Triangles.{cuts, triangle, degrees6, place6, six, fifteen, degrees10, begin10, place10, ten}
use Rattle.forms.proofs.Shapes.{double}

abbrev row : ℕ → ℕ → ℕ → List Row
row x y z = (x ∷ y ∷ z ∷ []) ∷ []

row-≡ : {a b c x y z : ℕ} → a ≡ x → b ≡ y → c ≡ z → row a b c ≡ row x y z
row-≡ e f g = cc

-- ---- the quarters cover the cell
abbrev Split : List ℕ → List Row → Type 0
Split hs ws = (i : Four) × (ys : List Row) × Sized (3 ∷ []) ys × Adds hs ys × (through ys (cuts i) ≡ ws)

split3 : (h x y z : ℕ) → x + y + z ≡ 2 * h → Split (h ∷ []) (row x y z)
split3 h x y z e = go (dec_le h x) (dec_le h y) (dec_le h z)
  where
    sums : (a b c : ℕ) → a + b + c ≡ h → Adds (h ∷ []) (row a b c)
    sums a b c s = ap {B = List ℕ} (λ n. n ∷ []) (omega arith)

    go : Dec (h ≤ x) → Dec (h ≤ y) → Dec (h ≤ z) → Split (h ∷ []) (row x y z)
    go (yes k) _ _ = (first, row (x - h) y z, refl, sums (x - h) y z (omega arith), row-≡ (omega arith) (omega arith) (omega arith))
    go (no j) (yes k) _ = (second, row x (y - h) z, refl, sums x (y - h) z (omega arith), row-≡ (omega arith) (omega arith) (omega arith))
    go (no j) (no i) (yes k) = (third, row x y (z - h), refl, sums x y (z - h) (omega arith), row-≡ (omega arith) (omega arith) (omega arith))
    go (no j) (no i) (no k) =
        (fourth, row (h - x) (h - y) (h - z), refl, sums (h - x) (h - y) (h - z) (omega arith), row-≡ (omega arith) (omega arith) (omega arith))

-- ---- weights of a triangle are three numbers
three : (w : Row) → length w ≡ 3 → (x : ℕ) × (y : ℕ) × (z : ℕ) × (w ≡ x ∷ y ∷ z ∷ [])
three (x ∷ y ∷ z ∷ []) e = (x, y, z, refl)
three [] e = absurd (omega arith)
three (x ∷ []) e = absurd (omega arith)
three (x ∷ y ∷ []) e = absurd (omega arith)
three (x ∷ y ∷ z ∷ u ∷ w) e = absurd (omega arith)

pub rows3 : (ws : List Row) → Sized (3 ∷ []) ws → (x : ℕ) × (y : ℕ) × (z : ℕ) × (ws ≡ row x y z)
rows3 [] e = absurd (let q = ap length e in omega arith)
rows3 (w ∷ v ∷ ws) e = absurd (let q = ap length e in omega arith)
rows3 (w ∷ []) e = let (x, y, z, r) = three w (cc) in (x, y, z, ap {B = List Row} (λ v. v ∷ []) r)

one-total : (t : ℕ) (hs : List ℕ) → ◌≡◌ {A = List ℕ} (t ∷ []) (double hs) → (h : ℕ) × (hs ≡ h ∷ []) × (t ≡ 2 * h)
one-total t [] e = absurd (let q = ap length e in omega arith)
one-total t (h ∷ k ∷ hs) e = absurd (let q = ap length e in omega arith)
one-total t (h ∷ []) e = (h, refl, (cc))

split_rows : (hs : List ℕ) (ws : List Row) → Sized (3 ∷ []) ws → Adds (double hs) ws → Split hs ws
split_rows hs ws e a =
    let (x, y, z, r) = rows3 ws e in
    let (h, s, t) = one-total (total (x ∷ y ∷ z ∷ [])) hs (ap (map total) (sym r) ∙ a) in
    subst₂ Split (sym s) (sym r) (split3 h x y z (omega arith))

module _ (n : ℕ) (degrees : List Row) (place : List ℕ → ℕ) where
  abbrev S : Shape
  S = triangle n degrees place

  abbrev Indexed : ℕ → List Row → Type 0
  Indexed m ws = (entry (0, 2) ws ≤ m) × (entry (0, 1) ws ≤ m - entry (0, 2) ws) × (S.rows m (entry (0, 1) ws) (entry (0, 2) ws) ≡ ws)

  indexed : (m : ℕ) (ws : List Row) → (x : ℕ) × (y : ℕ) × (z : ℕ) × (ws ≡ row x y z) → Adds (m ∷ []) ws → Indexed m ws
  indexed m ws (x, y, z, r) a =
      let s : x + (y + (z + 0)) ≡ m = cc in
      rw r (omega arith, omega arith, row-≡ (omega arith) refl refl)

  pub triangle-lawful : T (in_four (λ i. Tabled (spread (n ∷ []) (3 ∷ [])) place (spread (n ∷ []) (cuts i)) (S.table i)))
      → T (in_four (λ i. rows_add (2 ^ n) (S.table i)))
      → T (in_four (λ i. heirs (tips S) (tips S) (S.table i)))
      → T (every (spread (n ∷ []) (3 ∷ [])) (λ ks. ltb (place ks) (length S.entries)))
      → Lawful S
  triangle-lawful tabled grown inherited kept =
      record {
        tabled = tabled;
        grown = grown;
        inherited = inherited;
        kept = kept;
        doubled = tt;
        cornered = tt;
        corners_inside = tt;
        split = split_rows;
        on_grid = λ m i j h k. (refl, ap {B = List ℕ} (λ l. l ∷ []) (omega arith));
        indexed = λ m ws e a. indexed m ws (rows3 ws e) a;
        placed = λ m i j. (refl, refl);
      }

-- ---- the quadratic triangle
pub six-lawful : Lawful six
six-lawful = triangle-lawful 2 degrees6 place6 tt tt tt tt

-- ---- the cubic triangle
pub ten-lawful : Lawful ten
ten-lawful = triangle-lawful 4 degrees10 place10 tt tt tt tt

pub fifteen-at : {A : Type 0} (f : ℕ → ℕ → ℕ → A) (z : A) (I J K : ℕ) → I + J + K ≡ 4 → get_or (fifteen f) (begin10 K + J) z ≡ f I J K
fifteen-at f z I J K e =
    subst (λ (k : ℕ). get_or (fifteen f) (begin10 k + J) z ≡ f I J k) (let k : 4 - I - J ≡ K = omega arith in k)
    (go I J (let h : I + J ≤ 4 = omega arith in h))
  where
    go : (I J : ℕ) → I + J ≤ 4 → get_or (fifteen f) (begin10 (4 - I - J) + J) z ≡ f I J (4 - I - J)
    go zero zero h = refl
    go zero (suc zero) h = refl
    go zero (suc (suc zero)) h = refl
    go zero (suc (suc (suc zero))) h = refl
    go zero (suc (suc (suc (suc zero)))) h = refl
    go zero (suc (suc (suc (suc (suc J))))) h = absurd (omega arith)
    go (suc zero) zero h = refl
    go (suc zero) (suc zero) h = refl
    go (suc zero) (suc (suc zero)) h = refl
    go (suc zero) (suc (suc (suc zero))) h = refl
    go (suc zero) (suc (suc (suc (suc J)))) h = absurd (omega arith)
    go (suc (suc zero)) zero h = refl
    go (suc (suc zero)) (suc zero) h = refl
    go (suc (suc zero)) (suc (suc zero)) h = refl
    go (suc (suc zero)) (suc (suc (suc J))) h = absurd (omega arith)
    go (suc (suc (suc zero))) zero h = refl
    go (suc (suc (suc zero))) (suc zero) h = refl
    go (suc (suc (suc zero))) (suc (suc J)) h = absurd (omega arith)
    go (suc (suc (suc (suc zero)))) zero h = refl
    go (suc (suc (suc (suc zero)))) (suc J) h = absurd (omega arith)
    go (suc (suc (suc (suc (suc I))))) J h = absurd (omega arith)

-- ---- the quadratic triangle's formulas
-- "4c00, c00+2c01+c11, c00+2c02+c22, 2(c00+c01), c00+c01+c02+c12, 2(c00+c02)"
pub quarter-at-V0 : (c00 c11 c22 c01 c12 c02 : ℤ)
    → quarter (six.table first) (c00 ∷ c11 ∷ c22 ∷ c01 ∷ c12 ∷ c02 ∷ [])
    ≡ (pos 4 *ℤ c00) ∷ (c00 +ℤ pos 2 *ℤ c01 +ℤ c11) ∷ (c00 +ℤ pos 2 *ℤ c02 +ℤ c22) ∷ (pos 2 *ℤ (c00 +ℤ c01)) ∷ (c00 +ℤ c01 +ℤ c02 +ℤ c12) ∷ (pos 2 *ℤ (c00 +ℤ c02)) ∷ []
unfolding weigh
quarter-at-V0 c00 c11 c22 c01 c12 c02 =
    six-≡
    (by 4 0 0 0 0 0 (con (pos 4) ⊗ var 0) tt)
    (by 1 1 0 2 0 0 (var 0 ⊕ con (pos 2) ⊗ var 3 ⊕ var 1) tt)
    (by 1 0 1 0 0 2 (var 0 ⊕ con (pos 2) ⊗ var 5 ⊕ var 2) tt)
    (by 2 0 0 2 0 0 (con (pos 2) ⊗ (var 0 ⊕ var 3)) tt)
    (by 1 0 0 1 1 1 (var 0 ⊕ var 3 ⊕ var 5 ⊕ var 4) tt)
    (by 2 0 0 0 0 2 (con (pos 2) ⊗ (var 0 ⊕ var 5)) tt)
  where
    cs : List ℤ
    cs = c00 ∷ c11 ∷ c22 ∷ c01 ∷ c12 ∷ c02 ∷ []

    six-≡ : {a b c d e f a' b' c' d' e' f' : ℤ} → a ≡ a' → b ≡ b' → c ≡ c' → d ≡ d' → e ≡ e' → f ≡ f'
        → ◌≡◌ {A = List ℤ} (a ∷ b ∷ c ∷ d ∷ e ∷ f ∷ []) (a' ∷ b' ∷ c' ∷ d' ∷ e' ∷ f' ∷ [])
    six-≡ p q r s t u = cc

    -- the row as an expression
    sum : Row → ℕ → Expr
    sum [] i = con (pos 0)
    sum (x ∷ r) i = con (pos x) ⊗ var i ⊕ sum r (suc i)

    by : (x0 x1 x2 x3 x4 x5 : ℕ) (e : Expr)
        → T (vanishes (sum (x0 ∷ x1 ∷ x2 ∷ x3 ∷ x4 ∷ x5 ∷ []) 0 ⊖ e))
        → dot (x0 ∷ x1 ∷ x2 ∷ x3 ∷ x4 ∷ x5 ∷ []) cs ≡ eval cs e
    by x0 x1 x2 x3 x4 x5 e t = solve cs (sum (x0 ∷ x1 ∷ x2 ∷ x3 ∷ x4 ∷ x5 ∷ []) 0) e t
