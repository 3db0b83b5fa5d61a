-- Places of an element as weights of its shape, and J there.
--   place-point, place_of : the weights of a place are a point's, and every point has a place
--   one-row, two-rows : rows are equal when their weights are
--   control-is-J     : the control sum at a place is the scaled J there, times the weight of the place and fold²
--   scaled-is-J      : and so is the value of the kind's form: the control values mean J
--   positive-there   : what values mean is positive where their form is
--   grid-place, place-grid : the grid points are places, and the places at grid points are on the grid
--   grid-on, on_grid : the grid points of a kind are those of its shape
--   grid-rows, rows-grid : and so are their weights
--   scale-is         : the scale of level d is that of level 0 times the weight of a place over 2^d
--   weight-times     : the weight of a place over n times as many parts
--   grid-is          : the value at a grid point is what the values mean there, at the scale of the level
--   bad-value, value-bad   : a point is bad exactly when the value is not positive
--   shows-value, value-shows : what is shown is the value
-- For all kinds. Assumes nothing.
use mathlib.Core.Path.{◌≡◌, refl, sym, ◌∙◌, ap, ap₂, subst}
use mathlib.Core.List.{List, [], ◌∷◌, map}
use Prim.Native.Nat.{ℕ, zero, suc, ◌+◌, ◌*◌, ◌-◌, ◌^◌, ◌≤◌, ◌<◌}
use native.Mathlib.Nat as N
use native.Mathlib.Omega.{arith}
use lib.Dec.{lit<}
use lib.IntN.{ℤ, pos, ◌*ℤ◌, *ℤ_comm}
use lib.Pow.{pow_pos}
use lib.Signed.{◌≤ℤ◌, ◌<ℤ◌}
use Rattle.algebra.specs.Expr.{var, ◌⊗◌}
use Rattle.algebra.proofs.Ring.{1-*ℤ, *ℤ-assoc}
use Rattle.algebra.proofs.Order.{0<pos, *ℤ-cancel, positive-transfer, nonpositive-transfer}
use Rattle.algebra.proofs.Solve.{solve}
use Rattle.forms.specs.Rows.{Row, total}
use Rattle.forms.specs.Shapes.{Shape, scaled, Heavy, Sized, Point}
use Rattle.forms.specs.Grids as G
use Rattle.forms.specs.Triangles as T
use Rattle.forms.specs.Quads as Q
use Rattle.forms.proofs.Triangles.{rows3}
use Rattle.forms.proofs.Quads.{rows22}
use Rattle.element.specs.Kinds.{Kind, six, eight, nine, ten, scale}
use Rattle.element.specs.Places.{InTriangle, InQuad, Place, square, cube, whole, weight_of, OnGrid, TriangleAt, QuadAt, AtGrid}
use Rattle.element.specs.Jacobian.{jacobian, fold, factor, BadBy, ShowsBy}
use Rattle.element.specs.Cubic.{R10, values10, J10, sum10}
use Rattle.element.specs.Control.{control_values, sum9, control_sum}
use Rattle.element.specs.Cells.{shape_of, triangle_rows, quad_rows, rows_of, Means}
use Rattle.element.proofs.Sums.{sum6-is-J, sum8-is-J, sum9-is-J, scaled-sum6, scaled-sum9}
use Rattle.element.proofs.Cubic.{sum10-is-J, scaled-sum10}

-- ---- places as weights
quad-point : (x : InQuad) → Point Q.quad (quad_rows x)
quad-point x =
    let a = x.u_below in let b = x.v_below in let c = x.m_above in let d = x.n_above in
    record { sized = refl; heavy = (omega arith, (omega arith, tt)) }

pub place-point : (k : Kind) (x : Place k) → Point (shape_of k) (rows_of k x)
place-point six x = let h = x.some in record { sized = refl; heavy = (omega arith, tt) }
place-point eight x = quad-point x
place-point nine x = quad-point x
place-point ten x = let h = x.some in record { sized = refl; heavy = (omega arith, tt) }

-- rows by their weights
pub one-row : {a b c a' b' c' : ℕ} → a ≡ a' → b ≡ b' → c ≡ c' → ◌≡◌ {A = List Row} ((a ∷ b ∷ c ∷ []) ∷ []) ((a' ∷ b' ∷ c' ∷ []) ∷ [])
one-row p q r = cc

pub two-rows : {a b c d a' b' c' d' : ℕ} → a ≡ a' → b ≡ b' → c ≡ c' → d ≡ d'
    → ◌≡◌ {A = List Row} ((a ∷ b ∷ []) ∷ (c ∷ d ∷ []) ∷ []) ((a' ∷ b' ∷ []) ∷ (c' ∷ d' ∷ []) ∷ [])
two-rows p q r s = cc

abbrev Placed : (k : Kind) → List Row → Type 0
Placed k ws = (x : Place k) × (rows_of k x ≡ ws)

triangle-place : (ws : List Row) → Sized (3 ∷ []) ws → Heavy ws → (x : InTriangle) × (triangle_rows x ≡ ws)
triangle-place ws s h = let (x, y, z, e) = rows3 ws s in go x y z e (subst Heavy e h)
  where
    go : (x y z : ℕ) → ws ≡ (x ∷ y ∷ z ∷ []) ∷ [] → Heavy ((x ∷ y ∷ z ∷ []) ∷ []) → (x : InTriangle) × (triangle_rows x ≡ ws)
    go x y z e (p, u) = (record { p = x; q = y; r = z; some = omega arith }, sym e)

quad-place : (ws : List Row) → Point Q.quad ws → (x : InQuad) × (quad_rows x ≡ ws)
quad-place ws h = let (a, b, c, d, e) = rows22 ws h.sized in go a b c d e (subst Heavy e h.heavy)
  where
    go : (a b c d : ℕ) → ws ≡ (a ∷ b ∷ []) ∷ (c ∷ d ∷ []) ∷ [] → Heavy ((a ∷ b ∷ []) ∷ (c ∷ d ∷ []) ∷ []) → (x : InQuad) × (quad_rows x ≡ ws)
    go a b c d e (p, (q, u)) = (
      record { p = b; m = a + b; q = d; n = c + d; u_below = omega arith; v_below = omega arith; m_above = omega arith; n_above = omega arith },
      two-rows (omega arith) refl (omega arith) refl ∙ sym e,
    )

pub place_of : (k : Kind) (ws : List Row) → Point (shape_of k) ws → Placed k ws
place_of six ws h = triangle-place ws h.sized h.heavy
place_of eight ws h = quad-place ws h
place_of nine ws h = quad-place ws h
place_of ten ws h = triangle-place ws h.sized h.heavy

-- ---- values at places
quad-sum : (c : List ℤ) (p m q n : ℕ) → p ≤ m
    → q ≤ n
    → scaled Q.quad c (((m - p) ∷ p ∷ []) ∷ ((n - q) ∷ q ∷ []) ∷ []) ≡ sum9 c (pos p) (pos m) (pos q) (pos n)
quad-sum c p m q n h k =
    let e : m - p + p ≡ m = omega arith in let f : n - q + q ≡ n = omega arith in
    scaled-sum9 c (m - p) p (n - q) q ∙ rw (e, f)

pub scaled-control : (k : Kind) (c : List ℤ) (x : Place k) → scaled (shape_of k) c (rows_of k x) ≡ control_sum k c x
scaled-control six c x = scaled-sum6 c x.p x.q x.r
scaled-control eight c x = quad-sum c x.p x.m x.q x.n x.u_below x.v_below
scaled-control nine c x = quad-sum c x.p x.m x.q x.n x.u_below x.v_below
scaled-control ten c x = scaled-sum10 c x.p x.q x.r

-- 16 times the sum, which is 12 times the determinant
ten-is-J : (xs : List ℤ) (p q r : ℕ) → pos 16 *ℤ sum10 (values10 xs) (pos p) (pos q) (pos r) ≡ pos 192 *ℤ J10 xs p q r
unfolding values10 J10
ten-is-J xs p q r = ap (λ z. pos 16 *ℤ z) (sum10-is-J (R10 xs) (pos p) (pos q) (pos r)) ∙ sym (*ℤ-assoc (pos 16) (pos 12) (J10 xs p q r))

pub control-is-J : (k : Kind) (xs : List ℤ) (x : Place k)
    → pos (fold k * fold k) *ℤ control_sum k (control_values k xs) x ≡ pos (scale k 0) *ℤ jacobian k xs x
unfolding control_values
control-is-J six xs x = 1-*ℤ (control_sum six (control_values six xs) x) ∙ sum6-is-J xs x.p x.q x.r
control-is-J eight xs x = sum8-is-J xs x.p x.m x.q x.n
control-is-J nine xs x = 1-*ℤ (control_sum nine (control_values nine xs) x) ∙ sum9-is-J xs x.p x.m x.q x.n
control-is-J ten xs x = ten-is-J xs x.p x.q x.r

pub scaled-is-J : (k : Kind) (xs : List ℤ) → Means k (jacobian k xs) (control_values k xs)
scaled-is-J k xs x = ap (λ z. pos (fold k * fold k) *ℤ z) (scaled-control k (control_values k xs) x) ∙ control-is-J k xs x

pub fold-above : (k : Kind) → 0 < fold k * fold k
fold-above six = lit< tt
fold-above eight = lit< tt
fold-above nine = lit< tt
fold-above ten = lit< tt

-- the weight of a place is not zero
square_above : (n : ℕ) → 0 < n → 0 < square n
square_above n h = N.mul-pos h h

cube-above : (n : ℕ) → 0 < n → 0 < cube n
cube-above n h = N.mul-pos (N.mul-pos h h) h

pub weight-above : (k : Kind) (x : Place k) → 0 < weight_of k x
weight-above six x = square_above (whole x) x.some
weight-above eight x = N.mul-pos (cube-above x.m x.m_above) (cube-above x.n x.n_above)
weight-above nine x = N.mul-pos (cube-above x.m x.m_above) (cube-above x.n x.n_above)
weight-above ten x = square_above (square (whole x)) (square_above (whole x) x.some)

pub factor-above : (k : Kind) (x : Place k) → 0 < factor k x
factor-above k x = N.mul-pos (fold-above k) (weight-above k x)

pub scale-above : (k : Kind) → 0 < scale k 0
scale-above six = lit< tt
scale-above eight = lit< tt
scale-above nine = lit< tt
scale-above ten = lit< tt

pub positive-there : (k : Kind) (f : Place k → ℤ) (c : List ℤ) → Means k f c
    → (x : Place k)
    → pos 0 <ℤ scaled (shape_of k) c (rows_of k x)
    → pos 0 <ℤ f x
positive-there k f c m x h = positive-transfer (fold k * fold k) (scale k 0) (scaled (shape_of k) c (rows_of k x)) (f x) (fold-above k) (m x) h

-- ---- grid points
triangle-grid : (d i j : ℕ) → i + j ≤ 2 ^ d → (x : InTriangle) × TriangleAt d i j x
triangle-grid d i j h =
    let t : 2 ^ d - i - j + i + j ≡ 2 ^ d = omega arith in
    (record { p = 2 ^ d - i - j; q = i; r = j; some = rw t (pow_pos d) }, (refl, refl, t))

quad-grid : (d i j : ℕ) → (i ≤ 2 ^ d) × (j ≤ 2 ^ d) → (x : InQuad) × QuadAt d i j x
quad-grid d i j (h, g) = (
  record { p = i; m = 2 ^ d; q = j; n = 2 ^ d; u_below = h; v_below = g; m_above = pow_pos d; n_above = pow_pos d },
  (refl, refl, refl, refl),
)

pub grid-place : (k : Kind) (d i j : ℕ) → OnGrid k d i j → (x : Place k) × AtGrid k d i j x
grid-place six d i j h = triangle-grid d i j h
grid-place eight d i j h = quad-grid d i j h
grid-place nine d i j h = quad-grid d i j h
grid-place ten d i j h = triangle-grid d i j h

pub place-grid : (k : Kind) (d i j : ℕ) (x : Place k) → AtGrid k d i j x → OnGrid k d i j
place-grid six d i j x (a, b, c) = omega arith
place-grid eight d i j x (a, b, c, e) = (omega (arith, x.u_below), omega (arith, x.v_below))
place-grid nine d i j x (a, b, c, e) = (omega (arith, x.u_below), omega (arith, x.v_below))
place-grid ten d i j x (a, b, c) = omega arith

pub grid-on : (k : Kind) (d i j : ℕ) → OnGrid k d i j → G.OnGrid (shape_of k) d i j
grid-on six d i j h = record { row_in = omega arith; column_in = omega arith }
grid-on eight d i j (h, g) = record { row_in = g; column_in = h }
grid-on nine d i j (h, g) = record { row_in = g; column_in = h }
grid-on ten d i j h = record { row_in = omega arith; column_in = omega arith }

pub on_grid : (k : Kind) (d i j : ℕ) → G.OnGrid (shape_of k) d i j → OnGrid k d i j
on_grid six d i j g = let r = g.row_in in let c = g.column_in in omega arith
on_grid eight d i j g = (g.column_in, g.row_in)
on_grid nine d i j g = (g.column_in, g.row_in)
on_grid ten d i j g = let r = g.row_in in let c = g.column_in in omega arith

quad-rows : (d i j : ℕ) (x : InQuad) → QuadAt d i j x → quad_rows x ≡ G.grid_point Q.quad d i j
quad-rows d i j x (a, b, c, e) = two-rows (omega arith) a (omega arith) c

pub grid-rows : (k : Kind) (d i j : ℕ) (x : Place k) → AtGrid k d i j x → rows_of k x ≡ G.grid_point (shape_of k) d i j
grid-rows six d i j x (a, b, c) = one-row (omega arith) a b
grid-rows eight d i j x h = quad-rows d i j x h
grid-rows nine d i j x h = quad-rows d i j x h
grid-rows ten d i j x (a, b, c) = one-row (omega arith) a b

quad-rows-at : (d i j : ℕ) (x : InQuad) → (i ≤ 2 ^ d) × (j ≤ 2 ^ d) → quad_rows x ≡ G.grid_point Q.quad d i j → QuadAt d i j x
quad-rows-at d i j x (h, g) e =
    let a : x.p ≡ i = cc in let b : x.q ≡ j = cc in
    let m : x.m - x.p ≡ 2 ^ d - i = cc in let n : x.n - x.q ≡ 2 ^ d - j = cc in
    (a, omega (arith, x.u_below), b, omega (arith, x.v_below))

triangle-rows-at : (d i j : ℕ) (x : InTriangle) → i + j ≤ 2 ^ d
    → triangle_rows x ≡ ((2 ^ d - i - j) ∷ i ∷ j ∷ []) ∷ []
    → TriangleAt d i j x
triangle-rows-at d i j x o e =
    let a : x.q ≡ i = cc in let b : x.r ≡ j = cc in let c : x.p ≡ 2 ^ d - i - j = cc in (a, b, omega arith)

pub rows-grid : (k : Kind) (d i j : ℕ) (x : Place k) → OnGrid k d i j → rows_of k x ≡ G.grid_point (shape_of k) d i j → AtGrid k d i j x
rows-grid six d i j x o e = triangle-rows-at d i j x o e
rows-grid eight d i j x o e = quad-rows-at d i j x o e
rows-grid nine d i j x o e = quad-rows-at d i j x o e
rows-grid ten d i j x o e = triangle-rows-at d i j x o e

-- ---- the scale of a level
-- the weight of a place over n: ξ and η, or u and v, are fractions of n parts
abbrev pub over : Kind → ℕ → ℕ
over six n = square n
over eight n = cube n * cube n
over nine n = cube n * cube n
over ten n = square (square n)

pub power-* : (a b d : ℕ) → (a * b) ^ d ≡ a ^ d * b ^ d
power-* a b zero = rw (N.pow-zero (a * b), N.pow-zero a, N.pow-zero b)
power-* a b (suc d) = rw (N.pow-suc (a * b) d, N.pow-suc a d, N.pow-suc b d, power-* a b d) (swap (a ^ d) (b ^ d))
  where
    swap : (x y : ℕ) → x * y * (a * b) ≡ x * a * (y * b)
    swap x y = omega arith

four_is : (d : ℕ) → 4 ^ d ≡ square (2 ^ d)
four_is d = power-* 2 2 d

eight_is : (d : ℕ) → 8 ^ d ≡ cube (2 ^ d)
eight_is d = power-* 4 2 d ∙ ap (λ (n : ℕ). n * 2 ^ d) (four_is d)

quad-scale : (d : ℕ) → 36 * 64 ^ d ≡ 36 * 64 ^ 0 * (cube (2 ^ d) * cube (2 ^ d))
quad-scale d = ap (λ (n : ℕ). 36 * n) (power-* 8 8 d ∙ ap (λ (n : ℕ). n * n) (eight_is d))

sixteen-is : (d : ℕ) → 16 ^ d ≡ square (square (2 ^ d))
sixteen-is d = power-* 4 4 d ∙ ap square (four_is d)

pub scale-is : (k : Kind) (d : ℕ) → scale k d ≡ scale k 0 * over k (2 ^ d)
scale-is six d = ap (λ (n : ℕ). 2 * n) (four_is d)
scale-is eight d = quad-scale d
scale-is nine d = quad-scale d
scale-is ten d = ap (λ (n : ℕ). 192 * n) (sixteen-is d)

grid-weight : (k : Kind) (d i j : ℕ) (x : Place k) → AtGrid k d i j x → weight_of k x ≡ over k (2 ^ d)
grid-weight six d i j x (a, b, c) = ap square c
grid-weight eight d i j x (a, b, c, e) = ap₂ (λ (m n : ℕ). cube m * cube n) b e
grid-weight nine d i j x (a, b, c, e) = ap₂ (λ (m n : ℕ). cube m * cube n) b e
grid-weight ten d i j x (a, b, c) = ap (λ (n : ℕ). square (square n)) c

-- a place over n times as many parts
whole-times : (n : ℕ) (x y : InTriangle) → map total (triangle_rows y) ≡ map (λ h. n * h) (map total (triangle_rows x)) → whole y ≡ n * whole x
whole-times n x y e =
    let a : y.p + (y.q + (y.r + 0)) ≡ n * (x.p + (x.q + (x.r + 0))) = cc in
    let f : y.p + y.q + y.r ≡ y.p + (y.q + (y.r + 0)) = omega arith in
    let g : x.p + (x.q + (x.r + 0)) ≡ x.p + x.q + x.r = omega arith in
    f ∙ a ∙ ap (λ (w : ℕ). n * w) g

square-times : (n w : ℕ) → square (n * w) ≡ square n * square w
square-times n w = omega arith

quad-times : (n : ℕ) (x y : InQuad) → map total (quad_rows y) ≡ map (λ h. n * h) (map total (quad_rows x))
    → cube y.m * cube y.n ≡ cube n * cube n * (cube x.m * cube x.n)
quad-times n x y e =
    let a : y.m - y.p + (y.p + 0) ≡ n * (x.m - x.p + (x.p + 0)) = cc in
    let b : y.n - y.q + (y.q + 0) ≡ n * (x.n - x.q + (x.q + 0)) = cc in
    ap₂ (λ (p q : ℕ). cube p * cube q) (side y.m y.p x.m x.p y.u_below x.u_below a) (side y.n y.q x.n x.q y.v_below x.v_below b)
    ∙ apart x.m x.n
  where
    side : (m p m' p' : ℕ) → p ≤ m → p' ≤ m' → m - p + (p + 0) ≡ n * (m' - p' + (p' + 0)) → m ≡ n * m'
    side m p m' p' h h' e =
        let f : m - p + (p + 0) ≡ m = omega arith in let g : m' - p' + (p' + 0) ≡ m' = omega arith in
        sym f ∙ e ∙ ap (λ (q : ℕ). n * q) g

    apart : (a b : ℕ) → cube (n * a) * cube (n * b) ≡ cube n * cube n * (cube a * cube b)
    apart a b = omega arith

pub weight-times : (k : Kind) (n : ℕ) (x y : Place k) → map total (rows_of k y) ≡ map (λ h. n * h) (map total (rows_of k x))
    → weight_of k y ≡ over k n * weight_of k x
weight-times six n x y e = ap square (whole-times n x y e) ∙ square-times n (whole x)
weight-times eight n x y e = quad-times n x y e
weight-times nine n x y e = quad-times n x y e
weight-times ten n x y e =
    ap square (ap square (whole-times n x y e) ∙ square-times n (whole x)) ∙ square-times (square n) (square (whole x))

-- an equation of scaled numbers, with both scales grown
pub grow-both : (a b w : ℕ) (x y : ℤ) → pos a *ℤ x ≡ pos b *ℤ y → pos (a * w) *ℤ x ≡ pos (b * w) *ℤ y
grow-both a b w x y e = out a x ∙ ap (λ z. z *ℤ pos w) e ∙ sym (out b y)
  where
    out : (a : ℕ) (x : ℤ) → pos (a * w) *ℤ x ≡ pos a *ℤ x *ℤ pos w
    out a x = solve (pos a ∷ pos w ∷ x ∷ []) (var 0 ⊗ var 1 ⊗ var 2) (var 0 ⊗ var 2 ⊗ var 1) tt

-- ---- at a grid point, for any values c that mean numbers f at places: J is one such, 100·J - p·S another
module _ (k : Kind) (f : Place k → ℤ) (c : List ℤ) (m : Means k f c) (d i j : ℕ) where
  abbrev grid_value : ℤ
  grid_value = scaled (shape_of k) c (G.grid_point (shape_of k) d i j)

  value-here : (x : Place k) → AtGrid k d i j x → scaled (shape_of k) c (rows_of k x) ≡ grid_value
  value-here x a = ap (scaled (shape_of k) c) (grid-rows k d i j x a)

  pub grid-is : (x : Place k) → AtGrid k d i j x → pos (factor k x) *ℤ grid_value ≡ pos (scale k d) *ℤ f x
  grid-is x a =
      grow-both (fold k * fold k) (scale k 0) (weight_of k x) grid_value (f x)
      (ap (λ z. pos (fold k * fold k) *ℤ z) (sym (value-here x a)) ∙ m x)
      ∙ ap (λ (n : ℕ). pos n *ℤ f x) (ap (λ (n : ℕ). scale k 0 * n) (grid-weight k d i j x a) ∙ sym (scale-is k d))

  pub bad-value : BadBy k f d i j → G.OnGrid (shape_of k) d i j × (grid_value ≤ℤ pos 0)
  bad-value b = (
    grid-on k d i j (place-grid k d i j b.place b.at_point),
    nonpositive-transfer (scale k 0) (fold k * fold k) (f b.place) grid_value (fold-above k)
        (sym (m b.place) ∙ ap (λ z. pos (fold k * fold k) *ℤ z) (value-here b.place b.at_point))
        b.not_positive,
  )

  pub value-bad : G.OnGrid (shape_of k) d i j → grid_value ≤ℤ pos 0 → BadBy k f d i j
  value-bad g h =
      let (x, a) = grid-place k d i j (on_grid k d i j g) in
      record {
        place = x;
        at_point = a;
        not_positive = nonpositive-transfer (fold k * fold k) (scale k 0) (scaled (shape_of k) c (rows_of k x)) (f x)
            (scale-above k) (m x) (rw (value-here x a) h);
      }

  pub value-shows : OnGrid k d i j → ShowsBy k f d i j grid_value
  value-shows o = let (x, a) = grid-place k d i j o in record { place = x; at_point = a; shown = grid-is x a }

  pub shows-value : (z : ℤ) → ShowsBy k f d i j z → z ≡ grid_value
  shows-value z s =
      let n : ℤ = pos (factor k s.place) in
      *ℤ-cancel z grid_value n (0<pos (factor-above k s.place)) (*ℤ_comm z n ∙ s.shown ∙ sym (grid-is s.place s.at_point) ∙ *ℤ_comm n grid_value)
