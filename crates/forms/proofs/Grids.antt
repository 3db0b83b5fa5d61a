-- The cells of a level and the grid.
--   in_whole-sized, in_whole-adds, in_whole-heavy : a cell's point is a point of the element, its totals times 2^d
--   value_cell       : the value of a cell of level d is the value of the element, at the same point
--   corner-value     : a corner value of a cell is the value of the element at that corner
--   grid-corner, corner-grid : the grid points of level d are exactly the corners of the cells of level d
--   grid-nested      : the point (i, j) of a level is the point (2i, 2j) of the next
--   cell-size        : the values of a cell of level d grow at most by growth^d
-- Each once, for every lawful shape. Assumes nothing.
use mathlib.Core.Path.{◌≡◌, refl, sym, ◌∙◌, ap, ap₂, subst}
use mathlib.Core.List.{List, [], ◌∷◌, map}
use Prim.Native.Nat.{ℕ, zero, suc, ◌+◌, ◌*◌, ◌^◌, ◌≤◌, ◌<◌}
use native.Mathlib.Nat as N
use native.Mathlib.Omega.{arith}
use lib.IntN.{ℤ, pos}
use lib.ListN.{get_or, length}
use lib.Pow.{pow_pos}
use Rattle.algebra.specs.Within.{Each}
use Rattle.forms.specs.Rows.{Row, total}
use Rattle.forms.specs.Forms.{through, times}
use Rattle.forms.specs.Cuttings.{Four}
use Rattle.forms.specs.Shapes.{Shape, cut_to, scaled, tip, corner_value, entry, Sized, Adds, Heavy, Point, sides, Lawful}
use Rattle.forms.specs.Grids.{cell_at, in_whole, OnGrid, grid_point, corner_column, corner_row}
use Rattle.forms.proofs.Rows.{get_d-⊙}
use Rattle.forms.proofs.Shapes.{double, times-sized, times-adds, sides-heavy, through-sized, through-adds, scaled-cut, scaled-tip, tip-of, tip-sized, tip-adds, cut_to-size}

-- ---- totals, one a direction
map-map : (f g : ℕ → ℕ) (hs : List ℕ) → map f (map g hs) ≡ map (λ h. f (g h)) hs
map-map f g [] = refl
map-map f g (h ∷ hs) = ap {B = List ℕ} (λ l. f (g h) ∷ l) (map-map f g hs)

map_same : (f g : ℕ → ℕ) → ((h : ℕ) → f h ≡ g h) → (hs : List ℕ) → map f hs ≡ map g hs
map_same f g e [] = refl
map_same f g e (h ∷ hs) = ap₂ {B = List ℕ} ◌∷◌ (e h) (map_same f g e hs)

-- a grid of 2^(d + 1) parts has twice the parts
double-sides : (S : Shape) (d : ℕ) → sides S (2 ^ suc d) ≡ double (sides S (2 ^ d))
double-sides S d = map_same (λ s. 2 ^ suc d) (λ s. 2 * 2 ^ d) (λ h. omega arith) S.sizes ∙ sym (map-map (λ h. 2 * h) (λ s. 2 ^ d) S.sizes)

entry-times : (x : ℕ) (at : ℕ × ℕ) (ws : List Row) → entry at (times x ws) ≡ x * entry at ws
entry-times x at ws = go at.0 ws
  where
    go : (d : ℕ) (ws : List Row) → get_or (get_or (times x ws) d []) at.1 0 ≡ x * get_or (get_or ws d []) at.1 0
    go d [] = sym (N.mul-zero x)
    go zero (w ∷ ws) = get_d-⊙ x w at.1
    go (suc d) (w ∷ ws) = go d ws

heavy-times : (n : ℕ) → 0 < n → (ys ws : List Row) → map total ws ≡ map (λ h. n * h) (map total ys) → Heavy ys → Heavy ws
heavy-times n p [] [] e h = tt
heavy-times n p [] (w ∷ ws) e h = absurd (N.suc-ne-zero _ (ap length e))
heavy-times n p (y ∷ ys) [] e h = absurd (N.suc-ne-zero _ (ap length (sym e)))
heavy-times n p (y ∷ ys) (w ∷ ws) e h =
    let t : total w ≡ n * total y = cc in (rw t (N.mul-pos p h.0), heavy-times n p ys ws (cc) h.1)

module _ (S : Shape) (W : Lawful S) where
  -- ---- a cell's points
  pub in_whole-sized : (path : List Four) (ys : List Row) → Sized S.sizes ys → Sized S.sizes (in_whole S path ys)
  in_whole-sized [] ys e = e
  in_whole-sized (i ∷ path) ys e = through-sized S W i (in_whole S path ys) (in_whole-sized path ys e)

  pub in_whole-adds : (path : List Four) (ys : List Row) → Sized S.sizes ys
      → map total (in_whole S path ys) ≡ map (λ h. 2 ^ length path * h) (map total ys)
  in_whole-adds [] ys e = sym (map_same (λ h. 1 * h) (λ h. h) (λ h. omega arith) (map total ys) ∙ map-id (map total ys))
    where
      map-id : (hs : List ℕ) → map (λ h. h) hs ≡ hs
      map-id [] = refl
      map-id (h ∷ hs) = ap {B = List ℕ} (λ l. h ∷ l) (map-id hs)
  in_whole-adds (i ∷ path) ys e =
      through-adds S W i (in_whole S path ys) (in_whole-sized path ys e)
      ∙ ap double (in_whole-adds path ys e)
      ∙ map-map (λ h. 2 * h) (λ h. 2 ^ length path * h) (map total ys)
      ∙ map_same (λ h. 2 * (2 ^ length path * h)) (λ h. 2 ^ suc (length path) * h) (λ h. twice (2 ^ length path) h ∙ ap (λ (n : ℕ). n * h) (sym (N.pow-succ' 2 (length path)))) (map total ys)
    where
      twice : (n h : ℕ) → 2 * (n * h) ≡ 2 * n * h
      twice n h = sym (N.mul_assoc 2 n h)

  pub in_whole-heavy : (path : List Four) (ys : List Row) → Sized S.sizes ys → Heavy ys → Heavy (in_whole S path ys)
  in_whole-heavy path ys e h = heavy-times (2 ^ length path) (pow_pos (length path)) ys (in_whole S path ys) (in_whole-adds path ys e) h

  pub value_cell : (path : List Four) (c : List ℤ) (ys : List Row) → Sized S.sizes ys
      → scaled S (cell_at S path c) ys ≡ scaled S c (in_whole S path ys)
  value_cell [] c ys e = refl
  value_cell (i ∷ path) c ys e = value_cell path (cut_to S i c) ys e ∙ scaled-cut S W i c (in_whole S path ys) (in_whole-sized path ys e)

  pub corner-value : (path : List Four) (c : List ℤ) (k : ℕ) → k < length S.corners
      → corner_value S k (cell_at S path c) ≡ scaled S c (in_whole S path (tip S k))
  corner-value path c k h = sym (scaled-tip S W (cell_at S path c) k h) ∙ value_cell path c (tip S k) (tip-sized S W k h)

  -- ---- corners of cells, and the grid
  corner-adds : (path : List Four) (k : ℕ) → k < length S.corners → Adds (sides S (2 ^ length path)) (in_whole S path (tip S k))
  corner-adds path k h =
      in_whole-adds path (tip S k) (tip-sized S W k h)
      ∙ ap (map (λ n. 2 ^ length path * n)) (tip-adds S W k h)
      ∙ map-map (λ n. 2 ^ length path * n) (λ s. 1) S.sizes
      ∙ map_same (λ s. 2 ^ length path * 1) (λ s. 2 ^ length path) (λ s. N.mul-one (2 ^ length path)) S.sizes

  abbrev pub IsCorner : ℕ → List Row → Type 0
  IsCorner d ws = (path : List Four) × (k : ℕ) × (length path ≡ d) × (k < length S.corners) × (in_whole S path (tip S k) ≡ ws)

  side-corner : (d : ℕ) (ws : List Row) → Sized S.sizes ws → Adds (sides S (2 ^ d)) ws → IsCorner d ws
  side-corner zero ws e a = let (k, h, r) = tip-of S W ws e a in ([], k, refl, h, r)
  side-corner (suc d) ws e a =
      let (i, ys, f, b, r) = W.split (sides S (2 ^ d)) ws e (a ∙ double-sides S d) in
      let (path, k, l, h, s) = side-corner d ys f b in
      (i ∷ path, k, ap suc l, h, ap (λ (v : List Row). through v (S.cuts i)) s ∙ r)

  pub grid-corner : (d i j : ℕ) → OnGrid S d i j → IsCorner d (grid_point S d i j)
  grid-corner d i j g = let (e, a) = W.on_grid (2 ^ d) i j g.row_in g.column_in in side-corner d (grid_point S d i j) e a

  pub corner-grid : (path : List Four) (k : ℕ) → k < length S.corners
      → OnGrid S (length path) (corner_column S path k) (corner_row S path k)
      × (grid_point S (length path) (corner_column S path k) (corner_row S path k) ≡ in_whole S path (tip S k))
  corner-grid path k h =
      let ws : List Row = in_whole S path (tip S k) in
      let (r, c, e) = W.indexed (2 ^ length path) ws (in_whole-sized path (tip S k) (tip-sized S W k h)) (corner-adds path k h) in
      (record { row_in = r; column_in = c }, e)

  pub grid-point : (d i j : ℕ) → OnGrid S d i j → Point S (grid_point S d i j)
  grid-point d i j g =
      let (e, a) = W.on_grid (2 ^ d) i j g.row_in g.column_in in
      record { sized = e; heavy = sides-heavy (2 ^ d) (pow_pos d) S.sizes (grid_point S d i j) a }

  pub grid-nested : (d i j : ℕ) → OnGrid S d i j
      → OnGrid S (suc d) (2 * i) (2 * j) × (grid_point S (suc d) (2 * i) (2 * j) ≡ times 2 (grid_point S d i j))
  grid-nested d i j g = go (entry-times 2 S.column ws ∙ ap (λ (n : ℕ). 2 * n) p.0) (entry-times 2 S.row ws ∙ ap (λ (n : ℕ). 2 * n) p.1)
    where
      ws : List Row
      ws = grid_point S d i j

      p : (entry S.column ws ≡ i) × (entry S.row ws ≡ j)
      p = W.placed (2 ^ d) i j

      q : Sized S.sizes ws × Adds (sides S (2 ^ d)) ws
      q = W.on_grid (2 ^ d) i j g.row_in g.column_in

      sums : Adds (sides S (2 ^ suc d)) (times 2 ws)
      sums = times-adds 2 ws ∙ ap double q.1 ∙ sym (double-sides S d)

      go : entry S.column (times 2 ws) ≡ 2 * i
          → entry S.row (times 2 ws) ≡ 2 * j
          → OnGrid S (suc d) (2 * i) (2 * j) × (grid_point S (suc d) (2 * i) (2 * j) ≡ times 2 ws)
      go e f =
          let (r, c, s) = W.indexed (2 ^ suc d) (times 2 ws) (times-sized 2 S.sizes ws q.0) sums in
          (record { row_in = rw f at r; column_in = rw (e, f) at c }, rw (e, f) at s)

  -- ---- sizes
  pub cell-size : (n : ℕ) (path : List Four) (c : List ℤ) → Each n c → Each (S.growth ^ length path * n) (cell_at S path c)
  cell-size n [] c h = rw (N.pow-zero S.growth, N.one-mul n) h
  cell-size n (i ∷ path) c h =
      subst (λ (m : ℕ). Each m (cell_at S path (cut_to S i c))) (sym (N.mul_assoc (S.growth ^ length path) S.growth n) ∙ ap (λ (m : ℕ). m * n) (sym (N.pow-suc S.growth (length path))))
      (cell-size (S.growth * n) path (cut_to S i c) (cut_to-size S W i n c h))
