-- Control values: how many, how large, the only ones, and the values of the cells of each level.
--   shape-lawful, shape-readable : the shapes of the kinds
--   values_length    : an element of a kind has the kind's number of values
--   values-only      : any list of that many whole numbers whose sum is the scaled J at all places is the list of control values
--   lies_at          : each place of a cell is a place of the element
--   cell-is-J        : the values of a cell of level d are J on that cell, at the scale of level d
--   corner-shows     : a corner value of a cell of level d is the scaled J at the grid point of that corner
--   corner-point     : which is where the corner lies
-- For all kinds. Assumes nothing.
use mathlib.Core.Path.{◌≡◌, refl, sym, ◌∙◌, ap, subst}
use mathlib.Core.List.{List, [], ◌∷◌, map}
use Prim.Native.Nat.{ℕ, ◌*◌, ◌^◌, ◌<◌}
use native.Mathlib.Nat as N
use lib.Dec.{T}
use lib.IntN.{ℤ, pos, ◌*ℤ◌, *ℤ_comm}
use lib.ListN.{length}
use Rattle.algebra.proofs.Order.{0<pos, *ℤ-cancel}
use Rattle.forms.specs.Rows.{Row, total}
use Rattle.forms.specs.Cuttings.{Four}
use Rattle.forms.specs.Shapes.{scaled, tip, corner_value, Point, Lawful}
use Rattle.forms.specs.Grids.{in_whole, corner_column, corner_row}
use Rattle.forms.specs.Polar.{readable}
use Rattle.forms.proofs.Grids.{in_whole-sized, in_whole-adds, in_whole-heavy, value_cell, corner-value, corner-grid}
use Rattle.forms.proofs.Triangles.{six-lawful, ten-lawful}
use Rattle.forms.proofs.Quads.{quad-lawful}
use Rattle.forms.proofs.Polar.{stored-only, six-readable, ten-readable, quad-readable}
use Rattle.element.specs.Kinds.{Kind, six, eight, nine, ten, value_count, scale}
use Rattle.element.specs.Places.{Place, weight_of, AtGrid}
use Rattle.element.specs.Jacobian.{jacobian, fold, factor, Shows}
use Rattle.element.specs.Cubic.{values10}
use Rattle.element.specs.Control.{values6, control_values, control_sum}
use Rattle.element.specs.Cells.{shape_of, rows_of, cell, LiesAt}
use Rattle.element.proofs.Places.{place-point, place_of, scaled-control, control-is-J, scaled-is-J, fold-above, on_grid, rows-grid, over, scale-is, weight-times, grow-both, value-shows}

pub shape-lawful : (k : Kind) → Lawful (shape_of k)
shape-lawful six = six-lawful
shape-lawful eight = quad-lawful
shape-lawful nine = quad-lawful
shape-lawful ten = ten-lawful

pub shape-readable : (k : Kind) → T (readable (shape_of k))
shape-readable six = six-readable
shape-readable eight = quad-readable
shape-readable nine = quad-readable
shape-readable ten = ten-readable

pub values_length : (k : Kind) (xs : List ℤ) → length (control_values k xs) ≡ value_count k
unfolding control_values values6 values10
values_length six xs = refl
values_length eight xs = refl
values_length nine xs = refl
values_length ten xs = refl

pub entries-count : (k : Kind) → value_count k ≡ length (shape_of k).entries
entries-count six = refl
entries-count eight = refl
entries-count nine = refl
entries-count ten = refl

-- ---- the only values
pub values-only : (k : Kind) (xs c : List ℤ) → length c ≡ value_count k
    → ((x : Place k) → pos (fold k * fold k) *ℤ control_sum k c x ≡ pos (scale k 0) *ℤ jacobian k xs x)
    → c ≡ control_values k xs
values-only k xs c l f =
    stored-only (shape_of k) c (control_values k xs) agree (shape-readable k) (l ∙ entries-count k) (values_length k xs ∙ entries-count k)
  where
    at_place : (x : Place k) → scaled (shape_of k) c (rows_of k x) ≡ scaled (shape_of k) (control_values k xs) (rows_of k x)
    at_place x =
        let w : ℤ = pos (fold k * fold k) in
        let a : ℤ = control_sum k c x in let b : ℤ = control_sum k (control_values k xs) x in
        scaled-control k c x
        ∙ *ℤ-cancel a b w (0<pos (fold-above k)) (*ℤ_comm a w ∙ f x ∙ sym (control-is-J k xs x) ∙ *ℤ_comm w b)
        ∙ sym (scaled-control k (control_values k xs) x)

    agree : (ws : List Row) → Point (shape_of k) ws → scaled (shape_of k) c ws ≡ scaled (shape_of k) (control_values k xs) ws
    agree ws h =
        let (x, e) = place_of k ws h in
        subst (λ (v : List Row). scaled (shape_of k) c v ≡ scaled (shape_of k) (control_values k xs) v) e (at_place x)

-- ---- the cells of each level
pub lies_at : (k : Kind) (path : List Four) (x : Place k) → (y : Place k) × LiesAt k path x y
lies_at k path x =
    let h = place-point k x in
    place_of k (in_whole (shape_of k) path (rows_of k x))
    (record {
      sized = in_whole-sized (shape_of k) (shape-lawful k) path (rows_of k x) h.sized;
      heavy = in_whole-heavy (shape_of k) (shape-lawful k) path (rows_of k x) h.sized h.heavy;
    })

-- the place in the element is a fraction of 2^d times as many parts as the place in the cell
lies-weight : (k : Kind) (path : List Four) (x y : Place k) → LiesAt k path x y
    → scale k 0 * weight_of k y ≡ scale k (length path) * weight_of k x
lies-weight k path x y l =
    ap (λ (n : ℕ). scale k 0 * n) (weight-times k (2 ^ length path) x y (ap (map total) l ∙ in_whole-adds (shape_of k) (shape-lawful k) path (rows_of k x) (place-point k x).sized))
    ∙ sym (N.mul_assoc (scale k 0) (over k (2 ^ length path)) (weight_of k x))
    ∙ ap (λ (n : ℕ). n * weight_of k x) (sym (scale-is k (length path)))

pub cell-is-J : (k : Kind) (xs : List ℤ) (path : List Four) (x y : Place k) → LiesAt k path x y
    → pos (factor k y) *ℤ control_sum k (cell k path (control_values k xs)) x ≡ pos (scale k (length path) * weight_of k x) *ℤ jacobian k xs y
cell-is-J k xs path x y l =
    grow-both (fold k * fold k) (scale k 0) (weight_of k y) (control_sum k (cell k path (control_values k xs)) x) (jacobian k xs y)
    (ap (λ z. pos (fold k * fold k) *ℤ z)
    (sym (scaled-control k (cell k path (control_values k xs)) x)
    ∙ value_cell (shape_of k) (shape-lawful k) path (control_values k xs) (rows_of k x) (place-point k x).sized
    ∙ ap (scaled (shape_of k) (control_values k xs)) (sym l))
    ∙ scaled-is-J k xs y)
    ∙ ap (λ (n : ℕ). pos n *ℤ jacobian k xs y) (lies-weight k path x y l)

pub corner-shows : (k : Kind) (xs : List ℤ) (path : List Four) (c : ℕ) → c < length (shape_of k).corners
    → Shows k xs (length path) (corner_column (shape_of k) path c) (corner_row (shape_of k) path c) (corner_value (shape_of k) c (cell k path (control_values k xs)))
corner-shows k xs path c h =
    let (g, e) = corner-grid (shape_of k) (shape-lawful k) path c h in
    subst (Shows k xs (length path) (corner_column (shape_of k) path c) (corner_row (shape_of k) path c))
    (ap (scaled (shape_of k) (control_values k xs)) e ∙ sym (corner-value (shape_of k) (shape-lawful k) path (control_values k xs) c h))
    (value-shows k (jacobian k xs) (control_values k xs) (scaled-is-J k xs) (length path) (corner_column (shape_of k) path c) (corner_row (shape_of k) path c) (on_grid k (length path) _ _ g))

-- a place of the cell with the corner's weights lies at that grid point
pub corner-point : (k : Kind) (path : List Four) (c : ℕ) (x y : Place k) → c < length (shape_of k).corners
    → rows_of k x ≡ tip (shape_of k) c
    → LiesAt k path x y
    → AtGrid k (length path) (corner_column (shape_of k) path c) (corner_row (shape_of k) path c) y
corner-point k path c x y h t l =
    let (g, e) = corner-grid (shape_of k) (shape-lawful k) path c h in
    rows-grid k (length path) (corner_column (shape_of k) path c) (corner_row (shape_of k) path c) y (on_grid k (length path) _ _ g)
    (l ∙ ap (in_whole (shape_of k) path) t ∙ sym e)
