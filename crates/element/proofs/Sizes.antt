-- How large control values are (01: "Within these limits every value stays below 2^62 in size").
--   values-size      : those of level 0, from the limit on the coordinates, as they stand or from the first node
--   cell-size        : those of a cell of level d are within the kind's limit for d
--   below-2^62       : which is below 2^62 up to the kind's greatest level
-- For all kinds. Assumes nothing.
use mathlib.Core.Path.{◌≡◌, refl, sym, ◌∙◌, ap, subst}
use mathlib.Core.List.{List, [], ◌∷◌, map}
use mathlib.Core.Logic.{inl, inr}
use Prim.Native.Nat.{ℕ, zero, suc, ◌+◌, ◌*◌, ◌^◌, ◌≤◌, ◌<◌}
use native.Mathlib.Nat as N
use native.Mathlib.Omega.{arith}
use lib.Dec.{lit<}
use lib.IntN.{ℤ, pos, nat_abs}
use lib.ListN.{length, replicate}
use Rattle.algebra.specs.Expr.{Expr, exprs}
use Rattle.algebra.specs.Bound.{Bounded}
use Rattle.algebra.specs.Within.{Each}
use Rattle.algebra.proofs.Bound.{each-by, each-by-normal}
use Rattle.algebra.proofs.Within.{each-as}
use Rattle.forms.specs.Cuttings.{Four}
use Rattle.forms.specs.Triangles.{fifteen}
use Rattle.forms.specs.Quads.{sixteen}
use Rattle.forms.proofs.Grids as G
use Rattle.element.specs.Kinds.{Kind, six, eight, nine, ten, coordinate_limit, greatest_level, size_limit}
use Rattle.element.specs.Cubic.{value10, values10}
use Rattle.element.specs.Control.{values6, value, control_values}
use Rattle.element.specs.Cells.{shape_of, cell}
use Rattle.element.specs.Origin.{from_first, Ranged, Inside}
use Rattle.element.proofs.Formulas as E
use Rattle.element.proofs.CubicFormulas as C
use Rattle.element.proofs.Sums.{node_e, R9E, R8E, numbers}
use Rattle.element.proofs.Values.{shape-lawful}
use Rattle.element.proofs.Origin.{values-first}

numbers-bounded : (C : ℕ) (xs : List ℤ) → Each C xs → (n k : ℕ) → Bounded (numbers xs k n) (replicate n C)
numbers-bounded C xs h zero k = tt
numbers-bounded C xs h (suc n) k = ((h.at k).size, numbers-bounded C xs h n (k + 1))

-- of triangles by the normal form, where what cancels does not count; of a quad as the formula stands
near-size : (k : Kind) (xs : List ℤ) → Each (coordinate_limit k) xs → Each (size_limit k 0) (control_values k xs)
unfolding control_values values6 values10 value value10
near-size six xs h =
    each-by-normal (numbers xs 0 12) (replicate 12 65536) (numbers-bounded 65536 xs h 12 0) (size_limit six 0)
    (map (E.c6 exprs (node_e 0)) (0 ∷ 1 ∷ 2 ∷ 3 ∷ 4 ∷ 5 ∷ [])) tt
near-size eight xs h =
    each-by (numbers xs 0 16) (replicate 16 2048) (numbers-bounded 2048 xs h 16 0) (size_limit eight 0) (sixteen (E.value exprs (R8E 0))) tt
near-size nine xs h =
    each-by (numbers xs 0 18) (replicate 18 2048) (numbers-bounded 2048 xs h 18 0) (size_limit nine 0) (sixteen (E.value exprs (R9E 0))) tt
near-size ten xs h =
    each-by-normal (numbers xs 0 20) (replicate 20 1024) (numbers-bounded 1024 xs h 20 0) (size_limit ten 0)
    (fifteen (C.value10 exprs (C.R10 exprs (node_e 0)))) tt

-- an element far from the origin has the values of the one moved to its first node
pub values-size : (k : Kind) (xs : List ℤ) → Inside k xs → Each (size_limit k 0) (control_values k xs)
values-size k xs p = go p.range
  where
    go : Ranged (coordinate_limit k) xs → Each (size_limit k 0) (control_values k xs)
    go (inl h) = near-size k xs h
    go (inr h) = each-as (sym (values-first k xs p.long)) (near-size k (from_first xs) h)

-- each level lets the limit grow by 4, by 16, or by 64
grows : (n g d : ℕ) → g ^ d * (n * g ^ 0) ≡ n * g ^ d
grows n g d = rw (N.pow-zero g, N.mul-one n) (N.mul_comm (g ^ d) n)

pub cell-size : (k : Kind) (xs : List ℤ) (path : List Four) → Inside k xs
    → Each (size_limit k (length path)) (cell k path (control_values k xs))
cell-size k xs path h = subst (λ (n : ℕ). Each n (cell k path (control_values k xs))) (go k) (G.cell-size (shape_of k) (shape-lawful k) (size_limit k 0) path (control_values k xs) (values-size k xs h))
  where
    go : (k : Kind) → (shape_of k).growth ^ length path * size_limit k 0 ≡ size_limit k (length path)
    go six = grows (400 * (65536 * 65536)) 4 (length path)
    go eight = grows (41472 * (2048 * 2048)) 64 (length path)
    go nine = grows (41472 * (2048 * 2048)) 64 (length path)
    go ten = grows (271776 * (1024 * 1024)) 16 (length path)

limit-mono : (k : Kind) (d : ℕ) → d ≤ greatest_level k → size_limit k d ≤ size_limit k (greatest_level k)
limit-mono six d h = N.mul-le-mul_left (400 * (65536 * 65536)) (N.pow-le-pow_right {n = 4} (lit< tt) h)
limit-mono eight d h = N.mul-le-mul_left (41472 * (2048 * 2048)) (N.pow-le-pow_right {n = 64} (lit< tt) h)
limit-mono nine d h = N.mul-le-mul_left (41472 * (2048 * 2048)) (N.pow-le-pow_right {n = 64} (lit< tt) h)
limit-mono ten d h = N.mul-le-mul_left (271776 * (1024 * 1024)) (N.pow-le-pow_right {n = 16} (lit< tt) h)

pub below-2^62 : (k : Kind) (d : ℕ) → d ≤ greatest_level k → size_limit k d < 2 ^ 62
below-2^62 k d h = N.lt_of_le_of_lt (limit-mono k d h) (go k)
  where
    go : (k : Kind) → size_limit k (greatest_level k) < 2 ^ 62
    go six = lit< tt
    go eight = lit< tt
    go nine = lit< tt
    go ten = lit< tt
