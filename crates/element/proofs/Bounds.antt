-- The bounds for a solver: one least and one greatest value, and the scaled J between them.
--   least-unique, greatest-unique : there is one of each
--   bounds-between   : at every place of the element the scaled J lies between the least and the greatest control value
-- For all kinds. Assumes nothing.
use mathlib.Core.Path.{◌≡◌, refl, sym, ◌∙◌, ap, subst}
use mathlib.Core.List.{List, [], ◌∷◌}
use Prim.Native.Nat.{ℕ, ◌+◌, ◌*◌, ◌-◌, ◌≤◌}
use native.Mathlib.Omega.{arith}
use lib.IntN.{ℤ, pos, ◌*ℤ◌, *ℤ_comm}
use lib.ListN.{length}
use lib.Signed.{◌≤ℤ◌}
use Rattle.algebra.proofs.Ring.{*ℤ-assoc}
use Rattle.algebra.proofs.Order.{0≤pos, ≤-antisymm, *ℤ-mono}
use Rattle.forms.specs.Forms.{mass}
use Rattle.forms.specs.Shapes.{spread, scaled, Sized}
use Rattle.forms.proofs.Between.{scaled-above, scaled-below}
use Rattle.element.specs.Kinds.{Kind, six, eight, nine, ten, scale}
use Rattle.element.specs.Places.{InQuad, Place, square, cube, whole, weight_of}
use Rattle.element.specs.Jacobian.{jacobian, fold, factor}
use Rattle.element.specs.Control.{control_values, at}
use Rattle.element.specs.Cells.{shape_of, quad_rows, rows_of}
use Rattle.element.specs.Bounds.{Least, Greatest, Between}
use Rattle.element.proofs.Places.{place-point, scaled-is-J}
use Rattle.element.proofs.Values.{shape-lawful, values_length, entries-count}

pub least-unique : (c : List ℤ) (y z : ℤ) → Least c y → Least c z → y ≡ z
least-unique c y z a b =
    ≤-antisymm (subst (λ v. y ≤ℤ v) b.there (a.below b.place b.in_list)) (subst (λ v. z ≤ℤ v) a.there (b.below a.place a.in_list))

pub greatest-unique : (c : List ℤ) (y z : ℤ) → Greatest c y → Greatest c z → y ≡ z
greatest-unique c y z a b =
    ≤-antisymm (subst (λ v. v ≤ℤ z) a.there (b.above a.place a.in_list)) (subst (λ v. v ≤ℤ y) b.there (a.above b.place b.in_list))

-- ---- the product of the totals is the weight of the place
six-factors : (a b m n : ℕ) → a ≡ m → b ≡ n → a * (a * (a * (b * (b * (b * 1))))) ≡ cube m * cube n
six-factors a b m n e f = rw (e, f) (omega arith)

quad-mass : (x : InQuad) → mass (spread (3 ∷ 3 ∷ []) (quad_rows x)) ≡ cube x.m * cube x.n
quad-mass x =
    let h = x.u_below in let k = x.v_below in
    six-factors (x.m - x.p + (x.p + 0)) (x.n - x.q + (x.q + 0)) x.m x.n (omega arith) (omega arith)

four-factors : (a w : ℕ) → a ≡ w → a * (a * (a * (a * 1))) ≡ square (square w)
four-factors a w e = rw e (omega arith)

mass-is : (k : Kind) (x : Place k) → mass (spread (shape_of k).counts (rows_of k x)) ≡ weight_of k x
mass-is six x = omega arith
mass-is eight x = quad-mass x
mass-is nine x = quad-mass x
mass-is ten x = four-factors (x.p + (x.q + (x.r + 0))) (whole x) (omega arith)

-- ---- the scaled J lies between
-- a bound of the value, taken fold² times
grow : (n : ℕ) {a b : ℤ} → a ≤ℤ b → (pos n *ℤ a) ≤ℤ (pos n *ℤ b)
grow n {a} {b} h =
    subst (λ z. z ≤ℤ (pos n *ℤ b)) (*ℤ_comm a (pos n)) (subst (λ z. (a *ℤ pos n) ≤ℤ z) (*ℤ_comm b (pos n)) (*ℤ-mono (0≤pos n) h))

pub bounds-between : (k : Kind) (xs : List ℤ) (lo hi : ℤ) → Least (control_values k xs) lo
    → Greatest (control_values k xs) hi
    → (x : Place k)
    → Between k xs lo hi x
bounds-between k xs lo hi l g x =
    record {
      low = subst (λ z. z ≤ℤ (pos (scale k 0) *ℤ jacobian k xs x)) (sym (weighted lo))
          (subst (λ z. (f *ℤ (w *ℤ lo)) ≤ℤ z) (scaled-is-J k xs x) (grow (fold k * fold k) (scaled-above (shape_of k) (shape-lawful k) c full (rows_of k x) sized lo l.below)));
      high = subst (λ z. (pos (scale k 0) *ℤ jacobian k xs x) ≤ℤ z) (sym (weighted hi))
          (subst (λ z. z ≤ℤ (f *ℤ (w *ℤ hi))) (scaled-is-J k xs x) (grow (fold k * fold k) (scaled-below (shape_of k) (shape-lawful k) c full (rows_of k x) sized hi g.above)));
    }
  where
    f : ℤ
    f = pos (fold k * fold k)

    w : ℤ
    w = pos (mass (spread (shape_of k).counts (rows_of k x)))

    weighted : (z : ℤ) → pos (factor k x) *ℤ z ≡ f *ℤ (w *ℤ z)
    weighted z = ap (λ (n : ℕ). pos (fold k * fold k * n) *ℤ z) (sym (mass-is k x)) ∙ *ℤ-assoc f w z

    c : List ℤ
    c = control_values k xs

    full : length c ≡ length (shape_of k).entries
    full = values_length k xs ∙ entries-count k

    sized : Sized (shape_of k).sizes (rows_of k x)
    sized = (place-point k x).sized
