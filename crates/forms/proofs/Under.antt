-- Cells under other cells: where each value of c is at most n times that of c', what passes of c passes of c'.
--   Under n c c'   : that, of each value
--   map-under      : values that two functions make of one list
--   under-pass, under-cut, under-cell, under-fits : the sign test, quarters, cells of any level, and cuttings
-- For every shape, and n above 0. Assumes nothing.
use mathlib.Core.Path.{sym, subst, subst₂}
use mathlib.Core.List.{List, [], ◌∷◌, map}
use Prim.Native.Nat.{ℕ, zero, suc, ◌<◌}
use lib.Dec.{T}
use lib.IntN.{ℤ, pos, ◌*ℤ◌, *ℤ_comm, zero-*ℤ}
use lib.ListN.{get_or}
use lib.Signed.{◌≤ℤ◌, ◌<ℤ◌, le_z, lt_z, ≤ℤ_refl}
use Rattle.algebra.proofs.Truth.{T_and, and_T}
use Rattle.algebra.proofs.Order.{0<pos, 0≤pos, 0≤*, ≤_trans, <-suc, suc-<, +ℤ-mono, *ℤ-mono, *ℤ-cancel-≤, positive-factor}
use Rattle.forms.specs.Rows.{Row, weigh}
use Rattle.forms.specs.Cells.{dot, positives, non_negatives}
use Rattle.forms.specs.Cuttings.{Four, first, second, third, fourth, Cutting, keep, cut, Fits}
use Rattle.forms.specs.Shapes.{Shape, tips, pass, cut_to}
use Rattle.forms.specs.Grids.{cell_at}
use Rattle.forms.proofs.Rows.{weigh-*}
use Rattle.forms.proofs.Cells.{get_d-quarter, non_negatives-at}

abbrev pub Under : ℕ → List ℤ → List ℤ → Type 0
Under n c c' = (i : ℕ) → get_or c i (pos 0) ≤ℤ (pos n *ℤ get_or c' i (pos 0))

-- past the end of both lists stands 0
pub map-under : (n : ℕ) (f g : ℤ → ℤ) → ((z : ℤ) → f z ≤ℤ (pos n *ℤ g z)) → (c : List ℤ) → Under n (map f c) (map g c)
map-under n f g h [] i = 0≤* (0≤pos n) (0≤pos 0)
map-under n f g h (z ∷ c) zero = h z
map-under n f g h (z ∷ c) (suc i) = map-under n f g h c i

weigh-mono : (r : Row) (f g : ℕ → ℤ) → ((i : ℕ) → f i ≤ℤ g i) → weigh r f ≤ℤ weigh r g
unfolding weigh
weigh-mono [] f g h = ≤ℤ_refl (pos 0)
weigh-mono (x ∷ r) f g h =
    +ℤ-mono (subst₂ ◌≤ℤ◌ (*ℤ_comm (f 0) (pos x)) (*ℤ_comm (g 0) (pos x)) (*ℤ-mono (0≤pos x) (h 0)))
    (weigh-mono r (λ i. f (suc i)) (λ i. g (suc i)) (λ i. h (suc i)))

non_negatives-of : (c : List ℤ) → ((i : ℕ) → pos 0 ≤ℤ get_or c i (pos 0)) → T (non_negatives c)
non_negatives-of [] h = tt
non_negatives-of (z ∷ c) h = and_T (le_z (pos 0) z) (non_negatives c) (h 0).le (non_negatives-of c (λ i. h (suc i)))

module _ (n : ℕ) (some : 0 < n) where
  not-below : (z y : ℤ) → pos 0 ≤ℤ z → z ≤ℤ (pos n *ℤ y) → pos 0 ≤ℤ y
  not-below z y h u =
      *ℤ-cancel-≤ (pos 0) y (pos n) (0<pos some) (subst₂ ◌≤ℤ◌ (sym (zero-*ℤ (pos n))) (*ℤ_comm (pos n) y) (≤_trans h u))

  above : (z y : ℤ) → pos 0 <ℤ z → z ≤ℤ (pos n *ℤ y) → pos 0 <ℤ y
  above z y h u = positive-factor n y (suc-< (pos 0) (pos n *ℤ y) (≤_trans (<-suc h) u))

  under-positives : (ts : List ℕ) (c c' : List ℤ) → Under n c c' → T (positives ts c) → T (positives ts c')
  under-positives [] c c' u t = tt
  under-positives (i ∷ ts) c c' u t =
      let (a, b) = T_and (lt_z (pos 0) (get_or c i (pos 0))) (positives ts c) t in
      and_T (lt_z (pos 0) (get_or c' i (pos 0))) (positives ts c')
      (above (get_or c i (pos 0)) (get_or c' i (pos 0)) (record { lt = a }) (u i)).lt (under-positives ts c c' u b)

  module _ (S : Shape) where
    pub under-pass : (c c' : List ℤ) → Under n c c' → T (pass S c) → T (pass S c')
    under-pass c c' u t =
        let (a, b) = T_and (positives (tips S) c) (non_negatives c) t in
        and_T (positives (tips S) c') (non_negatives c') (under-positives (tips S) c c' u a)
        (non_negatives-of c' (λ i. not-below (get_or c i (pos 0)) (get_or c' i (pos 0)) (non_negatives-at c b i) (u i)))

    pub under-cut : (q : Four) (c c' : List ℤ) → Under n c c' → Under n (cut_to S q c) (cut_to S q c')
    under-cut q c c' u i =
        let r : Row = get_or (S.table q) i [] in
        subst₂ (λ a b. a ≤ℤ (pos n *ℤ b)) (sym (get_d-quarter (S.table q) c i)) (sym (get_d-quarter (S.table q) c' i))
        (subst (λ z. dot r c ≤ℤ z) (weigh-* r (pos n) (λ j. get_or c' j (pos 0)))
        (weigh-mono r (λ j. get_or c j (pos 0)) (λ j. pos n *ℤ get_or c' j (pos 0)) u))

    pub under-cell : (path : List Four) (c c' : List ℤ) → Under n c c' → Under n (cell_at S path c) (cell_at S path c')
    under-cell [] c c' u = u
    under-cell (q ∷ path) c c' u = under-cell path (cut_to S q c) (cut_to S q c') (under-cut q c c' u)

    pub under-fits : (t : Cutting) (c c' : List ℤ) → Under n c c' → Fits (pass S) (cut_to S) c t → Fits (pass S) (cut_to S) c' t
    under-fits keep c c' u f = under-pass c c' u f
    under-fits (cut t v w x) c c' u (a, b, d, e) = (
      under-fits t (cut_to S first c) (cut_to S first c') (under-cut first c c' u) a,
      under-fits v (cut_to S second c) (cut_to S second c') (under-cut second c c' u) b,
      under-fits w (cut_to S third c) (cut_to S third c') (under-cut third c c' u) d,
      under-fits x (cut_to S fourth c) (cut_to S fourth c') (under-cut fourth c c' u) e,
    )
