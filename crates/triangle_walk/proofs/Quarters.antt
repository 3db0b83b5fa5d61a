-- The code's walk of a triangle's cell is the walk of the law; S is the shape of a triangle, of any degree.
--   first-corner   : the first bad corner that the code finds is the law's
--   quarter_walk q n s == the law's walk of quarter q of the cell, where n cuts are left for the cell
--   quarter-is     : the walk of a quarter, from what the code hands over
--   next-is        : the walk of one quarter more
--   quarters-are   : the four quarters, as the code walks them
--   cell-few, quarter-few, more-few : a walk of a cell, of a quarter, and of one quarter more counts few cells
-- Assumes nothing.
use mathlib.Core.Path.{◌≡◌, refl, sym, ◌∙◌, ap}
use mathlib.Core.Bool.{Bool}
use mathlib.Core.List.{List}
use Prim.Native.Nat.{ℕ, ◌+◌, ◌-◌}
use native.Mathlib.Omega.{arith}
use lib.IntN.{ℤ}
use Rattle.forms.specs.Cuttings.{Four, first, second, third, fourth}
use Rattle.forms.specs.Rows.{Row}
use Rattle.forms.specs.Shapes.{Shape, tips, cut_to}
use Rattle.forms.specs.Triangles.{triangle}
use Rattle.corners.specs.First.{nothing, better}
use Rattle.corners.specs.declared.First.{First}
use Rattle.steps.specs.Steps.{merge, lowered}
use Rattle.steps.specs.declared.Walk.{Walk}
use Rattle.corners.specs.Triangles as code
use Rattle.walks.specs.Walk.{one, both, first_bad, first_corner, bad_corner, walk, cuts}
use Rattle.walks.specs.Triangles.{Corners, triangle_chart}
use Rattle.walks.specs.Room.{Few}
use Rattle.walks.proofs.Cases.{run_more}
use Rattle.walks.proofs.Charts.{Charted}
use Rattle.walks.proofs.Room.{few-of, few-merge}
use Rattle.triangle_walk.specs.Walks.{corners, cell_walk, Room}
use Rattle.triangle_walk.proofs.Places.{column_of, row_of, up_of, sub-corners}

better-nothing : (f : First) → better nothing f ≡ f
unfolding better
better-nothing f = refl

pub first-corner : (n : ℕ) (degrees : List Row) (place : List ℕ → ℕ) (l : ℕ) (p : Corners) (c : List ℤ)
    → let S = triangle n degrees place in code.first_bad (tips S) c l p.xs p.ys ≡ first_corner S triangle_chart l p c
unfolding code.first_bad first_bad bad_corner
first-corner n degrees place l p c =
    let at = code.at (tips (triangle n degrees place)) c l p.xs p.ys in
    sym (ap (λ (f : First). better (better f (at 1)) (at 2)) (better-nothing (at 0)))

pub cell-few : {S : Shape} {n l i j : ℕ} {up : Bool} {c : List ℤ} {w : Walk} → Charted S triangle_chart → (s : ℕ) → Room S n l i j up c
    → w ≡ cell_walk S n l s i j up c
    → Few 1048576 w
cell-few {S} {n} {l} {i} {j} {up} {c} h s r e = few-of S triangle_chart h n l s (corners i j up) c (let d = r.deep in omega arith) e

-- ---- the quarters of a cell at a place
module _ {S : Shape} {n l i j : ℕ} {up : Bool} {c : List ℤ} (room : Room S n l i j up c) where
  abbrev pub quarter_walk : Four → ℕ → Walk
  quarter_walk q s = walk S triangle_chart (n - 1) (l + 1) s (triangle_chart.sub q (corners i j up)) (cut_to S q c)

  pub quarter-is : (q : Four) (s : ℕ) {x y : ℕ} {v : List ℤ} {w : Walk}
      → v ≡ cut_to S q c
      → x ≡ column_of q up i
      → y ≡ row_of q up j
      → w ≡ cell_walk S (n - 1) (l + 1) s x y (up_of q up) v
      → w ≡ quarter_walk q s
  quarter-is q s e f g h =
      h ∙ rw (e, f, g) (ap (λ (p : Corners). walk S triangle_chart (n - 1) (l + 1) s p (cut_to S q c))
      (sub-corners q i j up room.wide.before room.high.before))

  -- the walk a of the quarters before it, and that of quarter q
  pub next-is : (q : Four) (s : ℕ) (a : Walk) {x y : ℕ} {v : List ℤ} {w : Walk}
      → v ≡ cut_to S q c
      → x ≡ column_of q up i
      → y ≡ row_of q up j
      → w ≡ merge a (cell_walk S (n - 1) (l + 1) (lowered s a.best) x y (up_of q up) v)
      → w ≡ merge a (quarter_walk q (lowered s a.best))
  next-is q s a e f g h = h ∙ ap (merge a) (quarter-is q (lowered s a.best) e f g refl)

  pub quarters-are : (stop : ℕ) {p q r w : Walk}
      → p ≡ quarter_walk first stop
      → q ≡ merge p (quarter_walk second (lowered stop p.best))
      → r ≡ merge q (quarter_walk third (lowered stop q.best))
      → w ≡ merge r (quarter_walk fourth (lowered stop r.best))
      → w ≡ cuts S triangle_chart (n - 1) l stop (corners i j up) c
  quarters-are stop p-is q-is r-is w-is =
      run_more (both (both (one first) (one second)) (one third)) fourth quarter_walk stop
      (run_more (both (one first) (one second)) third quarter_walk stop (run_more (one first) second quarter_walk stop p-is q-is) r-is) w-is

  pub quarter-few : Charted S triangle_chart → {w : Walk} (q : Four) (s : ℕ) → w ≡ quarter_walk q s → Few 1048576 w
  quarter-few h q s e =
      few-of S triangle_chart h (n - 1) (l + 1) s (triangle_chart.sub q (corners i j up)) (cut_to S q c) (let d = room.deep in omega arith) e

  -- one quarter more
  pub more-few : Charted S triangle_chart → {m : ℕ} {a w : Walk} (q : Four) (s : ℕ) → Few m a
      → w ≡ merge a (quarter_walk q s)
      → Few (m + 1048576) w
  more-few h q s p e = few-merge e p (quarter-few h q s refl)
