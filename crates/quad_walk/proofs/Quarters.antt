-- The code's walk of a quad's cell is the walk of the law.
--   first-corner   : the first bad corner that the code finds is the law's
--   quarter_walk n l i j c q s == the law's walk of quarter q of a cell to the limit s, with n cuts to go
--   quarter-is     : the walk of a quarter, from what the code hands over
--   half_is        : the walk of a half is that of its two quarters
--   halves_are, quarters-are : the halves of a cell, and the quarters of a half, as the code walks them
--   cell-few, half-few : a walk counts few cells
-- Assumes nothing.
use mathlib.Core.Path.{◌≡◌, refl, ◌∙◌, ap}
use mathlib.Core.List.{List}
use Prim.Native.Nat.{ℕ, ◌+◌, ◌*◌}
use native.Mathlib.Nat as N
use native.Mathlib.Omega.{arith}
use lib.IntN.{ℤ}
use Rattle.forms.specs.Cuttings.{Four, first, second, third, fourth}
use Rattle.forms.specs.Shapes.{cut_to}
use Rattle.forms.specs.Quads.{Half, lower, upper, along_u, along_v, quarter_of, quad}
use Rattle.corners.specs.First.{nothing, better}
use Rattle.corners.specs.declared.First.{First}
use Rattle.steps.specs.Steps.{merge, lowered}
use Rattle.steps.specs.declared.Walk.{Walk}
use Rattle.quad_cuts.specs.Corners as code
use Rattle.quad_cuts.specs.Halves.{half_u, half_v}
use Rattle.walks.specs.Walk.{one, both, run, first_bad, first_corner, bad_corner, walk, cuts}
use Rattle.walks.specs.Quads.{step, quad_chart}
use Rattle.walks.specs.Room.{Few}
use Rattle.walks.proofs.Cases.{run-both, run_more}
use Rattle.walks.proofs.Quads.{quad-charted}
use Rattle.walks.proofs.Room.{few-of, few-merge}
use Rattle.quad_walk.specs.Walks.{Room, Halfway, spot, cell_walk, half_walk}
use Rattle.quad_walk.proofs.Places.{stands}

abbrev pub quarter_walk : ℕ → ℕ → ℕ → ℕ → List ℤ → Four → ℕ → Walk
quarter_walk n l i j c q s = walk quad quad_chart n (l + 1) s (quad_chart.sub q (spot i j)) (cut_to quad q c)

better-nothing : (f : First) → better nothing f ≡ f
unfolding better
better-nothing f = refl

module _ (l i j : ℕ) (c : List ℤ) where
  pub first-corner : code.first_bad c l i j ≡ first_corner quad quad_chart l (spot i j) c
  unfolding code.first_bad first_bad bad_corner
  first-corner = rw (N.add-zero i, N.add-zero j, better-nothing (code.at c 0 l i j)) refl

  pub quarter-is : (q : Four) (n s : ℕ) {x y : ℕ} {v : List ℤ} {w : Walk}
      → v ≡ cut_to quad q c
      → x ≡ 2 * i + step (along_u q)
      → y ≡ 2 * j + step (along_v q)
      → w ≡ cell_walk n (l + 1) s x y v
      → w ≡ quarter_walk n l i j c q s
  quarter-is q n s e f g h = h ∙ rw (e, f, g)

  pub half_is : (h : Half) (n stop : ℕ) {x y : ℕ} {v : List ℤ} {w : Walk}
      → v ≡ half_u h c
      → x ≡ 2 * i + step h
      → y ≡ 2 * j
      → w ≡ half_walk n (l + 1) stop x y v
      → w ≡ run (both (one (quarter_of h lower)) (one (quarter_of h upper))) (quarter_walk n l i j c) stop
  half_is h n stop {x} {y} {v} e f g k =
      let s = stands h lower in let t = stands h upper in
      let su = s.along-u in let sv = s.along-v in let tu = t.along-u in let tv = t.along-v in
      run_more (one (quarter_of h lower)) (quarter_of h upper) (quarter_walk n l i j c) stop
      (quarter-is (quarter_of h lower) n stop (ap (half_v lower) e ∙ s.half_of c) (omega arith) (omega arith) refl)
      (k ∙ ap (merge (cell_walk n (l + 1) stop x y (half_v lower v)))
      (quarter-is (quarter_of h upper) n _ (ap (half_v upper) e ∙ t.half_of c) (omega arith) (omega arith) refl))

  pub halves_are : (n stop : ℕ) {s : ℕ} {p q w : Walk}
      → p ≡ run (both (one first) (one third)) (quarter_walk n l i j c) stop
      → s ≡ lowered stop p.best
      → q ≡ run (both (one second) (one fourth)) (quarter_walk n l i j c) s
      → w ≡ merge p q
      → w ≡ cuts quad quad_chart n l stop (spot i j) c
  halves_are n stop p-is s-is q-is w-is =
      run-both (both (one first) (one third)) (both (one second) (one fourth)) (quarter_walk n l i j c) stop p-is s-is q-is w-is

-- ---- the two quarters of a half, as the code walks them
cell_same : (l s i j : ℕ) {m n : ℕ} {a b : List ℤ} → m ≡ n → a ≡ b → cell_walk m l s i j a ≡ cell_walk n l s i j b
cell_same l s i j e f = rw (e, f) refl

pub quarters-are : (n l stop i j : ℕ) (v : List ℤ) {m : ℕ} {a b : List ℤ} {p w : Walk} → m ≡ n
    → a ≡ half_v lower v
    → p ≡ cell_walk m l stop i j a
    → b ≡ half_v upper v
    → w ≡ merge p (cell_walk m l (lowered stop p.best) i (j + 1) b)
    → w ≡ half_walk n l stop i j v
quarters-are n l stop i j v {p = p} e f h g k =
    k ∙ ap (merge p) (cell_same l (lowered stop p.best) i (j + 1) e g)
    ∙ ap (λ (p : Walk). merge p (cell_walk n l (lowered stop p.best) i (j + 1) (half_v upper v))) (h ∙ cell_same l stop i j e f)

-- ---- cells are few
pub cell-few : {n l i j : ℕ} {c : List ℤ} {w : Walk} (s : ℕ) → Room n l i j c → w ≡ cell_walk n l s i j c → Few 1048576 w
cell-few {n} {l} {i} {j} {c} s r e = few-of quad quad_chart quad-charted n l s (spot i j) c (let d = r.deep in omega arith) e

pub half-few : {n l i j : ℕ} {v : List ℤ} {w : Walk} (s : ℕ) → Halfway n l i j v → w ≡ half_walk n l s i j v → Few 2097152 w
half-few s r e = few-merge e (cell-few s r.low refl) (cell-few _ r.high refl)
