-- Levels of a subject: passing and bad points.
--   passes-level, level-passes : all cells of a level pass exactly when the test of the level holds
--   passes_up        : if all cells of a level pass, so do those of each deeper one
--   passes-positive  : then the value is positive at every point
--   passes-no-bad    : and no grid point of any level is bad
--   bad-up           : a bad point of a level is a bad point of each deeper one
-- For every faithful subject. Assumes nothing.
use mathlib.Core.Path.{◌≡◌, refl, sym, ◌∙◌, ap, subst}
use mathlib.Core.List.{List}
use Prim.Native.Nat.{ℕ, zero, suc, ◌+◌, ◌*◌, ◌-◌, ◌≤◌, ◌<◌}
use native.Mathlib.Omega.{arith}
use native.Mathlib.Nat as N
use lib.Dec.{T}
use lib.IntN.{ℤ, pos, ◌*ℤ◌, *ℤ-zero}
use lib.Signed.{◌≤ℤ◌, ◌<ℤ◌, clash_ℤ}
use Rattle.algebra.proofs.Ring.{1-*ℤ}
use Rattle.algebra.proofs.Order.{nonpositive-transfer}
use Rattle.forms.specs.Rows.{Row}
use Rattle.forms.specs.Forms.{times, power}
use Rattle.forms.specs.Cuttings.{level}
use Rattle.forms.specs.Shapes.{spread, pass, cut_to, scaled, Point}
use Rattle.forms.specs.Grids.{OnGrid, grid_point}
use Rattle.forms.proofs.Cuttings as C
use Rattle.forms.proofs.Shapes.{inherit, level-point, scaled-times}
use Rattle.forms.proofs.Grids.{grid-point, grid-nested}
use Rattle.judge.specs.Verdict.{Subject, AllPass}
use Rattle.judge.specs.Faithful.{value_at, Faithful}

module _ (s : Subject) (f : Faithful s) where
  abbrev pub Level : ℕ → Type 0
  Level d = T (level (pass s.shape) (cut_to s.shape) d s.values)

  pub passes-level : (d : ℕ) → AllPass s d → Level d
  passes-level d p = C.cells-level (pass s.shape) (cut_to s.shape) d s.values p

  pub level-passes : (d : ℕ) → Level d → AllPass s d
  level-passes d t = C.level-cells (pass s.shape) (cut_to s.shape) d s.values t

  pub passes_up : (d e : ℕ) → d ≤ e → AllPass s d → AllPass s e
  passes_up d e h p =
      level-passes e (C.level-up (pass s.shape) (cut_to s.shape) (inherit s.shape f.lawful) d e s.values (passes-level d p) h)

  pub passes-positive : (d : ℕ) → AllPass s d → (ws : List Row) → Point s.shape ws → pos 0 <ℤ scaled s.shape s.values ws
  passes-positive d p ws x = level-point s.shape f.lawful d s.values (passes-level d p) ws x

  pub passes-no-bad : (d : ℕ) → AllPass s d → (e i j : ℕ) → ¬ s.Bad e i j
  passes-no-bad d p e i j b =
      let (g, l) = f.bad_low e i j b in
      clash_ℤ (passes-positive d p (grid_point s.shape e i j) (grid-point s.shape f.lawful e i j g)) l

  -- ---- the grid of the next level holds the point too
  bad-next : (d i j : ℕ) → s.Bad d i j → s.Bad (suc d) (2 * i) (2 * j)
  bad-next d i j b =
      let (g, l) = f.bad_low d i j b in
      let (h, e) = grid-nested s.shape f.lawful d i j g in
      f.low_bad (suc d) (2 * i) (2 * j) h (subst (λ (ws : List Row). scaled s.shape s.values ws ≤ℤ pos 0) (sym e) (double (grid_point s.shape d i j) l))
    where
      double : (ws : List Row) → scaled s.shape s.values ws ≤ℤ pos 0 → scaled s.shape s.values (times 2 ws) ≤ℤ pos 0
      double ws l =
          nonpositive-transfer (power 2 (spread s.shape.counts ws)) 1 (scaled s.shape s.values ws) (scaled s.shape s.values (times 2 ws)) (N.zero-lt-suc 0)
          (sym (1-*ℤ (scaled s.shape s.values (times 2 ws)) ∙ scaled-times s.shape f.lawful 2 s.values ws)) l

  pub bad-up : (n d i j : ℕ) → s.Bad d i j → (i' : ℕ) × (j' : ℕ) × s.Bad (n + d) i' j'
  bad-up zero d i j b = (i, j, subst (λ (e : ℕ). s.Bad e i j) (sym (N.zero-add d)) b)
  bad-up (suc n) d i j b =
      let (i', j', c) = bad-up n d i j b in
      (2 * i', 2 * j', subst (λ (e : ℕ). s.Bad e (2 * i') (2 * j')) (sym (N.suc-add n d)) (bad-next (n + d) i' j' c))
