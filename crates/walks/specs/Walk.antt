-- One walk over the cells of any shape (01: "A cell that does not pass is split in four, at most to the level limit"): a cell
-- that passes is one cell; a cell with a bad corner answers its first one and is not cut; at the limit a cell is left as it is;
-- any other is cut, and each quarter is walked no deeper than the level of the first bad point known.
--   Spot          == a column and a row of a level's grid
--   Plan          == in which order the quarters are walked, and how their answers are merged
--   run P f stop  == the walks f of the quarters, in the order P, each to the limit that those before it left
--   Chart         == a way of keeping places: where the corners of each cell stand on the grid of its level
--   first_corner   == the first bad corner of a cell
--   walk n l stop p c == the walk of the cell c of level l at the place p, n cuts at most, none below the level stop
--   cuts n l stop p c == the walk of its quarters
--   answer L w    == the verdict that a walk under the limit L shows
-- Definitions only.
use Rattle.std.specs.Prelude.{cond, ◌||◌, List, ℕ, zero, suc, ◌+◌, leb, eqb, ℤ, length}
use Rattle.forms.specs.Cuttings.{Four}
use Rattle.forms.specs.Shapes.{Shape, pass, cut_to, corner_value}
use Rattle.judge.specs.Verdict.{Answer, is_valid, is_invalid, is_undecided}
use Rattle.corners.specs.First.{nothing, better, corner}
use Rattle.corners.specs.declared.First.{First}
use Rattle.steps.specs.Steps.{leaf, merge, lowered}
use Rattle.steps.specs.declared.Walk.{Walk}

pub record Spot : Type 0 where
  pub i : ℕ
  pub j : ℕ

-- ---- the order of the quarters
pub data Plan : Type 0 where
  one : Four → Plan
  both : Plan → Plan → Plan

abbrev pub run : Plan → (Four → ℕ → Walk) → ℕ → Walk
run (one q) f stop = f q stop
run (both P Q) f stop = merge (run P f stop) (run Q f (lowered stop (run P f stop).best))

pub record Chart : Type 1 where
  pub Place : Type 0
  -- the place of the whole element, and of a quarter
  pub start : Place
  pub sub : Four → Place → Place
  -- where corner k stands
  pub spot : Place → ℕ → Spot
  pub plan : Plan

module _ (S : Shape) (G : Chart) where
  unfoldable pub bad_corner : ℕ → G.Place → List ℤ → ℕ → First
  bad_corner l p c k = corner (corner_value S k c) l (G.spot p k).i (G.spot p k).j

  -- the first bad one of the first k corners
  unfoldable pub first_bad : ℕ → G.Place → List ℤ → ℕ → First
  first_bad l p c zero = nothing
  first_bad l p c (suc k) = better (first_bad l p c k) (bad_corner l p c k)

  abbrev pub first_corner : ℕ → G.Place → List ℤ → First
  first_corner l p c = first_bad l p c (length S.corners)

  unfoldable pub walk : ℕ → ℕ → ℕ → G.Place → List ℤ → Walk
  walk zero l stop p c = cond (pass S c) (leaf l nothing 0) (leaf l (first_corner l p c) 1)
  walk (suc n) l stop p c =
      cond (pass S c) (leaf l nothing 0)
      (cond ((first_corner l p c).bad || leb stop l) (leaf l (first_corner l p c) 1)
      (run G.plan (λ q s. walk n (l + 1) s (G.sub q p) (cut_to S q c)) stop))

  abbrev pub cuts : ℕ → ℕ → ℕ → G.Place → List ℤ → Walk
  cuts n l stop p c = run G.plan (λ q s. walk n (l + 1) s (G.sub q p) (cut_to S q c)) stop

-- ---- the verdict
abbrev pub answer : ℕ → Walk → Answer
answer L w =
    cond w.best.bad (is_invalid w.best.level w.best.i w.best.j w.best.value)
    (cond (eqb w.failing 0) (is_valid w.deep w.cells) (is_undecided L w.failing))
