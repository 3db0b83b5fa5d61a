-- What the walk over a triangle's cells answers, and what it needs; S is the shape of a triangle, of any degree.
--   ahead up k    == the column, or the row, after k where the cell points up, and before k where it points down
--   corners i j up == the corners of the cell whose first corner is the grid point (i, j): the second stands ahead of it in its row, the
--                    third in its column
--   cell_walk S n l stop i j up c == the walk of the cell there
--   least up      == the least first column, or row, of a cell: one that points down has one before it
--   Low m up k    == k and the column, or the row, ahead of it are at most m, and k is no less than that
--   Room S n l i j up c == what a walk of n cuts needs of its cell, its level and its place
-- Definitions only.
use Rattle.std.specs.Prelude.{Bool, true, false, List, [], ◌∷◌, ℕ, ◌+◌, ◌-◌, ◌≤◌, ℤ}
use Rattle.algebra.specs.Within.{Each}
use Rattle.forms.specs.Shapes.{Shape}
use Rattle.steps.specs.declared.Walk.{Walk}
use Rattle.walks.specs.Walk.{walk}
use Rattle.walks.specs.Triangles.{Corners, triangle_chart}
use Rattle.walks.specs.Room.{cap, span}

abbrev pub ahead : Bool → ℕ → ℕ
ahead true k = k + 1
ahead false k = k - 1

abbrev pub corners : ℕ → ℕ → Bool → Corners
corners i j up = record { xs = i ∷ ahead up i ∷ i ∷ []; ys = j ∷ j ∷ ahead up j ∷ [] }

abbrev pub cell_walk : Shape → ℕ → ℕ → ℕ → ℕ → ℕ → Bool → List ℤ → Walk
cell_walk S n l stop i j up c = walk S triangle_chart n l stop (corners i j up) c

abbrev pub least : Bool → ℕ
least true = 0
least false = 1

pub record Low (m : ℕ) (up : Bool) (k : ℕ) : Type 0 where
  pub here : k ≤ m
  pub there : ahead up k ≤ m
  pub before : least up ≤ k

pub record Room (S : Shape) (n l i j : ℕ) (up : Bool) (c : List ℤ) : Type 0 where
  pub small : Each (cap S.growth n) c
  pub deep : l + n ≤ 10
  pub wide : Low (span n) up i
  pub high : Low (span n) up j
