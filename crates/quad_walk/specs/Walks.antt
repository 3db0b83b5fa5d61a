-- What the walk over a quad's cells answers, and what it needs.
--   spot i j      == the place of a cell with its lower left corner there
--   cell_walk n l stop i j c == the walk of a cell at that place
--   half_walk n l stop i j v == the walks of the two halves along v of a half v along u
--   Room n l i j c == what a walk of n cuts needs of its cell, its level and its place
--   Halfway n l i j v == what a walk of the two halves of v needs
-- Definitions only.
use Rattle.std.specs.Prelude.{List, ℕ, ◌+◌, ◌≤◌, ◌<◌, ℤ}
use Rattle.algebra.specs.Within.{Each}
use Rattle.forms.specs.Quads.{lower, upper, quad}
use Rattle.steps.specs.Steps.{merge, lowered}
use Rattle.steps.specs.declared.Walk.{Walk}
use Rattle.quad_cuts.specs.Halves.{half_v}
use Rattle.walks.specs.Walk.{Spot, walk}
use Rattle.walks.specs.Quads.{quad_chart}
use Rattle.walks.specs.Room.{cap, span}

abbrev pub spot : ℕ → ℕ → Spot
spot i j = record { i = i; j = j }

abbrev pub cell_walk : ℕ → ℕ → ℕ → ℕ → ℕ → List ℤ → Walk
cell_walk n l stop i j c = walk quad quad_chart n l stop (spot i j) c

-- "and each half along v"
abbrev pub half_walk : ℕ → ℕ → ℕ → ℕ → ℕ → List ℤ → Walk
half_walk n l stop i j v =
    let p = cell_walk n l stop i j (half_v lower v) in merge p (cell_walk n l (lowered stop p.best) i (j + 1) (half_v upper v))

pub record Room (n l i j : ℕ) (c : List ℤ) : Type 0 where
  pub small : Each (cap 64 n) c
  pub deep : l + n ≤ 4
  pub wide : i < span n
  pub high : j < span n

pub record Halfway (n l i j : ℕ) (v : List ℤ) : Type 0 where
  pub small : Each 576460752303423488 v
  pub low : Room n l i j (half_v lower v)
  pub high : Room n l i (j + 1) (half_v upper v)
