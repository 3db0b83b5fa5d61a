-- What makes a subject worth judging: its shape is lawful, and its bad points and what is shown there are the values of its cells'
-- form at the grid points.
--   value_at s d i j == the value of the form at the point (i, j) of the grid of level d
--   Faithful s      == the record
-- Definitions only.
use Rattle.std.specs.Prelude.{◌≡◌, ℕ, ℤ, pos, ◌≤ℤ◌}
use Rattle.forms.specs.Shapes.{scaled, Lawful}
use Rattle.forms.specs.Grids.{OnGrid, grid_point}
use Rattle.judge.specs.Verdict.{Subject}

abbrev pub value_at : Subject → ℕ → ℕ → ℕ → ℤ
value_at s d i j = scaled s.shape s.values (grid_point s.shape d i j)

pub record Faithful (s : Subject) : Type 0 where
  pub lawful : Lawful s.shape
  pub bad_low : (d i j : ℕ) → s.Bad d i j → OnGrid s.shape d i j × (value_at s d i j ≤ℤ pos 0)
  pub low_bad : (d i j : ℕ) → OnGrid s.shape d i j → value_at s d i j ≤ℤ pos 0 → s.Bad d i j
  pub shows_is : (d i j : ℕ) (z : ℤ) → s.Shows d i j z → z ≡ value_at s d i j
  pub is_shown : (d i j : ℕ) → OnGrid s.shape d i j → s.Shows d i j (value_at s d i j)
