-- What a turned numbering keeps of an answer (02, Ask 10: "the same verdict, level and cell count whenever both numberings are accepted,
-- and .. the set of bad grid points at that level is the turned set. The point named may differ"), and what a mirrored one makes of it.
--   Moved f P P'     == the set P' of grid points is the set P moved by f
--   SameVerdict k m B B' r r' == the answers r and r' have the same word, level and number of cells, and at every level the bad points
--                       B' of the element turned m times are the bad points B, turned m times
--   Unmoved k F v    == the number F that is read off the nodes at each place does not move with the numbering; the values v mean it
--   Overturned r     == the answer r is invalid at level 0, at the point (0, 0), with a value below zero there
-- Definitions only.
use Rattle.std.specs.Prelude.{◌≡◌, List, ℕ, ◌^◌, ℤ, pos, length, ◌<ℤ◌}
use Rattle.element.specs.Kinds.{Kind, value_count}
use Rattle.element.specs.Places.{Place}
use Rattle.element.specs.Cells.{Means}
use Rattle.judge.specs.Verdict.{is_invalid}
use Rattle.verdict.specs.Calls.{given}
use Rattle.verdict.specs.declared.Judged.{Judged}
use Rattle.turns.specs.Numbering.{turned, point_by, TurnedTo}

-- each of the points goes to one, and each has come from one
pub record Moved (f : ℕ × ℕ → ℕ × ℕ) (P P' : ℕ → ℕ → Type 0) : Type 0 where
  pub there : (i j : ℕ) → P i j → P' (f (i, j)).0 (f (i, j)).1
  pub only : (i' j' : ℕ) → P' i' j' → (i : ℕ) × (j : ℕ) × P i j × (f (i, j) ≡ (i', j'))

pub record SameVerdict (k : Kind) (m : ℕ) (B B' : ℕ → ℕ → ℕ → Type 0) (r r' : Judged) : Type 0 where
  pub word : r.word ≡ r'.word
  pub level : r.level ≡ r'.level
  pub cells : r.cells ≡ r'.cells
  pub bad : (d : ℕ) → Moved (point_by m k (2 ^ d)) (B d) (B' d)

-- F xs has a number for each place of the element xs, and v xs the values of its cells
pub record Unmoved (k : Kind) (F : List ℤ → Place k → ℤ) (v : List ℤ → List ℤ) : Type 0 where
  pub means : (xs : List ℤ) → Means k (F xs) (v xs)
  pub full : (xs : List ℤ) → length (v xs) ≡ value_count k
  pub same : (xs : List ℤ) (x y : Place k) → TurnedTo k x y → F (turned k xs) y ≡ F xs x

-- in every field
pub record Overturned (r : Judged) : Type 0 where
  pub value : ℤ
  pub below : value <ℤ pos 0
  pub told : r ≡ given (is_invalid 0 0 0 value)
