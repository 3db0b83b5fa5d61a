-- The floor on distortion (02, Ask 3: "a point is bad when 100·J ≤ p·S, S the determinant of A1-A0 and A2-A0, and cells are tested on
-- 100 times the control value minus 2·p·S, scaled with the level"). J and S are read off the nodes.
--   straight xs      == S, the Jacobian of the straight-sided triangle
--   share p xs       == p·S
--   margin p xs x    == 100·J - p·S at the place x, times the weight of the place
--   Fallen p xs x    == 100·J ≤ p·S at the place x, both taken as often as its weight says
--   Clear p xs x     == 100·J > p·S there
--   FallenAt p xs d i j == 100·J ≤ p·S at the point (i, j) of the grid of level d
--   FirstFallen p xs d i j == d is the least level with such a point, and (i, j) its one with smallest j, then smallest i
--   ShiftedAt p xs d i j z == z is 100 times the scaled J at that point, less 2·p·S taken 4^d times
--   shift p xs d c   == the values c of level d, each 100 times and less 2·p·S taken 4^d times
--   shifted p xs     == the control values, shifted
--   floored p xs     == the triangle with the floor, as a subject of the verdict
-- Definitions only.
use Rattle.std.specs.Prelude.{◌≡◌, List, map, ℕ, ◌≤◌, ℤ, pos, ◌-ℤ◌, ◌*ℤ◌, ◌≤ℤ◌, ◌<ℤ◌}
use Rattle.element.specs.Kinds.{six, scale}
use Rattle.element.specs.Places.{Place, weight_of, AtGrid}
use Rattle.element.specs.Plane.{◌-ᵥ◌, det}
use Rattle.element.specs.Nodes.{A0, A1, A2}
use Rattle.element.specs.Jacobian.{jacobian, Shows}
use Rattle.element.specs.Control.{control_values}
use Rattle.judge.specs.Verdict.{Subject}
use Rattle.judge.specs.Elements.{subject_by}

unfoldable pub straight : List ℤ → ℤ
straight xs = det (A1 xs -ᵥ A0 xs) (A2 xs -ᵥ A0 xs)

abbrev pub share : ℕ → List ℤ → ℤ
share p xs = pos p *ℤ straight xs

-- ---- at a place: `jacobian` is the weight of the place times J
abbrev pub margin : ℕ → List ℤ → Place six → ℤ
margin p xs x = pos 100 *ℤ jacobian six xs x -ℤ pos (weight_of six x) *ℤ share p xs

abbrev pub Fallen : ℕ → List ℤ → Place six → Type 0
Fallen p xs x = (pos 100 *ℤ jacobian six xs x) ≤ℤ (pos (weight_of six x) *ℤ share p xs)

abbrev pub Clear : ℕ → List ℤ → Place six → Type 0
Clear p xs x = (pos (weight_of six x) *ℤ share p xs) <ℤ (pos 100 *ℤ jacobian six xs x)

pub record FallenAt (p : ℕ) (xs : List ℤ) (d i j : ℕ) : Type 0 where
  pub place : Place six
  pub at_point : AtGrid six d i j place
  pub fallen : Fallen p xs place

pub record FirstFallen (p : ℕ) (xs : List ℤ) (d i j : ℕ) : Type 0 where
  pub fallen : FallenAt p xs d i j
  pub least : (e i' j' : ℕ) → FallenAt p xs e i' j' → d ≤ e
  pub first_row : (i' j' : ℕ) → FallenAt p xs d i' j' → j ≤ j'
  pub first_column : (i' : ℕ) → FallenAt p xs d i' j → i ≤ i'

-- the scale of level d is 2·4^d
pub record ShiftedAt (p : ℕ) (xs : List ℤ) (d i j : ℕ) (z : ℤ) : Type 0 where
  pub scaled : ℤ
  pub shown : Shows six xs d i j scaled
  pub value : z ≡ pos 100 *ℤ scaled -ℤ pos (scale six d) *ℤ share p xs

-- ---- the cells
abbrev pub shift : ℕ → List ℤ → ℕ → List ℤ → List ℤ
shift p xs d c = map (λ z. pos 100 *ℤ z -ℤ pos (scale six d) *ℤ share p xs) c

abbrev pub shifted : ℕ → List ℤ → List ℤ
shifted p xs = shift p xs 0 (control_values six xs)

-- bad points and the value shown are those of the margin, and the cells those of the shifted values
abbrev pub floored : ℕ → List ℤ → Subject
floored p xs = subject_by six (margin p xs) (shifted p xs)
