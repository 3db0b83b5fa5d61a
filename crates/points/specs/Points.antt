-- Numbers of the nodes, and of the control points, along one coordinate, as the code keeps them.
--   Ten n l         == l has ten numbers, each within n
--   less xs k z      == the number at place k minus z; past the end stands 0
--   place g k        == the place of node k among nodes with a gap: from g on, nodes stand one earlier
--   coordinates xs g a == the coordinates of nine nodes along x (a = 0) or y (a = 1), and 0
--   step p a b       == the difference from the point a to the point b, along one coordinate
--   point u v k      == the point k, from the points u along x and v along y
--   across u v a b c d == det of the differences from a to b and from c to d
-- Definitions only.
use Rattle.std.specs.Prelude.{◌≡◌, cond, List, ℕ, ◌+◌, ◌*◌, ◌-◌, ltb, ℤ, pos, ◌-ℤ◌, length}
use Rattle.algebra.specs.Within.{Each}
use Rattle.algebra.specs.Fill.{list_to}
use Rattle.element.specs.Plane.{Vec, ◌-ᵥ◌, det}
use Rattle.element.specs.Control.{at}

pub record Ten (n : ℕ) (l : List ℤ) : Type 0 where
  pub long : length l ≡ 10
  pub each : Each n l

abbrev pub less : List ℤ → ℕ → ℤ → ℤ
less xs k z = cond (ltb k (length xs)) (at xs k -ℤ z) (pos 0)

abbrev pub place : ℕ → ℕ → ℕ
place g k = cond (ltb k g) k (k - 1)

abbrev pub coordinates : List ℤ → ℕ → ℕ → List ℤ
coordinates xs g a = list_to 10 (λ k. cond (ltb k 9) (at xs (2 * place g k + a)) (pos 0))

-- ---- differences
abbrev pub step : List ℤ → ℕ → ℕ → ℤ
step p a b = at p b -ℤ at p a

abbrev pub point : List ℤ → List ℤ → ℕ → Vec
point u v k = record { x = at u k; y = at v k }

abbrev pub across : List ℤ → List ℤ → ℕ → ℕ → ℕ → ℕ → ℤ
across u v a b c d = det (point u v b -ᵥ point u v a) (point u v d -ᵥ point u v c)
