-- Records of ten-node triangles for ./bench.
--   read_count l      == how many whole records there are, 800 at most
--   read_coords l at  == the coordinates that are read from the bytes l from the place `at` on
-- Definitions only.
use Rattle.std.specs.Prelude.{cond, List, ℕ, ◌+◌, ◌*◌, ◌/◌, ltb, ℤ, length}
use Rattle.algebra.specs.Fill.{list_to}
use Rattle.endian.specs.Numbers.{signed_number, part}

abbrev pub read_count : List ℕ → ℕ
read_count l = cond (ltb (length l / 84) 800) (length l / 84) 800

abbrev pub read_coords : List ℕ → ℕ → List ℤ
read_coords l at = list_to 20 (λ k. signed_number (part (at + 4 + 4 * k) 4 l))
