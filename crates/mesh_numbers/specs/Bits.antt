-- Flags: eight to a byte.
--   bit_at i x      == the bit i of a number
--   with_bit i x    == the number with this bit set
--   bit_b fs k      == the flag k: the bit k % 8 of the byte k / 8
--   set_bit fs k    == the flags with this one set
--   width fs       == how many flags there are
--   zeros w        == w bytes of flags that are clear
-- Definitions only.
use Rattle.std.specs.Prelude.{Bool, cond, List, ℕ, ◌+◌, ◌*◌, ◌/◌, ◌%◌, ◌^◌, eqb, length, get_or, set, replicate}

unfoldable pub bit_at : ℕ → ℕ → Bool
bit_at i x = eqb (x / 2 ^ i % 2) 1

unfoldable pub with_bit : ℕ → ℕ → ℕ
with_bit i x = cond (bit_at i x) x (x + 2 ^ i)

unfoldable pub bit_b : List ℕ → ℕ → Bool
bit_b fs k = bit_at (k % 8) (get_or fs (k / 8) 0)

unfoldable pub set_bit : List ℕ → ℕ → List ℕ
set_bit fs k = set fs (k / 8) (with_bit (k % 8) (get_or fs (k / 8) 0))

unfoldable pub width : List ℕ → ℕ
width fs = 8 * length fs

abbrev pub zeros : ℕ → List ℕ
zeros w = replicate w 0
