-- Numbers in bytes (01, "Element block": "Numbers are little-endian, signed ones two's complement").
--   Bytes l        == each number of the list is a byte
--   bytes w x      == the number x in w bytes, the lowest first
--   number l       == the number that the bytes l stand for
--   pattern m z    == the whole number z as one of m patterns: itself, and m more where it is below zero
--   signed m x     == the whole number of the pattern x: itself in the lower half, and m less in the upper
--   signed_bytes w z, signed_number l == the same in bytes, of which w have 256^w patterns
--   part at n l    == the n bytes of l from the place `at` on
--   over l at v    == l with the bytes v written over those from the place `at` on
-- Definitions only.
use Rattle.std.specs.Prelude.{cond, List, [], ◌∷◌, ◌++◌, ℕ, zero, suc, ◌+◌, ◌-◌, ◌*◌, ◌/◌, ◌%◌, ◌^◌, ◌<◌, ltb, ℤ, pos, negsuc, ◌-ℤ◌, length, get_or, take, drop}

-- past the list's end stands 0
pub record Bytes (l : List ℕ) : Type 0 where
  pub each : (k : ℕ) → get_or l k 0 < 256

-- ---- "Numbers are little-endian"
abbrev pub bytes : ℕ → ℕ → List ℕ
bytes zero x = []
bytes (suc w) x = x % 256 ∷ bytes w (x / 256)

abbrev pub number : List ℕ → ℕ
number [] = 0
number (b ∷ l) = b + 256 * number l

-- ---- "signed ones two's complement"
-- negsuc n is -(n + 1)
abbrev pub pattern : ℕ → ℤ → ℕ
pattern m (pos n) = n
pattern m (negsuc n) = m - suc n

abbrev pub signed : ℕ → ℕ → ℤ
signed m x = cond (ltb (2 * x) m) (pos x) (pos x -ℤ pos m)

abbrev pub signed_bytes : ℕ → ℤ → List ℕ
signed_bytes w z = bytes w (pattern (256 ^ w) z)

abbrev pub signed_number : List ℕ → ℤ
signed_number l = signed (256 ^ length l) (number l)

-- ---- places
abbrev pub part : ℕ → ℕ → List ℕ → List ℕ
part at n l = take n (drop at l)

abbrev pub over : List ℕ → ℕ → List ℕ → List ℕ
over l at v = take at l ++ (v ++ drop (at + length v) l)
