-- What the code asks of an element's nodes, by the limit and the corners of its kind.
--   corner_codes n ks xs == 4, where the coordinates are not within n; then 21, where two of the nodes ks stand at one place
-- Definitions only.
use Rattle.std.specs.Prelude.{List, ℕ, ℤ}
use Rattle.element.specs.Corners.{SameTwo}
use Rattle.element.specs.Refusals.{Codes, no_more, code, Astray}

abbrev pub corner_codes : ℕ → List ℕ → List ℤ → Codes ℕ
corner_codes n ks xs = code 4 (Astray n xs) (code 21 (SameTwo xs ks) no_more)
