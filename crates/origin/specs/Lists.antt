-- Coordinate lists that are taken where they stand.
--   Sound n xs     == two numbers for each of n nodes, within the limit as they stand or from the first node: neither code 3 nor code 4
-- n is the number given as the kind. Definitions only.
use Rattle.std.specs.Prelude.{List, ℕ, ℤ}
use Rattle.element.specs.Kinds.{kind_of}
use Rattle.element.specs.Refusals.{WrongLength, Outside}

abbrev pub Sound : ℕ → List ℤ → Type 0
Sound n xs = ¬ WrongLength n xs × ¬ Outside (kind_of n) xs
