-- What the code of `floor_verdict` computes on its way.
--   shifted_by less c == the six values of c, each 100 times and less the given number
--   Room c less      == what they need: 400·65536², and 2·99 times the largest S, 8·65536²
-- Definitions only.
use Rattle.std.specs.Prelude.{List, ℤ, pos, ◌-ℤ◌, ◌*ℤ◌}
use Rattle.algebra.specs.Within.{Within, Each}
use Rattle.algebra.specs.Fill.{list_to}
use Rattle.element.specs.Control.{at}

abbrev pub shifted_by : ℤ → List ℤ → List ℤ
shifted_by less c = list_to 6 (λ k. pos 100 *ℤ at c k -ℤ less)

pub record Room (c : List ℤ) (less : ℤ) : Type 0 where
  pub values : Each 1717986918400 c
  pub share : Within 6803228196864 less
