-- Lists that stand for the numbers that a text says.
--   Stands k xs ys == xs stands for ys: the same where all of ys are i32, and outside for the kind k where one is none
--   Narrowed xs zs == zs starts with the numbers xs where they are all i32, and else is far apart
-- Definitions only.
use Rattle.std.specs.Prelude.{◌≡◌, List, ℤ, pos, length, take, replicate, set}
use Rattle.element.specs.Kinds.{Kind}
use Rattle.element.specs.Origin.{Unheld}
use Rattle.element.specs.Refusals.{Outside}

pub record Stands (k : Kind) (xs ys : List ℤ) : Type 0 where
  pub same : ¬ Unheld ys → xs ≡ ys
  pub far : Unheld ys → Outside k xs

-- the second node's x is as far from the first one's as no limit allows
pub record Narrowed (xs zs : List ℤ) : Type 0 where
  pub long : length zs ≡ 19
  pub same : ¬ Unheld xs → take (length xs) zs ≡ xs
  pub far : Unheld xs → zs ≡ set (replicate 19 (pos 0)) 2 (pos 2147483647)
