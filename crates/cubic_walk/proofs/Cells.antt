-- What the walk over the cells of a ten-node triangle has of its own: its chart and its room.
--   charted        : its cells stand where a triangle's do
--   start-room     : values within 2^42 have room for five cuts
-- Assumes nothing.
use mathlib.Core.Bool.{true}
use mathlib.Core.List.{List}
use Prim.Native.Nat.{ℕ, ◌≤◌}
use lib.Dec.{lit≤}
use lib.IntN.{ℤ}
use Rattle.algebra.specs.Within.{Each}
use Rattle.algebra.proofs.Within.{each-≤}
use Rattle.forms.specs.Triangles.{ten, degrees10, place10}
use Rattle.walks.specs.Triangles.{triangle_chart}
use Rattle.walks.specs.Room.{cap}
use Rattle.walks.proofs.Charts.{Charted}
use Rattle.walks.proofs.Triangles.{triangle-charted}
use Rattle.triangle_walk.specs.Walks.{Room}
use Rattle.triangle_walk.proofs.Places.{room_of}

pub charted : Charted ten triangle_chart
charted = triangle-charted 4 degrees10 place10

cap-five : 4398046511104 ≤ cap 16 5
unfolding cap
cap-five = lit≤ tt

pub start-room : (n : ℕ) (c : List ℤ) → n ≤ 5 → Each 4398046511104 c → Room ten n 0 0 0 true c
start-room n c h p = room_of ten n 5 c h (lit≤ tt) (each-≤ p cap-five)
