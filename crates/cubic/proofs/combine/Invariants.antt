-- `cubic::combine` meets its contract: the loop keeps that the first n places are filled. Assumes nothing.
use mathlib.Core.List.{[]}
use lib.ListN.{get_or}
use Rattle.algebra.specs.Fill.{Filled}
use Rattle.forms.specs.Triangles.{degrees10}
use Rattle.cubic.specs.Points.{value_of}
use Rattle.cubic.proofs.combine.Given as goal

abbrev pub invariant-loop-n : goal.invariant-loop-n
invariant-loop-n l = Filled 15 l.n (λ m. value_of l.x l.y (get_or degrees10 m [])) l.c
