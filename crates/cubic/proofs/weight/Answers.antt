-- `cubic::weight` meets its contract: a part of twelve is small. Assumes nothing.
use mathlib.Core.Path.{◌∙◌, ap}
use lib.IntN.{pos}
use Prim.Native.Nat.{◌/◌}
use Rattle.algebra.proofs.Within.{st}
use Rattle.cubic.proofs.Counts.{twelfth-is}
use Rattle.cubic.proofs.weight.Goals as goal

pub returns : goal.returns
returns c =
    (st (twelfth-is c.multinomial.result) tt).same ∙ ap (λ m. pos (12 / m)) c.multinomial.ensures.rule
