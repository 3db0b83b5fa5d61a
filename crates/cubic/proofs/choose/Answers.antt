-- `cubic::choose` meets its contract: the table is the binomials, which antt computes and compares. Assumes nothing.
use mathlib.Core.Path.{◌∙◌}
use Rattle.cubic.proofs.Counts.{pascal-is}
use Rattle.cubic.proofs.choose.Goals as goal

pub returns : goal.returns
returns c =
    c.wide.ensures ∙ pascal-is c.args.n c.args.k c.requires.0 c.requires.1
