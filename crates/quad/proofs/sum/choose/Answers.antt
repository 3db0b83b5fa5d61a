-- `quad::sum::choose` meets its contract: a row has ones at its ends, and up to 3 its own number between.
use mathlib.Core.Path.{sym, ap, ◌∙◌}
use Rattle.forms.specs.Binomials.{choose}
use Rattle.quad.proofs.Binomials.{choose-self, choose-inside}
use Rattle.quad.proofs.sum.choose.Goals as goal

pub returns-then-k-n-clause-value : goal.returns-then-k-n-clause-value
returns-then-k-n-clause-value c = let n = c.args.n in sym (ap (choose n) c.if-k-n.true ∙ choose-self n)

pub returns-clause-value : goal.returns-clause-value
returns-clause-value c = sym (choose-inside c.args.n c.args.k c.requires.0 c.requires.1 c.if-k-eq0.false c.if-k-n.false)
