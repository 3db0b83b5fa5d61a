-- `list::lines_to` meets its contract: the loop keeps that the lines of the first k records are written.
use mathlib.Core.Path.{refl}
use native.Mathlib.Omega.{arith}
use Rattle.list.proofs.Steps.{lines_none, lines_more}
use Rattle.list.proofs.lines_to.Goals as goal

pub loop-k-init : goal.loop-k-init
loop-k-init c = let a = c.args in (refl, λ v rs h n. lines_none a.by rs a.out.now a.from)

pub loop-k-preserved : goal.loop-k-preserved
loop-k-preserved c = (
  omega (arith, c.line_at-at.auto.out, c.loop-k.invariant.0),
  λ v rs h n. lines_more c.args.by rs c.loop-k.k (omega arith) (c.loop-k.invariant.1 v rs h n) (c.line_at-at.ensures v rs h (omega arith)),
)
