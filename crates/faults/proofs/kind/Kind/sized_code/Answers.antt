-- `Kind::sized_code` meets its contract: a list of the right length is looked at as the nodes of the kind.
use Rattle.element.proofs.Refusals.{coded-past}
use Rattle.faults.proofs.Meant.{meant-kind}
use Rattle.faults.proofs.kind.Kind.sized_code.Goals as goal

pub returns : goal.returns
returns c =
    coded-past (λ f. f (rw c.nodes.ensures at c.if-coords-nodes.false)) (rw (meant-kind c.args.self) c.node_code.ensures)
