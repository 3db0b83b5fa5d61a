-- `mesh::fill::with_places` meets its contract: in a text that is good no node number stands twice.
use Rattle.mesh.proofs.Readings.{once-of}
use Rattle.mesh.proofs.Opened.{text-accepted}
use Rattle.mesh.proofs.fill.with_places.Goals as goal

pub invariant_of-source : goal.invariant_of-source
invariant_of-source c = record { once = once-of c.args.t.now (text-accepted c.args.t.now c.args.buffer.now c.args.used c.requires.good) }
