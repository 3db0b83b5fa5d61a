-- `mesh::fill::append_all` meets its contract. No search here: it would count to the arrays' length.
use Rattle.mesh.proofs.Opened.{zeros-seat}
use Rattle.mesh.proofs.fill.append_all.Goals as goal

pub with_places-requires : goal.with_places-requires
with_places-requires c = record { good = c.requires.good; counted = c.requires.counted; seats = zeros-seat _ 8192 }
