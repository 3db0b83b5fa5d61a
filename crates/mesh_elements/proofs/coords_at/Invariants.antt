-- `mesh_elements::coords_at` meets its contract: the loop keeps that the first numbers are the coordinates.
use Prim.Native.Nat.{◌*◌}
use lib.ListN.{drop}
use Rattle.algebra.specs.Fill.{Filled}
use Rattle.mesh_text.specs.Rows.{line}
use Rattle.mesh_text.specs.Tests.{clipped}
use Rattle.mesh_nodes.specs.Nodes.{nodes_in}
use Rattle.mesh_elements.specs.Rows.{coord_of}
use Rattle.mesh_elements.proofs.coords_at.Given as goal

abbrev pub invariant-loop-k : goal.invariant-loop-k
invariant-loop-k l = Filled 18 (2 * l.k) (coord_of (clipped 4294967295) (nodes_in l.t) (line (drop l.at l.t))) l.out
