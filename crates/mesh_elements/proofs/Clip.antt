-- The coordinates of an element's row, where one beyond a size is read as one of that size (docs/GMSH.md, G22).
--   coords-clip    : they are clipped; what that comes to is said in batch/proofs/Clip
-- Assumes nothing.
use mathlib.Core.List.{List}
use Prim.Native.Nat.{ℕ, ◌*◌}
use Rattle.batch.proofs.Clip.{Clips, clips-list}
use Rattle.mesh_text.specs.Tests.{value_of, clipped}
use Rattle.mesh_text.proofs.Clip.{clip-size, clip-same}
use Rattle.mesh_form.specs.Mesh.{Row}
use Rattle.mesh_form.specs.Values.{type_of, size_of_type}
use Rattle.mesh_elements.specs.Rows.{coord_of, coords_of}

pub coords-clip : (m : ℕ) (rs : List Row) (r : Row) → Clips m (coords_of (clipped m) rs r) (coords_of value_of rs r)
unfolding coord_of
coords-clip m rs r =
    clips-list (2 * size_of_type (type_of r)) (coord_of (clipped m) rs r) (coord_of value_of rs r) (λ i. clip-size m _) (λ i h. clip-same m _ h)
