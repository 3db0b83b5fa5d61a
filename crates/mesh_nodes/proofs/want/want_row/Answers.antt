-- `mesh_nodes::want::want_row` meets its contract.
use mathlib.Core.Path.{sym}
use Prim.Native.Nat.{ℕ}
use Rattle.std.proofs.lemmas.List.{length-take-le}
use Rattle.mesh_form.proofs.Said.{nine-enough}
use Rattle.mesh_nodes.proofs.want.want_row.Goals as goal

pub slice_bounds-names-end : goal.slice_bounds-names-end
slice_bounds-names-end c = nine-enough _ _ _ _ c.in-Some.ensures.size c.nine_at-names.ensures

pub slice_bounds-want_names-end : goal.slice_bounds-want_names-end
slice_bounds-want_names-end c =
    sym (length-take-le {A = ℕ} c.in-Some.size c.nine_at-names.result (nine-enough _ _ _ _ c.in-Some.ensures.size c.nine_at-names.ensures))
