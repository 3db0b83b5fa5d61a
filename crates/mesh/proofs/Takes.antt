-- One element of ours: tried with its coordinates clipped at 2^32 - 1, it is tried as it is written.
--   row-moves      : what is tried of a row
-- Assumes nothing.
use mathlib.Core.Path.{◌≡◌, refl, ap, subst}
use mathlib.Core.List.{List, [], ◌∷◌}
use Prim.Native.Nat.{ℕ}
use lib.Dec.{lit<}
use Rattle.std.specs.Prelude.{Result}
use Rattle.faults.specs.declared.refusal.Refusal.{Refusal}
use Rattle.batch.specs.declared.Tally.{Tally}
use Rattle.batch.specs.Tallies.{Moves}
use Rattle.batch.proofs.Same.{same-moves}
use Rattle.batch.proofs.Clip.{clips-length, clips-stands}
use Rattle.batch.proofs.Stands.{stands-codes, stands-coords}
use Rattle.element.specs.Kinds.{kind_of}
use Rattle.append.specs.Append.{new_record}
use Rattle.append.specs.Series.{Given}
use Rattle.mesh_text.specs.Tests.{value_of, clipped}
use Rattle.mesh_form.specs.Mesh.{Row}
use Rattle.mesh_form.specs.Values.{id_of, type_of, size_of_type}
use Rattle.mesh_elements.specs.Rows.{given_of}
use Rattle.mesh_elements.proofs.Clip.{coords-clip}

pub row-moves : (p : ℕ) (s : Tally) (b a : List ℕ) (t : Result Tally Refusal) (level : ℕ) (rs : List Row) (r : Row) (q : Given)
    → q ≡ given_of level (clipped 4294967295) rs r
    → Moves (q ∷ []) p s b t a
    → Moves (given_of level value_of rs r ∷ []) p s b t a
row-moves p s b a t level rs r q e m =
    let n = size_of_type (type_of r) in
    let c = coords-clip 4294967295 rs r in
    let st = clips-stands (lit< tt) (kind_of n) c in
    same-moves p s b a t (stands-codes s.low s.count s.room (id_of r) n level (clips-length c) (λ _ _. st)) refl
    (λ k. ap (new_record (id_of r) n level) (stands-coords s.low s.count s.room (id_of r) n level (clips-length c) (λ _ _. st) k))
    (subst (λ g. Moves (g ∷ []) p s b t a) e m)
