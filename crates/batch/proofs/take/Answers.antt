-- `batch::take` meets its contract: what is tried stands for what is given. Assumes nothing.
use mathlib.Core.Path.{refl, ap}
use Rattle.append.specs.Append.{new_record}
use Rattle.batch.proofs.Same.{same-moves}
use Rattle.batch.proofs.Stands.{stands-codes, stands-coords, narrowed-length, narrowed-stands}
use Rattle.batch.proofs.take.Goals as goal

pub returns : goal.returns
returns c =
    let a = c.args in let v = a.coords.now in let zs = c.narrowed-zs.result in
    let e = narrowed-length a.kind v zs c.narrowed-zs.ensures c.requires.short in
    let st = narrowed-stands a.kind v zs c.narrowed-zs.ensures c.requires.short in
    same-moves 0 a.s a.out.now _ c.take_held.result (stands-codes a.s.low a.s.count a.s.room a.id a.kind a.limit e st) refl
    (λ k. ap (new_record a.id a.kind a.limit) (stands-coords a.s.low a.s.count a.s.room a.id a.kind a.limit e st k))
    c.take_held.ensures
