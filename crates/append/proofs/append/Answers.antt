-- `append::append` meets its contract: a refusal writes nothing; else the record is written, and then the count.
use mathlib.Core.Logic.{inl}
use mathlib.Core.Path.{refl}
use Prim.Native.Nat.{◌-◌}
use native.Mathlib.Nat as N
use native.Mathlib.Omega.{arith}
use lib.ListN.{length, take}
use Rattle.std.proofs.lemmas.Result.{err_from_is_err_and}
use Rattle.faults.proofs.Refusals.{number-some}
use Rattle.append.specs.Append.{room_codes}
use Rattle.append.proofs.Orders.{allows-refused, allows-allowed, room-refused, room-sound}
use Rattle.append.proofs.Turns.{short-given}
use Rattle.append.proofs.append.Goals as goal

pub returns-in_err-count : goal.returns-in_err-count
returns-in_err-count c =
    let a = c.args in
    let l = take a.used a.buffer.now in
    let p = err_from_is_err_and c.from_residual.result c.from_residual.ensures.1 in
    rw (p.1, p.2) (inl (record {
      refused = room-refused a.buffer.now a.used a.id a.kind a.limit a.coords.now _ c.if-buffer-n.false
          (allows-refused (room_codes l (length a.buffer.now - a.used) a.id a.kind a.limit a.coords.now) l _ c.in_err-count.ensures
          (number-some _));
      no_used = refl;
      untouched = refl;
    }))

pub pad-zs-requires : goal.pad-zs-requires
pad-zs-requires c =
    let a = c.args in
    let l = take a.used a.buffer.now in
    let n = length a.buffer.now - a.used in
    let allowed = allows-allowed (room_codes l n a.id a.kind a.limit a.coords.now) l _ c.in_ok-count.ensures refl in
    short-given a.kind a.limit a.coords.now (room-sound l n a.id a.kind a.limit a.coords.now allowed.accepted).element

pub put_record-requires : goal.put_record-requires
put_record-requires c =
    let a = c.args in
    let l = take a.used a.buffer.now in
    let n = length a.buffer.now - a.used in
    let allowed = allows-allowed (room_codes l n a.id a.kind a.limit a.coords.now) l _ c.in_ok-count.ensures refl in
    let sound = room-sound l n a.id a.kind a.limit a.coords.now allowed.accepted in
    omega (arith, N.lt_of_not-le sound.other.1.1.0, c.if-buffer-n.false)
