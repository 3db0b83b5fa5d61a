-- `mesh::fill::write_all` meets its contract.
use mathlib.Core.Path.{ap, subst}
use mathlib.Core.Logic.{inl, inr}
use Prim.Native.Nat.{ℕ}
use native.Mathlib.Omega.{arith}
use Rattle.std.proofs.lemmas.Result.{err_from_is_err_and}
use Rattle.faults.specs.Refusal.{number_of}
use Rattle.endian.specs.Numbers.{Bytes}
use Rattle.batch.specs.declared.Tally.{Tally}
use Rattle.batch.specs.Tallies.{Moved, Halted}
use Rattle.batch.proofs.Opened.{block_size, block-few}
use Rattle.batch.proofs.Runs.{room_is, long-is}
use Rattle.mesh.specs.Taken.{taken_in, passed_in}
use Rattle.mesh.proofs.Readings.{fits-of}
use Rattle.mesh.proofs.Opened.{text-accepted, buffer-accepted}
use Rattle.mesh.proofs.Loads.{not_taken, is-taken}
use Rattle.mesh.proofs.fill.write_all.Goals as goal

pub gather-requires : goal.gather-requires
gather-requires c =
    let a = c.args in
    let t = a.source.t.now in
    let b = a.buffer.now in
    let g = c.requires.good in
    let e = c.begin-first.ensures in
    record {
      seats = c.requires.seats;
      fits = fits-of t (text-accepted t b a.used g);
      fresh = (
        ap (λ (z : Tally). z.taken) e,
        ap (λ (z : Tally). z.passed) e,
        omega (arith, ap (λ (z : Tally). z.count) e, block-few b a.used (buffer-accepted t b a.used g)),
      );
      long = c.requires.long;
    }

pub returns-in_err-s : goal.returns-in_err-s
returns-in_err-s c =
    let a = c.args in
    let t = a.source.t.now in
    let b = a.buffer.now in
    let y : Bytes b = record { each = λ k. omega (arith, c.slice_known-1.given k) } in
    let p = err_from_is_err_and c.from_residual.result c.from_residual.ensures.1 in
    let w = subst (λ z. Halted (taken_in a.source.limit t) z a.out.now (number_of c.in_err-s.field-0.0) c.gather.new.out) c.begin-first.ensures c.in_err-s.ensures in
    rw (p.1, p.2) (inl (not_taken t a.source.limit b a.used y c.requires.good _ _ _ w))

pub finish-end-requires : goal.finish-end-requires
finish-end-requires c =
    let a = c.args in
    let t = a.source.t.now in
    let b = a.buffer.now in
    let m = subst (λ z. Moved (taken_in a.source.limit t) (passed_in t) z a.out.now c.in_ok-s.s c.gather.new.out) c.begin-first.ensures c.in_ok-s.ensures in
    let k = buffer-accepted t b a.used c.requires.good in
    let r = room_is b a.used k m in
    (long-is b a.used k m c.requires.long, r, omega (arith, r, block_size b a.used k))

pub returns : goal.returns
returns c =
    let a = c.args in
    let t = a.source.t.now in
    let b = a.buffer.now in
    let y : Bytes b = record { each = λ k. omega (arith, c.slice_known-1.given k) } in
    let m = subst (λ z. Moved (taken_in a.source.limit t) (passed_in t) z a.out.now c.in_ok-s.s c.gather.new.out) c.begin-first.ensures c.in_ok-s.ensures in
    let f = c.finish-end.ensures in
    inr (is-taken t a.source.limit b a.used y c.requires.good _ _ m f.written
    (ap (λ (n : ℕ). record { code = 0; number = 0; used = n; appended = c.in_ok-s.s.taken; passed = c.in_ok-s.s.passed }) f.answer))
