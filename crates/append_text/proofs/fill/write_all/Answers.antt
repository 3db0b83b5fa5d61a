-- `append_text::fill::write_all` meets its contract.
use mathlib.Core.Path.{refl, ap, subst}
use mathlib.Core.Logic.{inl, inr}
use Prim.Native.Nat.{ℕ}
use native.Mathlib.Omega.{arith}
use Rattle.std.proofs.lemmas.Result.{err_from_is_err_and}
use Rattle.endian.specs.Numbers.{Bytes}
use Rattle.batch.specs.declared.Tally.{Tally}
use Rattle.batch.specs.Tallies.{Moved}
use Rattle.batch.proofs.Opened.{block_size, block-few}
use Rattle.batch.proofs.Runs.{room_is, long-is}
use Rattle.mesh_text.specs.Rows.{lines}
use Rattle.record_text.specs.Says.{givens}
use Rattle.record_text.specs.Values.{said_in}
use Rattle.append_text.specs.Passes.{Halts}
use Rattle.append_text.proofs.Opened.{form-good, buffer-good}
use Rattle.append_text.proofs.Loads.{not_taken, is-taken}
use Rattle.append_text.proofs.fill.write_all.Goals as goal

pub begin-first-requires-clause-good : goal.begin-first-requires-clause-good
begin-first-requires-clause-good c = buffer-good c.args.t.now c.args.buffer.now c.args.used c.requires.good

pub gather-requires-clause-good : goal.gather-requires-clause-good
gather-requires-clause-good c = form-good c.args.t.now c.args.buffer.now c.args.used c.requires.good

pub gather-requires-clause-fresh : goal.gather-requires-clause-fresh
gather-requires-clause-fresh c =
    let a = c.args in
    let e = c.begin-first.ensures in (
      ap (λ (z : Tally). z.taken) e,
      omega (arith, ap (λ (z : Tally). z.count) e, block-few a.buffer.now a.used (buffer-good a.t.now a.buffer.now a.used c.requires.good)),
    )

pub returns-in_err-s : goal.returns-in_err-s
returns-in_err-s c =
    let t = c.args.t.now in
    let b = c.args.buffer.now in
    let y : Bytes b = record { each = λ k. omega (arith, c.slice_known-1.given k) } in
    let p = err_from_is_err_and c.from_residual.result c.from_residual.ensures.1 in
    let w = subst (λ z. Halts (said_in 1 (lines t)) z c.args.out.now c.in_err-s.field-0.0 c.gather.new.out) c.begin-first.ensures c.in_err-s.ensures in
    rw (p.1, p.2) (inl (not_taken t b c.args.used y c.requires.good c.in_err-s.field-0.0 _ _ _ w refl))

pub finish-end-requires : goal.finish-end-requires
finish-end-requires c =
    let t = c.args.t.now in
    let b = c.args.buffer.now in
    let m = subst (λ z. Moved (givens (said_in 1 (lines t))) 0 z c.args.out.now c.in_ok-s.s c.gather.new.out) c.begin-first.ensures c.in_ok-s.ensures in
    let k = buffer-good t b c.args.used c.requires.good in
    let r = room_is b c.args.used k m in
    (long-is b c.args.used k m c.requires.long, r, omega (arith, r, block_size b c.args.used k))

pub returns : goal.returns
returns c =
    let t = c.args.t.now in
    let b = c.args.buffer.now in
    let y : Bytes b = record { each = λ k. omega (arith, c.slice_known-1.given k) } in
    let m = subst (λ z. Moved (givens (said_in 1 (lines t))) 0 z c.args.out.now c.in_ok-s.s c.gather.new.out) c.begin-first.ensures c.in_ok-s.ensures in
    let f = c.finish-end.ensures in
    inr (is-taken t b c.args.used y c.requires.good _ _ m f.written
    (ap (λ (n : ℕ). record { code = 0; number = 0; line = 0; word = 0; used = n; appended = c.in_ok-s.s.taken }) f.answer))
