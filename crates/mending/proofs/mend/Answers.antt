-- `mending::mend` meets its contract: a refusal writes nothing; else the replaced nodes are written, and the sign is dropped.
-- Assumes nothing.
use Rattle.std.proofs.Common.{Ok}
use Rattle.std.proofs.lemmas.Result.{err_from_is_err_and}
use mathlib.Core.Path.{◌≡◌, refl, ap}
use mathlib.Core.List.{List}
use mathlib.Core.Logic.{inl, inr}
use Prim.Native.Nat.{ℕ, ◌+◌, ◌≤◌}
use native.Mathlib.Omega.{arith}
use lib.Dec.{lit<}
use lib.ListN.{length}
use Rattle.faults.proofs.Refusals.{number-some}
use Rattle.record.specs.Record.{used}
use Rattle.straighten.specs.declared.Straightened.{Straightened}
use Rattle.block.specs.Block.{place, record_at}
use Rattle.mending.specs.declared.Mended.{Mended}
use Rattle.mending.specs.Calls.{as_mended, NotMended, IsMended}
use Rattle.mending.specs.Steps.{Tried}
use Rattle.mending.proofs.Orders.{mend-room, mend-some}
use Rattle.mending.proofs.Writes.{all-written}
use Rattle.mending.proofs.mend.Goals as goal

refused : {l : List ℕ} {k : ℕ} {m : Mended} → Tried l k m → ¬ (m.code ≡ 0) → NotMended l k m l
refused (inl p) h = p
refused (inr (a, p)) h = absurd (h (ap (λ (m : Mended). m.code) p.told))

mended : {l : List ℕ} {k : ℕ} {m : Mended} → Tried l k m → m.code ≡ 0 → (a : List ℕ) × IsMended l k m a
mended {l} {k} {m} (inl p) h = absurd (mend-some l k (record { code = m.code; number = m.number }) p.refused h)
mended (inr p) h = p

-- record k stands within the bytes
room : (l : List ℕ) (k : ℕ) (t : Straightened) → Tried l k (as_mended (Ok t)) → place k + 80 ≤ length l
room l k t p = mend-room l k (mended p refl).1.accepted

pub returns-in_err-t : goal.returns-in_err-t
returns-in_err-t c =
    let p = err_from_is_err_and c.from_residual.result c.from_residual.ensures.1 in
    rw (p.1, p.2) (inl (refused c.in_err-t.ensures (number-some _)))

pub put_moved-requires : goal.put_moved-requires
put_moved-requires c = (room c.args.block.now c.args.k c.in_ok-t.t c.in_ok-t.ensures, lit< tt)

pub put_moved-requires-2 : goal.put_moved-requires-2
put_moved-requires-2 c = (omega (arith, room c.args.block.now c.args.k c.in_ok-t.t c.in_ok-t.ensures, c.put_moved.auto.block), lit< tt)

pub put_moved-requires-3 : goal.put_moved-requires-3
put_moved-requires-3 c = (omega (arith, room c.args.block.now c.args.k c.in_ok-t.t c.in_ok-t.ensures, c.put_moved.auto.block, c.put_moved-2.auto.block), lit< tt)

pub unsign-requires : goal.unsign-requires
unsign-requires c = omega (arith, room c.args.block.now c.args.k c.in_ok-t.t c.in_ok-t.ensures, c.put_moved.auto.block, c.put_moved-2.auto.block, c.put_moved-3.auto.block)

pub returns : goal.returns
returns c =
    let a = c.args in
    let l = a.block.now in let d = (mended c.in_ok-t.ensures refl).1 in
    inr
    (record {
      accepted = d.accepted;
      set = d.set;
      chosen = d.chosen;
      told = d.told;
      written = all-written a.k (used (record_at l a.k)) d.set l (ap (λ (m : Mended). m.m01) d.told) (ap (λ (m : Mended). m.m12) d.told)
          (ap (λ (m : Mended). m.m02) d.told) c.put_moved.ensures c.put_moved-2.ensures c.put_moved-3.ensures c.unsign.ensures;
    })
