-- What was tried behind a good block, and then written at once, is what a run of calls would have done.
--   room_is, long-is : what is taken has room in the buffer, and in the bytes of the pass
--   batch-done     : the buffer that is left is that of the run
--   batch-stopped  : where one is refused the run stops with its code
-- Assumes nothing.
use mathlib.Core.Path.{◌≡◌, ap, ap₂, ◌∙◌}
use mathlib.Core.List.{List}
use Prim.Native.Nat.{ℕ, ◌+◌, ◌*◌, ◌≤◌}
use native.Mathlib.Omega.{arith}
use lib.ListN.{length, take, drop}
use lib.Seq.{take_at}
use Rattle.element.specs.Refusals.{Accepted}
use Rattle.endian.specs.Numbers.{Bytes, bytes, over}
use Rattle.block.specs.Block.{records_bytes}
use Rattle.append.specs.Append.{buffer_codes}
use Rattle.append.specs.Series.{Given, Series, records, filled, IdsFit}
use Rattle.append.proofs.Series.{series-stops, series-passes}
use Rattle.append.proofs.Fronts.{passes-room, passes-few}
use Rattle.batch.specs.declared.Tally.{Tally}
use Rattle.batch.specs.Tallies.{opening, Moved, Halted}
use Rattle.batch.proofs.Opened.{used-within, block-few}
use Rattle.batch.proofs.Tallies.{passes-sized, moved_length}

module _ (b : List ℕ) (used : ℕ) (a : Accepted (buffer_codes b used)) where
  module _ {gs : List Given} {p : ℕ} {s : Tally} {o c : List ℕ} (m : Moved gs p (opening b used) o s c) where
    front-is : take (80 * s.taken) c ≡ records_bytes (records gs)
    front-is =
        let v = records_bytes (records gs) in
        ap (take (80 * s.taken)) m.written
        ∙ take_at v (drop (80 * 0 + length v) o) (80 * s.taken) (omega (arith, passes-sized m.passes, m.counted))

    pub room_is : used + 80 * s.taken ≤ length b
    room_is = omega (arith, passes-room m.passes, m.counted, used-within b used a)

    pub long-is : 64000 ≤ length o → 80 * s.taken ≤ length c
    long-is h =
        let f = passes-few (block-few b used a) m.passes in
        let k : 80 * ((opening b used).taken + length gs) ≤ length o = omega (arith, f, h) in
        omega (arith, m.counted, f, h, moved_length m k)

    pub batch-done : {d : List ℕ}
        → Bytes b
        → IdsFit gs
        → d ≡ over (over b used (take (80 * s.taken) c)) 5 (bytes 4 s.count)
        → Series b used gs (record { code = 0; number = 0; used = used + 80 * length gs }) d
    batch-done {d} y f w =
        let e : d ≡ filled b used gs =
        w ∙ ap₂ (λ (v : List ℕ) (k : ℕ). over (over b used v) 5 (bytes 4 k)) front-is m.carried.count_is in
        rw e (series-passes b used y a f m.passes)

  pub batch-stopped : {gs : List Given} {d : ℕ} {o c : List ℕ}
      → Bytes b
      → IdsFit gs
      → Halted gs (opening b used) o d c
      → (left : List ℕ) × Series b used gs (record { code = d; number = 0; used = 0 }) left
  batch-stopped y f h = series-stops b used y a f h.stops
