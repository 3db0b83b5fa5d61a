-- What a pass keeps, from one record to the next.
--   passes-sized   : the records of what passes have 80 bytes each
--   carried-append : what is carried on, and on
--   moved_none, moved-passed : nothing, and one that is passed over
--   moved_more, moved-halted : what moved, and then moves on or halts
--   halted-front   : what halts, whatever would have come behind it
--   moved_length   : the bytes keep their number
-- Assumes nothing.
use mathlib.Core.Path.{◌≡◌, refl, sym, ap, ap₂, ◌∙◌}
use mathlib.Core.List.{List, [], ◌∷◌, ◌++◌, map-append}
use Prim.Native.Nat.{ℕ, suc, ◌+◌, ◌*◌, ◌≤◌}
use native.Mathlib.Omega.{arith}
use lib.ListN.{length, take, drop, length-append, take-append-drop}
use Rattle.element.proofs.Refusals.{then-accepted}
use Rattle.element.specs.Refusals.{stored_codes}
use Rattle.endian.specs.Numbers.{over}
use Rattle.endian.proofs.Writes.{length_over, over-more}
use Rattle.record.specs.Record.{record_bytes}
use Rattle.block.specs.Block.{records_bytes}
use Rattle.block.proofs.Blocks.{records-more}
use Rattle.append.specs.Append.{follow_codes}
use Rattle.append.specs.Series.{Given, given, records, low_after, Carried, Stops, here, later, Passes, empty, first}
use Rattle.append.proofs.Fronts.{carried_none, passes_append, stops-append}
use Rattle.append.proofs.Turns.{short-given, given-length}
use Rattle.batch.specs.declared.Tally.{Tally}
use Rattle.batch.specs.Tallies.{Moved, Halted}

pub passes-sized : {low count room : ℕ} {gs : List Given} → Passes low count room gs
    → length (records_bytes (records gs)) ≡ 80 * length gs
passes-sized empty = refl
passes-sized {low} {count} {room} (first {g = g} {gs = gs} a p) =
    let v = (then-accepted (stored_codes g.kind g.limit g.coords) (follow_codes low count room g.id) a).0 in
    let k = given-length g (short-given g.kind g.limit g.coords v) in
    omega (arith, k, passes-sized p, length-append (record_bytes (given g)) (records_bytes (records gs)))

low-append : (low : ℕ) (gs hs : List Given) → low_after low (gs ++ hs) ≡ low_after (low_after low gs) hs
low-append low [] hs = refl
low-append low (g ∷ gs) hs = low-append (suc g.id) gs hs

pub carried-append : {low count room l n m i j k : ℕ} {gs hs : List Given} → Carried low count room gs l n m → Carried l n m hs i j k
    → Carried low count room (gs ++ hs) i j k
carried-append {low} {gs = gs} {hs = hs} a b =
    let e = length-append gs hs in
    record {
      low_is = b.low_is ∙ ap (λ x. low_after x hs) a.low_is ∙ sym (low-append low gs hs);
      count_is = omega (arith, a.count_is, b.count_is, e);
      room_is = omega (arith, a.room_is, b.room_is, e);
    }

over_none : (b : List ℕ) (at : ℕ) → b ≡ over b at []
over_none b at = sym (take-append-drop at b) ∙ ap (λ n. take at b ++ drop n b) (let e : at ≡ at + 0 = omega arith in e)

records-append : (gs hs : List Given)
    → records_bytes (records (gs ++ hs)) ≡ records_bytes (records gs) ++ records_bytes (records hs)
records-append gs hs = ap records_bytes (map-append given gs hs) ∙ records-more (records gs) (records hs)

pub moved_none : (s : Tally) (b : List ℕ) → Moved [] 0 s b s b
moved_none s b =
    record { passes = empty; carried = carried_none; counted = omega arith; left_out = omega arith; written = over_none b (80 * s.taken) }

pub moved-passed : (s r : Tally) (b : List ℕ)
    → r ≡ record { low = s.low; count = s.count; room = s.room; taken = s.taken; passed = s.passed + 1 }
    → Moved [] 1 s b r b
moved-passed s r b e =
    record {
      passes = empty;
      carried = record { low_is = ap (λ u. u.low) e; count_is = ap (λ u. u.count) e ∙ omega arith; room_is = ap (λ u. u.room) e ∙ omega arith };
      counted = ap (λ u. u.taken) e ∙ omega arith;
      left_out = ap (λ u. u.passed) e;
      written = over_none b (80 * s.taken);
    }

pub moved_length : {gs : List Given} {p : ℕ} {s r : Tally} {b a : List ℕ} → Moved gs p s b r a → 80 * (s.taken + length gs) ≤ length b
    → length a ≡ length b
moved_length {gs} {s = s} {b = b} m h =
    ap length m.written
    ∙ length_over (records_bytes (records gs)) b (80 * s.taken) (omega (arith, passes-sized m.passes))

module _ {gs hs : List Given} {p : ℕ} {s r : Tally} {b a c : List ℕ} (m : Moved gs p s b r a) where
  pub moved_more : {q : ℕ} {u : Tally} → Moved hs q r a u c → 80 * (s.taken + length gs + length hs) ≤ length b → Moved (gs ++ hs) (p + q) s b u c
  moved_more n h =
      let v = records_bytes (records gs) in
      let w = records_bytes (records hs) in
      let f = passes-sized m.passes in
      let g = passes-sized n.passes in
      let place : 80 * r.taken ≡ 80 * s.taken + length v = omega (arith, m.counted, f) in
      record {
        passes = passes_append m.carried m.passes n.passes;
        carried = carried-append m.carried n.carried;
        counted = omega (arith, m.counted, n.counted, length-append gs hs);
        left_out = omega (arith, m.left_out, n.left_out);
        written =
            n.written
            ∙ ap₂ (λ (x : List ℕ) (i : ℕ). over x i w) m.written place
            ∙ over-more v w b (80 * s.taken) (omega (arith, f, g))
            ∙ ap (over b (80 * s.taken)) (sym (records-append gs hs));
      }

  pub moved-halted : {d : ℕ} → Halted hs r a d c → 80 * (s.taken + length gs) ≤ length b → Halted (gs ++ hs) s b d c
  moved-halted n h = record { stops = stops-append m.carried m.passes n.stops; long = n.long ∙ moved_length m h }

stops-front : {low count room c : ℕ} {gs : List Given} (hs : List Given) → Stops low count room gs c → Stops low count room (gs ++ hs) c
stops-front hs (here r) = here r
stops-front hs (later a s) = later a (stops-front hs s)

pub halted-front : {gs : List Given} (hs : List Given) {s : Tally} {c : ℕ} {b a : List ℕ} → Halted gs s b c a → Halted (gs ++ hs) s b c a
halted-front hs h = record { stops = stops-front hs h.stops; long = h.long }
