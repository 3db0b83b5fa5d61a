-- One record, tried and written.
--   tried-short, tried-room : where it passes it has at most 18 numbers, and there is room for it
--   taken-halted, taken-moved : what is refused, and what is taken
-- Assumes nothing.
use mathlib.Core.Path.{◌≡◌, refl, sym, ap, ◌∙◌}
use mathlib.Core.List.{List, [], ◌∷◌, append-nil}
use Prim.Native.Nat.{ℕ, ◌+◌, ◌-◌, ◌*◌, ◌≤◌, ◌<◌}
use native.Mathlib.Nat as N
use native.Mathlib.Numerals.{add-one}
use native.Mathlib.Omega.{arith}
use lib.ListN.{length}
use Rattle.element.proofs.Refusals.{then-accepted}
use Rattle.element.specs.Refusals.{Refused, Accepted, stored_codes}
use Rattle.endian.specs.Numbers.{over}
use Rattle.record.specs.Record.{record_bytes}
use Rattle.append.specs.Append.{follow_codes}
use Rattle.append.specs.Series.{Given, given, next_codes, here, empty, first}
use Rattle.append.proofs.Turns.{short-given}
use Rattle.batch.specs.declared.Tally.{Tally}
use Rattle.batch.specs.Tallies.{Moved, Halted}

module _ (s : Tally) (g : Given) where
  abbrev Tried : Type 0
  Tried = Accepted (next_codes s.low s.count s.room g)

  pub tried-short : Tried → length g.coords ≤ 18
  tried-short a =
      short-given g.kind g.limit g.coords
      (then-accepted (stored_codes g.kind g.limit g.coords) (follow_codes s.low s.count s.room g.id) a).0

  pub tried-room : Tried → (s.count < 800) × (80 ≤ s.room)
  tried-room a = (N.lt_of_not-le a.1.1.1.1.1.1.0, omega (arith, N.lt_of_not-le a.1.1.1.1.1.1.1.0))

  pub taken-halted : (c : ℕ) (b : List ℕ) → Refused (next_codes s.low s.count s.room g) c → Halted (g ∷ []) s b c b
  taken-halted c b r = record { stops = here r; long = refl }

  pub taken-moved : (t : Tally) (b a : List ℕ)
      → Tried
      → t ≡ record { low = g.id + 1; count = s.count + 1; room = s.room - 80; taken = s.taken + 1; passed = s.passed }
      → a ≡ over b (80 * s.taken) (record_bytes (given g))
      → Moved (g ∷ []) 0 s b t a
  taken-moved t b a k e w =
      record {
        passes = first k empty;
        carried = record {
          low_is = ap (λ u. u.low) e ∙ add-one g.id;
          count_is = ap (λ u. u.count) e;
          room_is = ap (λ u. u.room) e ∙ omega arith;
        };
        counted = ap (λ u. u.taken) e;
        left_out = ap (λ u. u.passed) e ∙ omega arith;
        written = w ∙ ap (over b (80 * s.taken)) (sym (append-nil (record_bytes (given g))));
      }
