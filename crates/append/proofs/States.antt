-- The numbers that are carried from one append to the next: the least id that may follow, the count, and the room behind the block.
--   State v b used rs low count room == the first `used` bytes of b are the block of rs in the version v, and the numbers are theirs
--   state-of, state-good : any block has its numbers
--   refused-at, accepted-at : the order by the carried numbers is that of `append_record`
--   added b used g == the buffer after an accepted append
--   state-next     : after an accepted append the numbers are the next
-- Assumes nothing.
use mathlib.Core.Path.{◌≡◌, refl, sym, ap, ◌∙◌}
use mathlib.Core.List.{List, [], ◌∷◌, ◌++◌}
use Prim.Native.Nat.{ℕ, suc, ◌+◌, ◌-◌, ◌^◌, ◌≤◌, ◌<◌}
use native.Mathlib.Nat as N
use native.Mathlib.Omega.{arith}
use lib.ListN.{length, take, drop, length-append, length-drop, take-append-drop}
use lib.Seq.{length-take-le}
use Rattle.element.specs.Refusals.{Refused, Accepted}
use Rattle.endian.specs.Numbers.{Bytes, over}
use Rattle.endian.proofs.Numbers.{bytes_take}
use Rattle.record.specs.declared.Record.{Record}
use Rattle.record.specs.Record.{record_bytes}
use Rattle.block.specs.Block.{Holds, version_of, count_of, records_in}
use Rattle.block.specs.Faults.{lowest}
use Rattle.block.proofs.Blocks.{block-length, block-count, held-record, holds-accepted, accepted-holds}
use Rattle.append.specs.declared.Appended.{Appended}
use Rattle.append.specs.Append.{buffer_codes, append_codes}
use Rattle.append.specs.Calls.{with_count, IsAppended}
use Rattle.append.specs.Series.{Given, given, next_codes}
use Rattle.append.proofs.Orders.{given-refused, given-accepted, room-refused, append-accepted, append-sound}
use Rattle.append.proofs.Runs.{last-record, more-length, appended-holds, appended-rest}

pub record State (v : ℕ) (b : List ℕ) (used : ℕ) (rs : List Record) (low count room : ℕ) : Type 0 where
  pub within : used ≤ length b
  pub held : Holds v (take used b) rs
  pub low_is : low ≡ lowest (take used b) (count_of (take used b))
  pub count_is : count ≡ count_of (take used b)
  pub room_is : room ≡ length b - used

pub state-of : {v : ℕ} {b : List ℕ} {used : ℕ} {rs : List Record} → used ≤ length b → Holds v (take used b) rs
    → State v b used rs (lowest (take used b) (count_of (take used b))) (count_of (take used b)) (length b - used)
state-of h q = record { within = h; held = q; low_is = refl; count_is = refl; room_is = refl }

pub state-good : (b : List ℕ) (used : ℕ) → Bytes b → Accepted (buffer_codes b used)
    → State (version_of (take used b)) b used (records_in (take used b)) (lowest (take used b) (count_of (take used b))) (count_of (take used b)) (length b - used)
state-good b used p ok = state-of (N.le_of_suc-le-suc (N.lt_of_not-le ok.0)) (accepted-holds (take used b) (bytes_take used p) ok.1)

-- ---- one append; the answer without a fault, and the buffer
abbrev pub answered : ℕ → Appended
answered m = record { code = 0; number = 0; used = m }

abbrev pub added : List ℕ → ℕ → Given → List ℕ
added b used g = with_count (over b used (record_bytes (given g))) (suc (count_of (take used b)))

module _ {v : ℕ} {b : List ℕ} {used : ℕ} {rs : List Record} {low count room : ℕ} (s : State v b used rs low count room) (g : Given) where
  pub refused-at : (c : ℕ) → Refused (next_codes low count room g) c
      → Refused (append_codes b used g.id g.kind g.limit g.coords) (record { code = c; number = 0 })
  refused-at c r =
      room-refused b used g.id g.kind g.limit g.coords (record { code = c; number = 0 }) s.within
      (given-refused (take used b) (length b - used) g.id g.kind g.limit g.coords c (holds-accepted s.held)
      (rw s.room_is at (rw s.count_is at (rw s.low_is at r))))

  pub accepted-at : Accepted (next_codes low count room g) → Accepted (append_codes b used g.id g.kind g.limit g.coords)
  accepted-at a =
      append-accepted b used g.id g.kind g.limit g.coords s.within
      (given-accepted (take used b) (length b - used) g.id g.kind g.limit g.coords (holds-accepted s.held)
      (rw s.room_is at (rw s.count_is at (rw s.low_is at a))))

  pub appended : Accepted (next_codes low count room g) → IsAppended b used g.id g.kind g.limit g.coords (answered (used + 80)) (added b used g)
  appended a = record { accepted = accepted-at a; answer = refl; written = refl }

  module _ (fits : g.id < 256 ^ 4) (a : Accepted (next_codes low count room g)) where
    abbrev new : List ℕ
    new = added b used g

    abbrev all : List Record
    all = rs ++ (given g ∷ [])

    holds : Holds v (take (used + 80) new) all
    holds = appended-holds s.held fits (appended a)

    enough : used + 80 ≤ length b
    enough =
        let t = append-sound b used g.id g.kind g.limit g.coords (accepted-at a) in
        omega (arith, N.lt_of_not-le t.other.1.1.0, s.within)

    same_length : length new ≡ length b
    same_length =
        let m = used + 80 in
        sym (ap length (take-append-drop m new)) ∙ length-append (take m new) (drop m new)
        ∙ omega (
          arith,
          block-length holds,
          block-length s.held,
          length-take-le used b s.within,
          more-length rs (given g),
          ap length (appended-rest s.held fits (appended a)),
          length-drop m b,
          enough,
        )

    counted : count_of (take (used + 80) new) ≡ suc (length rs)
    counted = block-count holds ∙ more-length rs (given g)

    lowest-next : lowest (take (used + 80) new) (suc (length rs)) ≡ suc g.id
    lowest-next =
        ap (λ (r : Record). suc r.id)
        (held-record holds (length rs) (omega (arith, more-length rs (given g))) ∙ last-record rs (given g))

    pub state-next : State v (added b used g) (used + 80) (rs ++ (given g ∷ [])) (suc g.id) (suc count) (room - 80)
    state-next =
        record {
          within = rw same_length enough;
          held = holds;
          low_is = sym (ap (lowest (take (used + 80) new)) counted ∙ lowest-next);
          count_is = ap suc (s.count_is ∙ block-count s.held) ∙ sym counted;
          room_is = omega (arith, s.room_is, same_length);
        }
