-- Orders with the same faults, and records that are tried alike.
--   SameCodes o p  == the orders o and p have the same faults, each where none before it is there
--   codes-refl     : an order has its own
--   same-refused, same-accepted, same_coded : so the same one is refused
--   same-moves     : a record in place of one that is tried alike and, where it passes, is the same
-- Assumes nothing.
use mathlib.Core.Path.{◌≡◌, ap, ◌∙◌}
use mathlib.Core.List.{List, [], ◌∷◌}
use mathlib.Core.Logic.{inl, inr}
use Prim.Native.Nat.{ℕ, suc, ◌*◌}
use Rattle.std.specs.Prelude.{Result, Ok, Err}
use Rattle.faults.specs.declared.refusal.Refusal.{Refusal}
use Rattle.faults.specs.Refusal.{number_of}
use Rattle.element.specs.Refusals.{Codes, no_more, code, Refused, Accepted, Coded, refused, accepted}
use Rattle.endian.specs.Numbers.{over}
use Rattle.record.specs.declared.Record.{Record}
use Rattle.block.specs.Block.{records_bytes}
use Rattle.append.specs.Series.{Given, given, next_codes, Stops, here, later, Passes, empty, first}
use Rattle.batch.specs.declared.Tally.{Tally}
use Rattle.batch.specs.Tallies.{Moves}

pub data SameCodes {A : Type 0} : Codes A → Codes A → Type 1 where
  no-codes : SameCodes no_more no_more
  same_code : {a : A} {F G : Type 0} {o p : Codes A} → (F → G) → (G → F) → (¬ F → SameCodes o p) → SameCodes (code a F o) (code a G p)

pub codes-refl : {A : Type 0} (o : Codes A) → SameCodes o o
codes-refl no_more = no-codes
codes-refl (code a F o) = same_code (λ x. x) (λ x. x) (λ n. codes-refl o)

pub same-refused : {A : Type 0} {o p : Codes A} (c : A) → SameCodes o p → Refused o c → Refused p c
same-refused c no-codes r = r
same-refused c (same_code f g s) (inl r) = inl (f r.0, r.1)
same-refused c (same_code f g s) (inr r) = inr ((λ q. r.0 (g q)), same-refused c (s r.0) r.1)

pub same-accepted : {A : Type 0} {o p : Codes A} → SameCodes o p → Accepted o → Accepted p
same-accepted no-codes a = a
same-accepted (same_code f g s) a = ((λ q. a.0 (g q)), same-accepted (s a.0) a.1)

pub same_coded : {o p : Codes ℕ} {c : ℕ} → SameCodes o p → Coded o c → Coded p c
same_coded {c = c} s (refused r) = refused (same-refused c s r)
same_coded s (accepted a e) = accepted (same-accepted s a) e

-- ---- one record that is tried
one_passes : {low count room : ℕ} {g : Given} → Passes low count room (g ∷ []) → Accepted (next_codes low count room g)
one_passes (first a p) = a

pub one-stops : {low count room c : ℕ} {g : Given} → Stops low count room (g ∷ []) c → Refused (next_codes low count room g) c
one-stops (here r) = r
one-stops (later a t) = absurd (none t)
  where
    none : {l n m d : ℕ} → Stops l n m [] d → ⊥
    none = elim [ ]

pub same-moves : {g h : Given} (p : ℕ) (s : Tally) (b a : List ℕ) (r : Result Tally Refusal)
    → SameCodes (next_codes s.low s.count s.room g) (next_codes s.low s.count s.room h)
    → g.id ≡ h.id
    → (Accepted (next_codes s.low s.count s.room h) → given g ≡ given h)
    → Moves (g ∷ []) p s b r a
    → Moves (h ∷ []) p s b r a
same-moves {g} {h} p s b a (Ok r) o e f m =
    let k = same-accepted o (one_passes m.passes) in
    record {
      passes = first k empty;
      carried = record { low_is = m.carried.low_is ∙ ap suc e; count_is = m.carried.count_is; room_is = m.carried.room_is };
      counted = m.counted;
      left_out = m.left_out;
      written = m.written ∙ ap (λ (q : Record). over b (80 * s.taken) (records_bytes (q ∷ []))) (f k);
    }
same-moves p s b a (Err e) o q f m = record { stops = here (same-refused (number_of e) o (one-stops m.stops)); long = m.long }
