-- The order of an append, test by test.
--   allows-refused, allows-allowed : the answer of the test of an append, by its code
--   given l room id n level xs == the order of the element and of its place behind the block l
--   block_refused, given-refused, given-accepted : the order over a block, from its parts
--   used-refused, room-refused, buffer-refused, append-accepted : the order of `append_record`, from its parts
--   Sound b used id n level xs == what an append that is accepted has met; append-sound
-- Assumes nothing.
use mathlib.Core.Path.{◌≡◌, refl, ap}
use mathlib.Core.List.{List}
use mathlib.Core.Logic.{inl, inr, ⊎_elim}
use Prim.Native.Nat.{ℕ, ◌-◌, ◌≤◌, ◌<◌}
use native.Mathlib.Nat as N
use native.Mathlib.Omega.{arith}
use lib.IntN.{ℤ}
use lib.ListN.{length, take}
use Rattle.element.specs.Refusals.{Codes, ◌then◌, Refused, Accepted, stored_codes}
use Rattle.element.proofs.Refusals.{refused-some, refused-then, past-then, accepted-then, then-accepted, then-refused}
use Rattle.block.specs.declared.Checked.{Checked}
use Rattle.block.specs.Faults.{Fault, naming, block_codes}
use Rattle.block.proofs.Orders.{refused-of, accepted-of, of-accepted, of-refused}
use Rattle.block.proofs.Walk.{block-some}
use Rattle.append.specs.Append.{new_codes, room_codes, buffer_codes, append_codes}
use Rattle.append.specs.Calls.{IsAllowed, Allows}

pub allows-refused : (o : Codes Fault) (l : List ℕ) (r : Checked) → Allows o l r → ¬ (r.code ≡ 0) → Refused o (record { code = r.code; number = r.number })
allows-refused o l r (inl p) h = p.refused
allows-refused o l r (inr p) h = absurd (h (ap (λ (r : Checked). r.code) p.answer))

pub allows-allowed : (o : Codes Fault) (l : List ℕ) (r : Checked) → Allows o l r → r.code ≡ 0 → IsAllowed o l r
allows-allowed o l r (inl p) h = absurd (p.some h)
allows-allowed o l r (inr p) h = p

module _ (l : List ℕ) (room id n level : ℕ) (xs : List ℤ) where
  abbrev pub given : Codes ℕ
  given = stored_codes n level xs then new_codes l room id

  pub block_refused : (f : Fault) → Refused (block_codes l) f → Refused (room_codes l room id n level xs) f
  block_refused f r = refused-then (block_codes l) (naming 0 given) f r

  pub given-refused : (c : ℕ) → Accepted (block_codes l) → Refused given c → Refused (room_codes l room id n level xs) (record { code = c; number = 0 })
  given-refused c a r = past-then (block_codes l) (naming 0 given) (record { code = c; number = 0 }) a (refused-of 0 given c r)

  pub given-accepted : Accepted (block_codes l) → Accepted given → Accepted (room_codes l room id n level xs)
  given-accepted a w = accepted-then (block_codes l) (naming 0 given) a (accepted-of 0 given w)

  pub record RoomSound : Type 0 where
    pub block : Accepted (block_codes l)
    pub element : Accepted (stored_codes n level xs)
    pub other : Accepted (new_codes l room id)

  pub room-sound : Accepted (room_codes l room id n level xs) → RoomSound
  room-sound a =
      let t = then-accepted (block_codes l) (naming 0 given) a in
      let u = then-accepted (stored_codes n level xs) (new_codes l room id) (of-accepted 0 given t.1) in
      record { block = t.0; element = u.0; other = u.1 }

module _ (b : List ℕ) (used id n level : ℕ) (xs : List ℤ) where
  abbrev inner : Codes Fault
  inner = room_codes (take used b) (length b - used) id n level xs

  pub used-refused : length b < used → Refused (append_codes b used id n level xs) (record { code = 5; number = 0 })
  used-refused h = inl (h, refl)

  pub room-refused : (f : Fault) → used ≤ length b → Refused inner f → Refused (append_codes b used id n level xs) f
  room-refused f h r = inr ((λ q. N.not-le_of_lt q h), r)

  pub buffer-refused : (f : Fault) → Refused (buffer_codes b used) f → Refused (append_codes b used id n level xs) f
  buffer-refused f (inl r) = inl r
  buffer-refused f (inr (h, r)) = inr (h, block_refused (take used b) (length b - used) id n level xs f r)

  pub append-accepted : used ≤ length b → Accepted inner → Accepted (append_codes b used id n level xs)
  append-accepted h a = ((λ q. N.not-le_of_lt q h), a)

  pub append-within : Accepted (append_codes b used id n level xs) → used ≤ length b
  append-within a = N.le_of_suc-le-suc (N.lt_of_not-le a.0)

  pub append-sound : Accepted (append_codes b used id n level xs) → RoomSound (take used b) (length b - used) id n level xs
  append-sound a = room-sound (take used b) (length b - used) id n level xs a.1

  pub append-some : (f : Fault) → Refused (append_codes b used id n level xs) f → ¬ (f.code ≡ 0)
  append-some f (inl (h, e)) z = absurd (omega (arith, ap (λ (f : Fault). f.code) e, z))
  append-some f (inr (h, r)) z =
      ⊎_elim (λ q. block-some (take used b) f q z)
      (λ q. refused-some (given (take used b) (length b - used) id n level xs) f.code tt
      (of-refused 0 (given (take used b) (length b - used) id n level xs) f q) z)
      (then-refused (block_codes (take used b)) (naming 0 (given (take used b) (length b - used) id n level xs)) f r)
