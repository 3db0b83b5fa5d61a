-- What the calls `scale_coordinates` and `unscale_coordinates` answer, and what they leave in the buffer lent to them (02, Ask 13).
--   scaled c m      == the answer with the code c and the number of places m
--   Pairs R xs ys   == the lists are of one length, and R holds of what stands at one place
--   Filled R m xs before after == what answers to xs by R stands at the start of the buffer, and from place m on it is as it was
--   list_codes n many == what is asked of the kind and of how many numbers there are
--   room_codes n room == what is asked of the buffer, room places long
--   scale_codes, unscale_codes == the orders of the calls
--   Kept o before r after == a refusal by the order o
--   Laid R o n xs before r after == a success: the first 2n places answer to xs by R, and the rest stays
--   Scales, Unscales n xs before r after == the successes of the two calls
--   ScaleCoordinates, UnscaleCoordinates n xs before r after == what the calls answer and leave
-- n is the number given as the kind, xs the list, r the answer, before and after the buffer's content. Definitions only.
use Rattle.std.specs.Prelude.{◌≡◌, ℕ, ◌*◌, ◌<◌, ◌⊎◌, List, [], ◌∷◌, ◌++◌, length, drop, ℤ, Float}
use Rattle.element.specs.Kinds.{NotStored}
use Rattle.element.specs.Refusals.{Codes, no_more, code, ◌then◌, Refused, Accepted, WrongCount}
use Rattle.solver_grid.specs.Grid.{OnGrid, SomeOff, Over}
use Rattle.solver_grid.specs.declared.Scaled.{Scaled}

-- no record is stored here: its number is 0
abbrev pub scaled : ℕ → ℕ → Scaled
scaled c m = record { code = c; number = 0; count = m }

abbrev pub Pairs : {A B : Type 0} → (A → B → Type 0) → List A → List B → Type 0
Pairs R [] [] = Unit {0}
Pairs R [] (y ∷ ys) = ⊥
Pairs R (x ∷ xs) [] = ⊥
Pairs R (x ∷ xs) (y ∷ ys) = R x y × Pairs R xs ys

pub record Filled {A B : Type 0} (R : A → B → Type 0) (m : ℕ) (xs : List A) (before after : List B) : Type 0 where
  pub numbers : List B
  pub each : Pairs R xs numbers
  pub places : after ≡ numbers ++ drop m before

-- ---- the orders
-- "1 for the kind, 3 for the length"; no other call than verdict, bounds and control values takes kind 10
abbrev pub list_codes : ℕ → ℕ → Codes ℕ
list_codes n many = code 1 (NotStored n) (code 3 (WrongCount n many) no_more)

-- "5 for the room"
abbrev pub room_codes : ℕ → ℕ → Codes ℕ
room_codes n room = code 5 (room < 2 * n) no_more

-- "then 23 .., then 5 for the room"
abbrev pub scale_codes : ℕ → List Float → ℕ → Codes ℕ
scale_codes n xs room = list_codes n (length xs) then code 23 (SomeOff xs) (room_codes n room)

-- "handing back gives 1, 3 and 5"
abbrev pub unscale_codes : ℕ → List ℤ → ℕ → Codes ℕ
unscale_codes n xs room = list_codes n (length xs) then room_codes n room

-- ---- the calls
-- "A refusal returns the code, .. zero in all other fields, and changes no lent buffer"
pub record Kept {B : Type 0} (o : Codes ℕ) (before : List B) (r : Scaled) (after : List B) : Type 0 where
  pub refused : Refused o r.code
  pub zeros : r ≡ scaled r.code 0
  pub untouched : after ≡ before

-- "On success .. the rest of the buffer stays"
pub record Laid {A B : Type 0} (R : A → B → Type 0) (o : Codes ℕ) (n : ℕ) (xs : List A) (before : List B) (r : Scaled)
    (after : List B) : Type 0 where
  pub accepted : Accepted o
  pub answer : r ≡ scaled 0 (2 * n)
  pub filled : Filled R (2 * n) xs before after

abbrev pub Scales : ℕ → List Float → List ℤ → Scaled → List ℤ → Type 0
Scales n xs before r after = Laid OnGrid (scale_codes n xs (length before)) n xs before r after

abbrev pub Unscales : ℕ → List ℤ → List Float → Scaled → List Float → Type 0
Unscales n xs before r after = Laid Over (unscale_codes n xs (length before)) n xs before r after

abbrev pub ScaleCoordinates : ℕ → List Float → List ℤ → Scaled → List ℤ → Type 0
ScaleCoordinates n xs before r after = Kept (scale_codes n xs (length before)) before r after ⊎ Scales n xs before r after

abbrev pub UnscaleCoordinates : ℕ → List ℤ → List Float → Scaled → List Float → Type 0
UnscaleCoordinates n xs before r after = Kept (unscale_codes n xs (length before)) before r after ⊎ Unscales n xs before r after
