-- What the calls `write_list` and `write_floor_list` answer and leave.
--   as_listed r     == the answer that the result of a call tells
--   Fits, Short     == the list has room in the buffer, and it has none
--   WritesBy q l o o' r == the one or the other, of the list by the profile q
--   WritesList l o o' r == that, of the plain list; WritesFloorList p l o o' r, of the list under a floor of p percent
-- l are the bytes of the block, o is the lent buffer before the call and o' after it, r is the answer.
-- Definitions only.
use Rattle.std.specs.Prelude.{◌≡◌, List, ◌⊎◌, ℕ, ◌≤◌, ◌<◌, length, Result, Ok, Err}
use Rattle.endian.specs.Numbers.{over}
use Rattle.faults.specs.declared.refusal.Refusal.{Refusal}
use Rattle.faults.specs.Refusal.{number_of}
use Rattle.list.specs.declared.Listed.{Listed}
use Rattle.floor.specs.declared.Profile.{Profile}
use Rattle.floor.specs.declared.Profile.TheVariants.{Plain, Floor}
use Rattle.list.specs.Listing.{Lists}

abbrev pub as_listed : Result ℕ Refusal → Listed
as_listed (Ok n) = record { code = 0; number = 0; length = n }
as_listed (Err e) = record { code = number_of e; number = 0; length = 0 }

-- the list stands at the buffer's start, the rest of the buffer stays, and the list's length is the answer
pub record Fits (q : Profile) (l o o' : List ℕ) (r : Listed) : Type 0 where
  pub text : List ℕ
  pub lists : Lists q l text
  pub room : length text ≤ length o
  pub answer : r ≡ record { code = 0; number = 0; length = length text }
  pub content : o' ≡ over o 0 text

-- 5: "buffer too short"; the buffer stays. No list is longer than 71,680 characters
pub record Short (q : Profile) (l o o' : List ℕ) (r : Listed) : Type 0 where
  pub text : List ℕ
  pub lists : Lists q l text
  pub within : length text ≤ 71680
  pub room : length o < length text
  pub answer : r ≡ record { code = 5; number = 0; length = 0 }
  pub content : o' ≡ o

abbrev pub WritesBy : Profile → List ℕ → List ℕ → List ℕ → Listed → Type 0
WritesBy q l o o' r = Fits q l o o' r ⊎ Short q l o o' r

abbrev pub WritesList : List ℕ → List ℕ → List ℕ → Listed → Type 0
WritesList l o o' r = WritesBy Plain l o o' r

abbrev pub WritesFloorList : ℕ → List ℕ → List ℕ → List ℕ → Listed → Type 0
WritesFloorList p l o o' r = WritesBy (Floor p) l o o' r
