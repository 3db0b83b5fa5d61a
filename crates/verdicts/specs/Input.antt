-- What the program prints of an input that may be longer than its buffer.
--   Begins input b n  == the first n bytes of the buffer b are those of the input: all of them, or as many as the buffer holds
--   ListsInput q b n t == t is the list, by the profile q, of every input that begins so
-- Definitions only.
use Rattle.std.specs.Prelude.{◌≡◌, List, ℕ, length, take}
use Rattle.floor.specs.declared.Profile.{Profile}
use Rattle.list.specs.Listing.{Lists}

abbrev pub Begins : List ℕ → List ℕ → ℕ → Type 0
Begins input b n = take n b ≡ take (length b) input

abbrev pub ListsInput : Profile → List ℕ → ℕ → List ℕ → Type 0
ListsInput q b n t = (input : List ℕ) → Begins input b n → Lists q input t
