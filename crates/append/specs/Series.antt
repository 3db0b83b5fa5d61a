-- A run of calls of `append_record`, one for each of a list, each on what the one before left; the first that is refused ends it.
--   Given            == what one call is given besides the buffer and the bytes used
--   Series b used gs r a == the run over gs answers r, and leaves a of b
--   given g, records gs == the record of what is given, and those of a list
--   filled b used gs == b with the records of gs written from `used` on, and the count that many higher
--   IdsFit gs        == each id of gs fits four bytes
--   next_codes low count room g == the order of one call of the run: over a good block of so many records, with so many bytes behind
--                       it, where low is the least id that may follow
--   low_after low gs == the least id that may follow those of gs: low where there are none
--   Carried low count room gs l n m == l, n and m are what low, count and room are after gs
--   Stops low count room gs c == c is the code of the first of gs that is refused, each after the ones before
--   Passes low count room gs == none of them is refused
-- b and a are the buffer's content before and after, r is the answer.
-- Definitions only.
use Rattle.std.specs.Prelude.{◌≡◌, List, [], ◌∷◌, map, ℕ, suc, ◌+◌, ◌-◌, ◌*◌, ◌^◌, ◌<◌, ℤ, length, take}
use Rattle.element.specs.Refusals.{Codes, ◌then◌, Refused, Accepted, stored_codes}
use Rattle.endian.specs.Numbers.{over}
use Rattle.record.specs.declared.Record.{Record}
use Rattle.block.specs.Block.{records_bytes, count_of}
use Rattle.append.specs.declared.Appended.{Appended}
use Rattle.append.specs.Append.{new_record, follow_codes}
use Rattle.append.specs.Calls.{with_count, Appends}

pub record Given : Type 0 where
  pub id : ℕ
  pub kind : ℕ
  pub limit : ℕ
  pub coords : List ℤ

-- ---- call by call
pub data Series : List ℕ → ℕ → List Given → Appended → List ℕ → Type 0 where
  ended : {b : List ℕ} {used : ℕ} → Series b used [] (record { code = 0; number = 0; used = used }) b
  stopped : {b : List ℕ} {used : ℕ} {g : Given} {gs : List Given} {r : Appended} {a : List ℕ}
      → Appends b used g.id g.kind g.limit g.coords r a
      → ¬ (r.code ≡ 0)
      → Series b used (g ∷ gs) r a
  onward : {b : List ℕ} {used : ℕ} {g : Given} {gs : List Given} {r s : Appended} {a c : List ℕ}
      → Appends b used g.id g.kind g.limit g.coords r a
      → r.code ≡ 0
      → Series a r.used gs s c
      → Series b used (g ∷ gs) s c

-- ---- at once
abbrev pub given : Given → Record
given g = new_record g.id g.kind g.limit g.coords

abbrev pub records : List Given → List Record
records gs = map given gs

abbrev pub filled : List ℕ → ℕ → List Given → List ℕ
filled b used gs = with_count (over b used (records_bytes (records gs))) (count_of (take used b) + length gs)

-- ---- with numbers that are carried on
abbrev pub IdsFit : List Given → Type 0
IdsFit [] = Unit {0}
IdsFit (g ∷ gs) = (g.id < 256 ^ 4) × IdsFit gs

abbrev pub next_codes : ℕ → ℕ → ℕ → Given → Codes ℕ
next_codes low count room g = stored_codes g.kind g.limit g.coords then follow_codes low count room g.id

abbrev pub low_after : ℕ → List Given → ℕ
low_after low [] = low
low_after low (g ∷ gs) = low_after (suc g.id) gs

pub record Carried (low count room : ℕ) (gs : List Given) (l n m : ℕ) : Type 0 where
  pub low_is : l ≡ low_after low gs
  pub count_is : n ≡ count + length gs
  pub room_is : m ≡ room - 80 * length gs

pub data Stops : ℕ → ℕ → ℕ → List Given → ℕ → Type 0 where
  here : {low count room : ℕ} {g : Given} {gs : List Given} {c : ℕ}
      → Refused (next_codes low count room g) c
      → Stops low count room (g ∷ gs) c
  later : {low count room : ℕ} {g : Given} {gs : List Given} {c : ℕ}
      → Accepted (next_codes low count room g)
      → Stops (suc g.id) (suc count) (room - 80) gs c
      → Stops low count room (g ∷ gs) c

pub data Passes : ℕ → ℕ → ℕ → List Given → Type 0 where
  empty : {low count room : ℕ} → Passes low count room []
  first : {low count room : ℕ} {g : Given} {gs : List Given}
      → Accepted (next_codes low count room g)
      → Passes (suc g.id) (suc count) (room - 80) gs
      → Passes low count room (g ∷ gs)
