-- An element block, by writing (01, "Element block": "Header of 9 bytes: mark CEL, version u16 = 1, count u32, at most 800. Then records
-- of 80 bytes .. Ids rise strictly. Records count from 0"; 02, Ask 4: "Version 1 remains readable").
--   Version v      == v is a version: 1 or 2
--   header v n     == the nine bytes of a header of version v with the count n
--   records_bytes rs, block_bytes v rs == the records one behind the other, and the block of them
--   record_of rs k == the record k of the list; past its end stands the record of zeros
--   Holds v l rs   == the bytes l are the block of version v of the records rs
--   version_of l, count_of l == the version and the count that are read in a header
--   place k        == where record k begins
--   record_at l k   == the record k that is read from the bytes l
--   records_from n k l, records_in l == n records from record k on, and all that the count says
-- Definitions only.
use Rattle.std.specs.Prelude.{◌≡◌, List, [], ◌∷◌, ◌++◌, ◌⊎◌, ℕ, zero, suc, ◌+◌, ◌*◌, ◌≤◌, ◌<◌, length, get_or}
use Rattle.endian.specs.Numbers.{bytes, number, part}
use Rattle.record.specs.declared.Record.{Record}
use Rattle.record.specs.Record.{WellFormed, record_bytes, read_record, blank}
use Rattle.signs.specs.Signs.{Differs}

-- ---- written; 67, 69 and 76 are the letters C, E and L
abbrev pub Version : ℕ → Type 0
Version v = (v ≡ 1) ⊎ (v ≡ 2)

abbrev pub header : ℕ → ℕ → List ℕ
header v n = 67 ∷ 69 ∷ 76 ∷ (bytes 2 v ++ bytes 4 n)

abbrev pub records_bytes : List Record → List ℕ
records_bytes [] = []
records_bytes (r ∷ rs) = record_bytes r ++ records_bytes rs

abbrev pub block_bytes : ℕ → List Record → List ℕ
block_bytes v rs = header v (length rs) ++ records_bytes rs

abbrev pub record_of : List Record → ℕ → Record
record_of rs k = get_or rs k blank

pub record Holds (v : ℕ) (l : List ℕ) (rs : List Record) : Type 0 where
  pub version : Version v
  pub written : l ≡ block_bytes v rs
  pub few : length rs ≤ 800
  pub formed : (k : ℕ) → k < length rs → WellFormed v (record_of rs k)
  pub rise : (k : ℕ) → suc k < length rs → (record_of rs k).id < (record_of rs (suc k)).id
  pub kept : (k : ℕ) → k < length rs → ¬ Differs (record_of rs k)

-- ---- read
abbrev pub version_of : List ℕ → ℕ
version_of l = number (part 3 2 l)

abbrev pub count_of : List ℕ → ℕ
count_of l = number (part 5 4 l)

abbrev pub place : ℕ → ℕ
place k = 9 + 80 * k

abbrev pub record_at : List ℕ → ℕ → Record
record_at l k = read_record l (place k)

abbrev pub records_from : ℕ → ℕ → List ℕ → List Record
records_from zero k l = []
records_from (suc n) k l = record_at l k ∷ records_from n (suc k) l

abbrev pub records_in : List ℕ → List Record
records_in l = records_from (count_of l) 0 l
