-- The faults of a block and their order (01, "Codes and what they leave": "Block: 6, 7, 8, then record by record 1, 2, 9, 4, 10. Fetch:
-- block, 12"; 02, Ask 9: 21 "directly after 4"; 02, Ask 4: "last in every block check, 19 for the first signed record whose verdict or level
-- differs").
--   Fault           == what names a fault: a code, and the record number ("for faults in a stored record, else 0")
--   naming k o      == the faults of o, named with the record number k
--   each o n k      == the orders o k, o (k + 1), .. of n records from record k on, each named with its number
--   NotBlock l, OtherVersion a b l, WrongSize l == codes 6, 7, 8; a call takes the versions a to b
--   lowest l k      == the least id that record k may have
--   codes_at l k     == the order of record k
--   sign_at l k      == code 19 of record k
--   version_codes, header_codes, form_codes, block_codes == the orders; form_codes is what is seen without a verdict
--   beyond_codes l k, fetch_codes l k == code 12 alone, and the order of a fetch
-- Definitions only.
use Rattle.std.specs.Prelude.{◌≡◌, List, [], ◌∷◌, ◌⊎◌, ℕ, zero, suc, ◌+◌, ◌*◌, ◌≤◌, ◌<◌, length, take}
use Rattle.element.specs.Refusals.{Codes, no_more, code, ◌then◌}
use Rattle.record.specs.Faults.{record_codes}
use Rattle.signs.specs.Signs.{Differs}
use Rattle.block.specs.Block.{version_of, count_of, place, record_at}

pub record Fault : Type 0 where
  pub code : ℕ
  pub number : ℕ

abbrev pub naming : ℕ → Codes ℕ → Codes Fault
naming k no_more = no_more
naming k (code c F o) = code (record { code = c; number = k }) F (naming k o)

abbrev pub each : (ℕ → Codes ℕ) → ℕ → ℕ → Codes Fault
each o zero k = no_more
each o (suc n) k = naming k (o k) then each o n (suc k)

-- ---- the header
-- 6: "under 9 bytes, or another mark"
abbrev pub NotBlock : List ℕ → Type 0
NotBlock l = (length l < 9) ⊎ ¬ (take 3 l ≡ 67 ∷ 69 ∷ 76 ∷ [])

-- 7: "another version"; a call takes the versions a to b
abbrev pub OtherVersion : ℕ → ℕ → List ℕ → Type 0
OtherVersion a b l = (version_of l < a) ⊎ (b < version_of l)

-- 8: "count above 800, or length not 9 + 80·count"
abbrev pub WrongSize : List ℕ → Type 0
WrongSize l = (800 < count_of l) ⊎ ¬ (length l ≡ 9 + 80 * count_of l)

abbrev pub version_codes : ℕ → ℕ → List ℕ → Codes ℕ
version_codes a b l = code 6 (NotBlock l) (code 7 (OtherVersion a b l) no_more)

abbrev pub header_codes : List ℕ → Codes ℕ
header_codes l = version_codes 1 2 l then code 8 (WrongSize l) no_more

-- ---- the records; the first id may be 0, and any other is above the one before
abbrev pub lowest : List ℕ → ℕ → ℕ
lowest l zero = 0
lowest l (suc k) = suc (record_at l k).id

abbrev pub codes_at : List ℕ → ℕ → Codes ℕ
codes_at l k = record_codes (version_of l) l (place k) (lowest l k)

abbrev pub form_codes : List ℕ → Codes Fault
form_codes l = naming 0 (header_codes l) then each (codes_at l) (count_of l) 0

-- 19: "for the first signed record whose verdict or level differs"
abbrev pub sign_at : List ℕ → ℕ → Codes ℕ
sign_at l k = code 19 (Differs (record_at l k)) no_more

abbrev pub block_codes : List ℕ → Codes Fault
block_codes l = form_codes l then each (sign_at l) (count_of l) 0

-- 12: "k not below the count"
abbrev pub beyond_codes : List ℕ → ℕ → Codes ℕ
beyond_codes l k = code 12 (count_of l ≤ k) no_more

abbrev pub fetch_codes : List ℕ → ℕ → Codes Fault
fetch_codes l k = block_codes l then naming 0 (beyond_codes l k)
