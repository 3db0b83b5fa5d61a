-- The orders of codes of the calls that change a block's version, or the sign of a record (02, Ask 4: "converting or signing the wrong
-- version 7, in its old place; converting back a signed record 18, after 19; signing the block's codes, 12, then 24 for an undecided
-- record").
--   of_version v l   == the block's codes for a call that takes the version v alone: 6 and 7 come first, and the block's own are given in vain
--   signed_at l k    == code 18 of record k
--   open_at l k      == code 24 of record k
--   newer_codes l, older_codes l == the orders of `to_version_2` and `to_version_1`
--   sign_codes l k   == that of `sign_record`
-- Definitions only.
use Rattle.std.specs.Prelude.{◌≡◌, List, ℕ}
use Rattle.element.specs.Refusals.{Codes, no_more, code, ◌then◌}
use Rattle.signs.specs.Signs.{Open}
use Rattle.block.specs.Block.{count_of, record_at}
use Rattle.block.specs.Faults.{Fault, naming, each, version_codes, block_codes, beyond_codes}

abbrev pub of_version : ℕ → List ℕ → Codes Fault
of_version v l = naming 0 (version_codes v v l) then block_codes l

abbrev pub newer_codes : List ℕ → Codes Fault
newer_codes l = of_version 1 l

-- 18: "converting back a signed record"; named is the first
abbrev pub signed_at : List ℕ → ℕ → Codes ℕ
signed_at l k = code 18 (¬ ((record_at l k).signed ≡ 0)) no_more

abbrev pub older_codes : List ℕ → Codes Fault
older_codes l = of_version 2 l then each (signed_at l) (count_of l) 0

-- 24: "for an undecided record"; named is record k, which is stored
abbrev pub open_at : List ℕ → ℕ → Codes ℕ
open_at l k = code 24 (Open (record_at l k)) no_more

abbrev pub sign_codes : List ℕ → ℕ → Codes Fault
sign_codes l k = of_version 2 l then naming 0 (beyond_codes l k) then naming k (open_at l k)
