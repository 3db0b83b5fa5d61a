-- A record to append, and the order of codes (01, "Codes and what they leave": "Append: 5 for `used`, block, then 1, 2, 3, 4, 10, 11,
-- 5 for room. Starting a block: 5"; 02, Ask 9: 21 "directly after 4").
--   padded xs      == nine pairs: the coordinates xs, and then zeros
--   new_record id n level xs == the record of what is given
--   follow_codes low count room id == codes 10, 11 and 5: behind a block of so many records, with so many bytes behind it, where low is
--                     the least id that may follow
--   new_codes l room id == the same over the block l
--   room_codes l room id n level xs == the orders of the block and of the record
--   used_codes b used, buffer_codes b used == the orders of the bytes used, and of them and the block in them
--   append_codes b used id n level xs == the order of `append_record`
--   start_codes b   == that of `start_block`
-- n is the number given as the kind, level the level limit, b the buffer's content.
-- Definitions only.
use Rattle.std.specs.Prelude.{List, ◌++◌, ℕ, ◌-◌, ◌≤◌, ◌<◌, ℤ, pos, length, take, replicate}
use Rattle.element.specs.Refusals.{Codes, no_more, code, ◌then◌, stored_codes}
use Rattle.record.specs.declared.Record.{Record}
use Rattle.record.specs.Faults.{TooLow}
use Rattle.block.specs.Block.{count_of}
use Rattle.block.specs.Faults.{Fault, naming, lowest, block_codes}

-- "pairs not used by the kind are zero"
abbrev pub padded : List ℤ → List ℤ
padded xs = xs ++ replicate (18 - length xs) (pos 0)

-- 02, Ask 4: "Append writes unsigned records"
abbrev pub new_record : ℕ → ℕ → ℕ → List ℤ → Record
new_record id n level xs = record { id = id; kind = n; limit = level; signed = 0; level = 0; coords = padded xs }

-- 10: "id not above the one before"; 11: "append to a block of 800"; 5: "buffer too short"
abbrev pub follow_codes : ℕ → ℕ → ℕ → ℕ → Codes ℕ
follow_codes low count room id = code 10 (TooLow low id) (code 11 (800 ≤ count) (code 5 (room < 80) no_more))

abbrev pub new_codes : List ℕ → ℕ → ℕ → Codes ℕ
new_codes l room id = follow_codes (lowest l (count_of l)) (count_of l) room id

abbrev pub room_codes : List ℕ → ℕ → ℕ → ℕ → ℕ → List ℤ → Codes Fault
room_codes l room id n level xs = block_codes l then naming 0 (stored_codes n level xs then new_codes l room id)

-- 5: "`used` beyond it"
abbrev pub used_codes : List ℕ → ℕ → Codes ℕ
used_codes b used = code 5 (length b < used) no_more

abbrev pub buffer_codes : List ℕ → ℕ → Codes Fault
buffer_codes b used = naming 0 (used_codes b used) then block_codes (take used b)

abbrev pub append_codes : List ℕ → ℕ → ℕ → ℕ → ℕ → List ℤ → Codes Fault
append_codes b used id n level xs = naming 0 (used_codes b used) then room_codes (take used b) (length b - used) id n level xs

abbrev pub start_codes : List ℕ → Codes ℕ
start_codes b = code 5 (length b < 9) no_more
