-- The faults of a stored record, and their order (01, "Codes and what they leave": "record by record 1, 2, 9, 4, 10"; 02, Ask 9: "21, directly
-- after 4 wherever 4 stands"; 02, Ask 4: "2 also
-- for a signed record's second byte above the kind's greatest level; 9 for a first byte above 2, an unsigned record's non-zero second
-- byte, and unused pairs").
--   TooHigh v r   == code 2: the level limit, or a signed record's level, is above the kind's greatest
--   NotZero v r   == code 9: the two bytes are none of version v, or an unused pair is not zero
--   TooLow low id == code 10, where low is the least id that may follow the one before
--   sign_codes v k s d == the order of the two bytes alone
--   record_codes v l at low == the order
-- Codes 1, 2, 4 and 21 are those of an element, of the kind, the level limit and the used coordinates that are read.
-- Definitions only.
use Rattle.std.specs.Prelude.{List, ◌⊎◌, ℕ, ◌<◌}
use Rattle.element.specs.Kinds.{Kind, NotStored, kind_of}
use Rattle.element.specs.Refusals.{Codes, no_more, code, AboveLevel, Beyond, node_codes}
use Rattle.record.specs.declared.Record.{Record}
use Rattle.record.specs.Record.{used, unused, HighSign, WrongSign, read_record}

-- 2: "level limit above the kind's greatest"
abbrev pub TooHigh : ℕ → Record → Type 0
TooHigh v r = AboveLevel (kind_of r.kind) r.limit ⊎ HighSign v (kind_of r.kind) r.signed r.level

-- 9: "the two bytes or an unused pair not zero"; in version 1 no other two bytes than 0 and 0 are right
abbrev pub NotZero : ℕ → Record → Type 0
NotZero v r = WrongSign v r.signed r.level ⊎ Beyond 0 (unused r)

-- 10: "id not above the one before"
abbrev pub TooLow : ℕ → ℕ → Type 0
TooLow low id = id < low

abbrev pub sign_codes : ℕ → Kind → ℕ → ℕ → Codes ℕ
sign_codes v k s d = code 2 (HighSign v k s d) (code 9 (WrongSign v s d) no_more)

abbrev pub record_codes : ℕ → List ℕ → ℕ → ℕ → Codes ℕ
record_codes v l at low =
    let r = read_record l at in
    code 1 (NotStored r.kind)
    (code 2 (TooHigh v r)
    (code 9 (NotZero v r)
    (node_codes (kind_of r.kind) (used r)
    (code 10 (TooLow low r.id)
    no_more))))
