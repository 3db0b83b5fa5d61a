-- The order of codes of `straighten_record`, and which nodes it replaces (02, Ask 12: "A valid element, or a record signed valid, comes back
-- with none. A second call does it to record k of a block, at its stored limit"; "Refusals: for the second call the block's codes and 12; then
-- the verdict's own, with 1 for other kinds; then 22 exactly when none of the eight sets gives valid, never for a record signed valid, where
-- no set is tried").
--   SignedValid r   == the record r is signed valid
--   Hopeless r      == code 22 of the record r
--   own_codes r      == the codes that speak of the record r alone
--   mend_codes l k   == the order of `straighten_record` for record k of the bytes l
--   ChosenFor r s   == the nodes of s are those that are replaced in the record r
-- Definitions only.
use Rattle.std.specs.Prelude.{◌≡◌, List, ◌⊎◌, ℕ}
use Rattle.element.specs.Refusals.{Codes, no_more, code, ◌then◌, six_codes}
use Rattle.judge.specs.Verdict.{valid}
use Rattle.middles.specs.declared.Replaced.{Replaced}
use Rattle.middles.specs.Sets.{none}
use Rattle.straighten.specs.Calls.{NoneValid, Chosen}
use Rattle.record.specs.declared.Record.{Record}
use Rattle.record.specs.Record.{used}
use Rattle.signs.specs.Signs.{sign_of}
use Rattle.block.specs.Block.{record_at}
use Rattle.block.specs.Faults.{Fault, naming, fetch_codes}

abbrev pub SignedValid : Record → Type 0
SignedValid r = r.signed ≡ sign_of valid

-- 22: "exactly when none of the eight sets gives valid, never for a record signed valid"
abbrev pub Hopeless : Record → Type 0
Hopeless r = ¬ SignedValid r × NoneValid r.limit (used r)

abbrev pub own_codes : Record → Codes ℕ
own_codes r = six_codes r.kind r.limit (used r) then code 22 (Hopeless r) no_more

-- named is record k, which is stored
abbrev pub mend_codes : List ℕ → ℕ → Codes Fault
mend_codes l k = fetch_codes l k then naming k (own_codes (record_at l k))

-- ---- the choice
abbrev pub ChosenFor : Record → Replaced → Type 0
ChosenFor r s = (SignedValid r × (s ≡ none)) ⊎ (¬ SignedValid r × Chosen r.limit (used r) s)
