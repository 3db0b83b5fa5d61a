-- What the functions under `straighten_record` answer.
--   as_record f      == the record that a fetch answers
--   Sound r         == what the check of a block tells: nine pairs, and a six-node triangle that is accepted under the stored limit
--   Refuses, Replaces r k m == record k, which is r, is refused, or nodes of it are replaced
--   Tells r k m     == the one or the other
--   Tried l k m     == what is answered about record k of the bytes l, before a byte is changed
--   as_vec v         == a point of the code
-- m is the answer. Definitions only.
use Rattle.std.specs.Prelude.{◌≡◌, List, ◌⊎◌, ℕ, length}
use Rattle.element.specs.Refusals.{Refused, Accepted, level_codes}
use Rattle.element.specs.Plane.{Vec}
use Rattle.middles.specs.declared.Node.{Node}
use Rattle.middles.specs.declared.Replaced.{Replaced}
use Rattle.straighten.specs.Calls.{given, refusal}
use Rattle.record.specs.declared.Record.{Record}
use Rattle.record.specs.Record.{used}
use Rattle.block.specs.declared.Fetched.{Fetched}
use Rattle.mending.specs.declared.Mended.{Mended}
use Rattle.mending.specs.Orders.{own_codes, ChosenFor}
use Rattle.mending.specs.Calls.{answer_of, NotMended, IsMended}

abbrev pub as_record : Fetched → Record
as_record f =
    record { id = f.id; kind = f.kind; limit = f.limit; signed = f.signed; level = f.level; coords = f.coords }

abbrev pub as_vec : Node → Vec
as_vec v = record { x = v.x; y = v.y }

pub record Sound (r : Record) : Type 0 where
  pub pairs : length r.coords ≡ 18
  pub taken : r.kind ≡ 6 → Accepted (level_codes r.kind r.limit (used r))

-- ---- one record
pub record Refuses (r : Record) (k : ℕ) (m : Mended) : Type 0 where
  pub refused : Refused (own_codes r) m.code
  pub zeros : m ≡ answer_of m.code k (refusal m.code)

pub record Replaces (r : Record) (k : ℕ) (m : Mended) : Type 0 where
  pub accepted : Accepted (own_codes r)
  pub set : Replaced
  pub chosen : ChosenFor r set
  pub told : m ≡ answer_of 0 0 (given (used r) set)

abbrev pub Tells : Record → ℕ → Mended → Type 0
Tells r k m = Refuses r k m ⊎ Replaces r k m

-- ---- record k of a block
abbrev pub Tried : List ℕ → ℕ → Mended → Type 0
Tried l k m = NotMended l k m l ⊎ ((a : List ℕ) × IsMended l k m a)
