-- Records that are tried one after another: those that pass are written one behind the other, into bytes of the pass.
--   opening b used   == the tally before the first, behind the block in the first `used` bytes of b
--   Moved gs p s b r a == gs pass, and p more were passed over: the tally s has become r, the bytes b have become a
--   Halted gs s b c a == some of gs is refused, with the code c
--   Moves gs p s b r a == the one or the other, by the answer r
-- Definitions only.
use Rattle.std.specs.Prelude.{◌≡◌, List, ℕ, ◌+◌, ◌-◌, ◌*◌, length, take, Result, Ok, Err}
use Rattle.faults.specs.declared.refusal.Refusal.{Refusal}
use Rattle.faults.specs.Refusal.{number_of}
use Rattle.endian.specs.Numbers.{over}
use Rattle.block.specs.Block.{records_bytes, count_of}
use Rattle.block.specs.Faults.{lowest}
use Rattle.append.specs.Series.{Given, records, Carried, Stops, Passes}
use Rattle.batch.specs.declared.Tally.{Tally}

abbrev pub opening : List ℕ → ℕ → Tally
opening b used =
    let l = take used b in
    record { low = lowest l (count_of l); count = count_of l; room = length b - used; taken = 0; passed = 0 }

pub record Moved (gs : List Given) (p : ℕ) (s : Tally) (b : List ℕ) (r : Tally) (a : List ℕ) : Type 0 where
  pub passes : Passes s.low s.count s.room gs
  pub carried : Carried s.low s.count s.room gs r.low r.count r.room
  pub counted : r.taken ≡ s.taken + length gs
  pub left_out : r.passed ≡ s.passed + p
  pub written : a ≡ over b (80 * s.taken) (records_bytes (records gs))

pub record Halted (gs : List Given) (s : Tally) (b : List ℕ) (c : ℕ) (a : List ℕ) : Type 0 where
  pub stops : Stops s.low s.count s.room gs c
  pub long : length a ≡ length b

abbrev pub Moves : List Given → ℕ → Tally → List ℕ → Result Tally Refusal → List ℕ → Type 0
Moves gs p s b (Ok r) a = Moved gs p s b r a
Moves gs p s b (Err e) a = Halted gs s b (number_of e) a
