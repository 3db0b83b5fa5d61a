-- Runs of a reader: it is opened over the bytes of a block, and stepped again and again (01, "Element block": "A block is walked from its
-- first record to its last by a reader that holds the bytes").
--   OpensReader s o == what `open_reader` promises of its answer o, over the slice s
--   StepsReader r q == what `step_reader` promises of its answer q, over the reader r
--   Ran o n r       == r is the reader after n steps of the one that o holds
--   record_next r, over_next == a step's answer: the record r, and the end
--   fetch_of n       == what a fetch answers where a step answers n: the record, or the code 12 at the end
-- Definitions only.
use Rattle.std.specs.Prelude.{◌≡◌, List, ℕ, suc, Option, Some, None}
use Rattle.std.specs.Borrow.{Bor}
use Rattle.record.specs.declared.Record.{Record}
use Rattle.record.specs.Record.{blank}
use Rattle.block.specs.declared.Fetched.{Fetched}
use Rattle.block.specs.Calls.{fetched}
use Rattle.reader.specs.declared.Opened.{Opened}
use Rattle.reader.specs.declared.Reader.{Reader}
use Rattle.reader.specs.declared.Stepped.{Stepped}
use Rattle.reader.specs.Steps.{Steps, Opens}

-- the reader holds the slice that was given
abbrev pub OpensReader : Bor (List ℕ) → Opened → Type 0
OpensReader s o = Opens s.now o.checked o.reader.place × (o.reader.slice ≡ s)

-- and holds it still after a step
abbrev pub StepsReader : Reader → Stepped → Type 0
StepsReader r q = Steps r.slice.now r.place q.next q.reader.place × (q.reader.slice ≡ r.slice)

pub data Ran (o : Opened) : ℕ → Reader → Type 0 where
  none : Ran o 0 o.reader
  more : {n : ℕ} {r : Reader} → Ran o n r → (q : Stepped) → StepsReader r q → Ran o (suc n) q.reader

abbrev pub record_next : Record → Option Record
record_next r = Some r

abbrev pub over_next : Option Record
over_next = None

abbrev pub fetch_of : Option Record → Fetched
fetch_of None = fetched 12 0 blank
fetch_of (Some r) = fetched 0 0 r
