-- Blocks that differ in a byte or two (02, Ask 4).
--   with_version l v   == the bytes l with the version v
--   with_sign l k s d  == the bytes l with s and d for the two bytes of record k
--   with_limit l k m   == the bytes l with the level limit m in record k
--   signed_as r s d    == the record r with the two bytes s and d
--   limited_to r m     == the record r with the level limit m
-- Definitions only.
use Rattle.std.specs.Prelude.{List, [], ◌∷◌, ℕ, ◌+◌}
use Rattle.endian.specs.Numbers.{bytes, over}
use Rattle.record.specs.declared.Record.{Record}
use Rattle.block.specs.Block.{place}

-- the version stands behind the mark
abbrev pub with_version : List ℕ → ℕ → List ℕ
with_version l v = over l 3 (bytes 2 v)

-- id, kind, level limit, and then the two bytes
abbrev pub with_sign : List ℕ → ℕ → ℕ → ℕ → List ℕ
with_sign l k s d = over l (place k + 6) (s ∷ d ∷ [])

abbrev pub with_limit : List ℕ → ℕ → ℕ → List ℕ
with_limit l k m = over l (place k + 5) (m ∷ [])

abbrev pub signed_as : Record → ℕ → ℕ → Record
signed_as r s d =
    record { id = r.id; kind = r.kind; limit = r.limit; signed = s; level = d; coords = r.coords }

abbrev pub limited_to : Record → ℕ → Record
limited_to r m =
    record { id = r.id; kind = r.kind; limit = m; signed = r.signed; level = r.level; coords = r.coords }
