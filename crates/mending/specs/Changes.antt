-- A block in which middle nodes of one record are replaced (02, Ask 12: "in version 2 a record with a replaced node becomes unsigned").
--   with_node l k i v == the bytes l with the point v for node i of record k
--   with_middle l k xs s m == that for the middle node m, with the middle of its edge, where s holds m
--   without_sign l k s == zero for both bytes of the sign of record k, where s holds a node
--   mended_bytes l k s == the bytes l with the nodes of s replaced in record k
--   mended_record r s == the record r with the nodes of s replaced
--   Touched k s i   == the byte i stands in a node of record k that s holds or, where it holds one, in the record's sign
-- xs is the coordinate list of the record, as it was. Definitions only.
use Rattle.std.specs.Prelude.{◌≡◌, true, cond, List, [], ◌∷◌, ◌++◌, ◌⊎◌, ℕ, ◌+◌, ◌*◌, ◌≤◌, ◌<◌, eqb, ℤ}
use Rattle.element.specs.Plane.{Vec}
use Rattle.endian.specs.Numbers.{over}
use Rattle.middles.specs.declared.Replaced.{Replaced}
use Rattle.middles.specs.Middles.{Middle, M01, M12, M02, middle_of, has, replacing, spot}
use Rattle.middles.specs.Sets.{size}
use Rattle.record.specs.declared.Record.{Record}
use Rattle.record.specs.Record.{used, unused, numbers_bytes}
use Rattle.block.specs.Block.{place, record_at}
use Rattle.block.specs.Changes.{with_sign}

-- the nodes stand behind id, kind, level limit and the two bytes of the sign, eight bytes each
abbrev pub with_node : List ℕ → ℕ → ℕ → Vec → List ℕ
with_node l k i v = over l (place k + (8 + 8 * i)) (numbers_bytes (v.x ∷ v.y ∷ []))

abbrev pub with_middle : List ℕ → ℕ → List ℤ → Replaced → Middle → List ℕ
with_middle l k xs s m = cond (has s m) (with_node l k (spot m) (middle_of xs m)) l

abbrev pub without_sign : List ℕ → ℕ → Replaced → List ℕ
without_sign l k s = cond (eqb (size s) 0) l (with_sign l k 0 0)

abbrev pub mended_bytes : List ℕ → ℕ → Replaced → List ℕ
mended_bytes l k s =
    let xs = used (record_at l k) in
    without_sign (with_middle (with_middle (with_middle l k xs s M01) k xs s M12) k xs s M02) k s

-- ---- what is read there
abbrev pub mended_record : Record → Replaced → Record
mended_record r s =
    record {
      id = r.id;
      kind = r.kind;
      limit = r.limit;
      signed = cond (eqb (size s) 0) r.signed 0;
      level = cond (eqb (size s) 0) r.level 0;
      coords = replacing (used r) s ++ unused r;
    }

-- ---- which bytes change
abbrev pub InNode : ℕ → ℕ → ℕ → Type 0
InNode k i b = (place k + (8 + 8 * i) ≤ b) × (b < place k + (16 + 8 * i))

abbrev pub InSign : ℕ → ℕ → Type 0
InSign k b = (place k + 6 ≤ b) × (b < place k + 8)

abbrev pub Touched : ℕ → Replaced → ℕ → Type 0
Touched k s b = ((m : Middle) × (has s m ≡ true) × InNode k (spot m) b) ⊎ (¬ (size s ≡ 0) × InSign k b)
