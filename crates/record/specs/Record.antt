-- A record of an element block (01, "Element block": "records of 80 bytes: id u32, kind u8, level limit u8, two zero bytes, nine pairs
-- x, y of i32; the kind's nodes come first in their order, and pairs not used by the kind are zero"; 02, Ask 4: "Version 2 uses the two
-- zero bytes: the first is 0 unsigned, 1 signed valid, 2 signed invalid; the second is the level of that verdict, 0 when unsigned").
--   used r, unused r == the coordinates of the kind's nodes, and those behind them
--   most_sign v       == the greatest first byte in version v
--   Signed v s       == of a block of version v, s is the first byte of a signed record
--   HighSign v k s d == a signed record's second byte is above the kind's greatest level
--   WrongSign v s d  == two bytes that no record of version v has
--   WellFormed v r   == r is a record that a block of version v may hold
--   numbers_bytes zs  == signed numbers in four bytes each, one behind the other
--   record_bytes r    == the 80 bytes that r is written as
--   read_coords l at, read_record l at == what is read from the bytes l from the place `at` on
--   blank            == the record of zeros
-- Record is the struct of src/lib.rt: id, kind, level limit, the two bytes of its sign, and nine pairs as 18 whole numbers.
-- Definitions only.
use Rattle.std.specs.Prelude.{◌≡◌, cond, List, [], ◌∷◌, ◌++◌, ◌⊎◌, ℕ, ◌+◌, ◌*◌, ◌^◌, ◌≤◌, ◌<◌, eqb, ℤ, pos, length, get_or, take, drop, replicate}
use Rattle.algebra.specs.Fill.{list_to}
use Rattle.element.specs.Kinds.{Kind, NotStored, kind_of}
use Rattle.element.specs.Corners.{Collapsed}
use Rattle.element.specs.Refusals.{AboveLevel, Outside}
use Rattle.endian.specs.Numbers.{bytes, number, signed_bytes, signed_number, part}
use Rattle.record.specs.declared.Record.{Record}

-- two numbers a node
abbrev pub used : Record → List ℤ
used r = take (2 * r.kind) r.coords

abbrev pub unused : Record → List ℤ
unused r = drop (2 * r.kind) r.coords

-- ---- the sign; in version 1 the first byte is 0
abbrev pub most_sign : ℕ → ℕ
most_sign v = cond (eqb v 1) 0 2

abbrev pub Signed : ℕ → ℕ → Type 0
Signed v s = ¬ (s ≡ 0) × (s ≤ most_sign v)

abbrev pub HighSign : ℕ → Kind → ℕ → ℕ → Type 0
HighSign v k s d = Signed v s × AboveLevel k d

abbrev pub WrongSign : ℕ → ℕ → ℕ → Type 0
WrongSign v s d = (most_sign v < s) ⊎ ((s ≡ 0) × ¬ (d ≡ 0))

pub record WellFormed (v : ℕ) (r : Record) : Type 0 where
  pub id_fits : r.id < 256 ^ 4
  pub kind_known : ¬ NotStored r.kind
  pub level_allowed : ¬ AboveLevel (kind_of r.kind) r.limit
  pub nine_pairs : length r.coords ≡ 18
  pub inside : ¬ Outside (kind_of r.kind) (used r)
  pub corners_differ : ¬ Collapsed (kind_of r.kind) (used r)
  pub rest_zero : (k : ℕ) → get_or (unused r) k (pos 0) ≡ pos 0
  pub sign_level : ¬ HighSign v (kind_of r.kind) r.signed r.level
  pub sign_known : ¬ WrongSign v r.signed r.level

-- ---- written
abbrev pub numbers_bytes : List ℤ → List ℕ
numbers_bytes [] = []
numbers_bytes (z ∷ zs) = signed_bytes 4 z ++ numbers_bytes zs

abbrev pub record_bytes : Record → List ℕ
record_bytes r = bytes 4 r.id ++ (r.kind ∷ r.limit ∷ r.signed ∷ r.level ∷ numbers_bytes r.coords)

-- ---- read
abbrev pub read_coords : List ℕ → ℕ → List ℤ
read_coords l at = list_to 18 (λ k. signed_number (part (at + 8 + 4 * k) 4 l))

abbrev pub read_record : List ℕ → ℕ → Record
read_record l at =
    record {
      id = number (part at 4 l);
      kind = get_or l (at + 4) 0;
      limit = get_or l (at + 5) 0;
      signed = get_or l (at + 6) 0;
      level = get_or l (at + 7) 0;
      coords = read_coords l at;
    }

abbrev pub blank : Record
blank = record { id = 0; kind = 0; limit = 0; signed = 0; level = 0; coords = replicate 18 (pos 0) }
