-- The kinds of element and their limits (01, "What the build covers": the table).
--   Kind              == the kinds, named by their node count: six, eight, nine, ten
--   node_count k       == how many nodes the kind has
--   kind_of n          == the kind of n nodes
--   NotStored n, NotKind n == n is none of the kinds that a block holds; n is none of the kinds
--   OtherKind n       == n is not the kind of the six-node triangle
--   coordinate_limit k == no coordinate is larger in size
--   greatest_level k   == no level limit is above it
--   value_count k      == how many control values an element has
--   scale k d         == what J is multiplied by at level d
--   size_limit k d     == no value of level d is larger in size
-- Definitions only.
use Rattle.std.specs.Prelude.{◌≡◌, cond, ℕ, ◌*◌, ◌^◌, eqb}

pub data Kind : Type 0 where
  six eight nine ten : Kind

abbrev pub node_count : Kind → ℕ
node_count six = 6
node_count eight = 8
node_count nine = 9
node_count ten = 10

-- "kind is not 6, 8 or 9"
abbrev pub NotStored : ℕ → Type 0
NotStored n = ¬ (n ≡ 6) × ¬ (n ≡ 8) × ¬ (n ≡ 9)

-- "Verdict, bounds and control values take it, no other call" (02, Ask 11): kind 10 is one more
abbrev pub NotKind : ℕ → Type 0
NotKind n = NotStored n × ¬ (n ≡ 10)

-- "Kind 6 only (else code 1)" (02, Ask 3); "1 for other kinds" (02, Ask 12)
abbrev pub OtherKind : ℕ → Type 0
OtherKind n = ¬ (n ≡ 6)

-- where there is no kind of n nodes it is of no account
abbrev pub kind_of : ℕ → Kind
kind_of n = cond (eqb n 6) six (cond (eqb n 8) eight (cond (eqb n 10) ten nine))

abbrev pub coordinate_limit : Kind → ℕ
coordinate_limit six = 65536
coordinate_limit eight = 2048
coordinate_limit nine = 2048
coordinate_limit ten = 1024

abbrev pub greatest_level : Kind → ℕ
greatest_level six = 10
greatest_level eight = 4
greatest_level nine = 4
greatest_level ten = 5

abbrev pub value_count : Kind → ℕ
value_count six = 6
value_count eight = 16
value_count nine = 16
value_count ten = 15

abbrev pub scale : Kind → ℕ → ℕ
scale six d = 2 * 4 ^ d
scale eight d = 36 * 64 ^ d
scale nine d = 36 * 64 ^ d
scale ten d = 192 * 16 ^ d

-- "at most 400 · C² · 4^d for triangles and 41,472 · C² · 64^d for quads, C the coordinate limit"; of ten nodes 271,776 · C² · 16^d
abbrev pub size_limit : Kind → ℕ → ℕ
size_limit six d = 400 * (65536 * 65536) * 4 ^ d
size_limit eight d = 41472 * (2048 * 2048) * 64 ^ d
size_limit nine d = 41472 * (2048 * 2048) * 64 ^ d
size_limit ten d = 271776 * (1024 * 1024) * 16 ^ d
