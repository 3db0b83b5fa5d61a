-- Refusals by number, in a fixed order (01, "Codes and what they leave": "The first fault in this order counts").
--   Codes A          == faults in their order, each with the answer that names it
--   o then p         == the order o, and then the order p
--   Refused o c      == c names the first fault of the order that is there
--   Accepted o       == no fault of the order is there
--   Coded o c        == c is the code of a call with this order: 0 when it is accepted
--   Beyond n xs, Astray n xs == some number is beyond n; xs is not within n, neither as it stands nor from the first node
--   NotStored n, NotKind n, OtherKind n, AboveLevel k l, WrongCount n many, WrongLength n xs, Outside k xs, Collapsed k xs, ShortRoom k room == the faults of an element
--   node_codes k xs o == what is asked of an element's nodes, wherever they stand: 4, then 21; and then the order o
--   element_codes n xs o == what is asked of a coordinate list, and then the order o
--   level_codes n l xs == a level limit, and a coordinate list
--   control_codes, bounds_codes, verdict_codes == the orders of the calls that take every kind
--   stored_codes == the order of an element that is to go into a block, and of one with a proof sheet
--   six_codes == the order of a six-node triangle that is to be straightened
-- Definitions only.
use Rattle.std.specs.Prelude.{◌≡◌, List, ◌⊎◌, ℕ, ◌*◌, ◌<◌, ℤ, nat_abs, length}
use Rattle.element.specs.Kinds.{Kind, kind_of, NotStored, NotKind, OtherKind, coordinate_limit, greatest_level, value_count}
use Rattle.element.specs.Control.{at}
use Rattle.element.specs.Origin.{from_first, Unheld}
use Rattle.element.specs.Corners.{Collapsed}

pub data Codes (A : Type 0) : Type 1 where
  no_more : Codes A
  code : A → Type 0 → Codes A → Codes A

abbrev pub Refused : {A : Type 0} → Codes A → A → Type 0
Refused no_more c = ⊥
Refused (code n F o) c = (F × (c ≡ n)) ⊎ (¬ F × Refused o c)

abbrev pub Accepted : {A : Type 0} → Codes A → Type 0
Accepted no_more = Unit {0}
Accepted (code n F o) = ¬ F × Accepted o

infixr 20 ◌then◌
abbrev pub ◌then◌ : {A : Type 0} → Codes A → Codes A → Codes A
no_more then p = p
(code a F o) then p = code a F (o then p)

pub data Coded (o : Codes ℕ) (c : ℕ) : Type 0 where
  refused : Refused o c → Coded o c
  accepted : Accepted o → c ≡ 0 → Coded o c

-- ---- the faults; n is the number given as the kind
-- 2: "level limit above the kind's greatest"
abbrev pub AboveLevel : Kind → ℕ → Type 0
AboveLevel k l = greatest_level k < l

-- 3: "coordinate list not 2 numbers per node"
abbrev pub WrongCount : ℕ → ℕ → Type 0
WrongCount n many = ¬ (many ≡ 2 * n)

abbrev pub WrongLength : ℕ → List ℤ → Type 0
WrongLength n xs = WrongCount n (length xs)

-- 4: "a coordinate outside its limit"; "the coordinates are accepted if all lie within the kind's limit, as before, or if every node's
-- difference from the first node, in x and in y, does", and "Code 4 is given when neither holds" (02, Ask 7). The calls are given i32; a
-- text may say a number that is none, and no record holds it, wherever the first node is
abbrev pub Beyond : ℕ → List ℤ → Type 0
Beyond n xs = (i : ℕ) × (i < length xs) × (n < nat_abs (at xs i))

abbrev pub Astray : ℕ → List ℤ → Type 0
Astray n xs = Beyond n xs × (Beyond n (from_first xs) ⊎ Unheld xs)

abbrev pub Outside : Kind → List ℤ → Type 0
Outside k xs = Astray (coordinate_limit k) xs

-- 5: "buffer too short"
abbrev pub ShortRoom : Kind → ℕ → Type 0
ShortRoom k room = room < value_count k

-- ---- the orders
-- "21, directly after 4 wherever 4 stands" (02, Ask 9)
abbrev pub node_codes : Kind → List ℤ → Codes ℕ → Codes ℕ
node_codes k xs o = code 4 (Outside k xs) (code 21 (Collapsed k xs) o)

-- "Control values and bounds: 1, 3, 4, then 5 (control values only)"
abbrev pub element_codes : ℕ → List ℤ → Codes ℕ → Codes ℕ
element_codes n xs o = code 3 (WrongLength n xs) (node_codes (kind_of n) xs o)

abbrev pub control_codes : ℕ → List ℤ → ℕ → Codes ℕ
control_codes n xs room = code 1 (NotKind n) (element_codes n xs (code 5 (ShortRoom (kind_of n) room) no_more))

abbrev pub bounds_codes : ℕ → List ℤ → Codes ℕ
bounds_codes n xs = code 1 (NotKind n) (element_codes n xs no_more)

-- "Verdict: 1, 2, 3, 4", with 21 after 4
abbrev pub level_codes : ℕ → ℕ → List ℤ → Codes ℕ
level_codes n l xs = code 2 (AboveLevel (kind_of n) l) (element_codes n xs no_more)

abbrev pub verdict_codes : ℕ → ℕ → List ℤ → Codes ℕ
verdict_codes n l xs = code 1 (NotKind n) (level_codes n l xs)

-- "no other call" takes kind 10: there it is code 1
abbrev pub stored_codes : ℕ → ℕ → List ℤ → Codes ℕ
stored_codes n l xs = code 1 (NotStored n) (level_codes n l xs)

-- "the verdict's own, with 1 for other kinds" (02, Ask 12)
abbrev pub six_codes : ℕ → ℕ → List ℤ → Codes ℕ
six_codes n l xs = code 1 (OtherKind n) (level_codes n l xs)
