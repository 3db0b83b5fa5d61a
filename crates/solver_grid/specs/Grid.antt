-- A solver's grid of 1/1024 (02, Ask 13): the whole number that a float stands for, and the float that a whole number stands for.
--   Is1024th x v  == the float x is finite and is v / 1024
--   OnGrid x v    == it is, and v is an i32
--   Stands x      == there is such a whole number
--   NotFinite x, Between x, TooLarge x == the three that 02 names: x isn't finite, isn't on the grid, falls outside i32 after scaling
--   Fault x, SomeFault xs == one of the three, and that a number of the list has one
--   Tells x r     == r is the answer for x: the whole number, or that there is none
--   float xs k    == the float at place k of a list
--   SomeOff xs    == a number of the list stands for none
--   Over v x      == x is the f64 that is v / 1024; plus zero for zero
--   Returned x y  == y is the float x, or plus zero where that is minus zero
--   Subnormal x   == x is not zero, and below 2^-1022 in size
-- Definitions only.
use Rattle.std.specs.Prelude.{◌≡◌, ℕ, ◌*◌, ◌^◌, ◌<◌, true, false, ◌⊎◌, Option, Some, None, List, length, ℤ, pos, slice_index_or, Float}
use Rattle.std.specs.Float.{nan, inf, fin}
use Rattle.std.specs.Float.Ieee.{up, down}
use Rattle.floats.specs.Values.{F64, IsOver, zero_of}
use Rattle.element.specs.Origin.{Held}

abbrev pub Is1024th : Float → ℤ → Type 0
Is1024th x v = IsOver 1024 x v

-- ---- to whole numbers: "multiply by 1024, and give whole-number coordinates"
pub record OnGrid (x : Float) (v : ℤ) : Type 0 where
  pub is : Is1024th x v
  pub held : Held v

abbrev pub Stands : Float → Type 0
Stands x = (v : ℤ) × OnGrid x v

abbrev pub Tells : Float → Option ℤ → Type 0
Tells x (Some v) = OnGrid x v
Tells x None = ¬ Stands x

-- past the end stands what is no number
abbrev pub float : List Float → ℕ → Float
float xs k = slice_index_or xs k nan

abbrev pub SomeOff : List Float → Type 0
SomeOff xs = (i : ℕ) × (i < length xs) × ¬ Stands (float xs i)

-- "some number isn't finite, isn't on the grid, or falls outside i32 after scaling"
abbrev pub NotFinite : Float → Type 0
NotFinite nan = Unit {0}
NotFinite (inf s) = Unit {0}
NotFinite (fin s m e) = ⊥

pub record Between (x : Float) : Type 0 where
  pub finite : ¬ NotFinite x
  pub none : (v : ℤ) → ¬ Is1024th x v

pub record TooLarge (x : Float) : Type 0 where
  pub number : ℤ
  pub is : Is1024th x number
  pub unheld : ¬ Held number

abbrev pub Fault : Float → Type 0
Fault x = NotFinite x ⊎ (Between x ⊎ TooLarge x)

abbrev pub SomeFault : List Float → Type 0
SomeFault xs = (i : ℕ) × (i < length xs) × Fault (float xs i)

abbrev pub Subnormal : Float → Type 0
Subnormal nan = ⊥
Subnormal (inf s) = ⊥
Subnormal (fin s m e) = (0 < m) × (m * up e * 2 ^ 1022 < down e)

-- ---- and back: "Handing back divides by 1024"
pub record Over (v : ℤ) (x : Float) : Type 0 where
  pub is : Is1024th x v
  pub zero_plus : v ≡ pos 0 → x ≡ zero_of false
  pub of_f64 : F64 x

abbrev pub Returned : Float → Float → Type 0
Returned x y = (x ≡ y) ⊎ ((x ≡ zero_of true) × (y ≡ zero_of false))
