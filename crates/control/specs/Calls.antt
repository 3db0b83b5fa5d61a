-- What the calls `control_values` and `solver_bounds` answer, and what they leave in the buffer lent to them (01, "Codes and what
-- they leave", "Solver bounds").
--   controlled c m         == the answer of `control_values` with the code c and the number of values m
--   Handed c before r after == the values c stand at the buffer's start, and their number is told; or they do not fit
--   NoValues, Values n xs before r after == a refusal, and a success, of `control_values`
--   ControlValues n xs before r after    == the one or the other
--   Bounded                == the answer of `solver_bounds`: two bounds, or a refusal
--   code_of, number_of, bounds_of r == 01's code, record number and two bounds, for each case of the answer of `solver_bounds`
--   Told r                 == the answer is in the case with the bounds
--   BoundsOf c b           == b are the least and the greatest of the values c
--   NoBounds, HasBounds n xs r == a refusal, and a success, of `solver_bounds`
--   SolverBounds n xs r    == the one or the other
--   Brackets n xs b        == b are whole numbers, and the scaled J lies between them everywhere
-- n is the number given as the kind, xs the coordinate list, r the answer, before and after the buffer's content.
-- Definitions only.
use Rattle.std.specs.Prelude.{◌≡◌, Result, Ok, Err, List, ◌++◌, ◌⊎◌, ℕ, ◌<◌, ℤ, pos, length, drop}
use Rattle.element.specs.Kinds.{kind_of, value_count}
use Rattle.element.specs.Places.{Place}
use Rattle.element.specs.Control.{control_values}
use Rattle.element.specs.Bounds.{Least, Greatest, Between}
use Rattle.element.specs.Refusals.{Refused, Accepted, control_codes, bounds_codes}
use Rattle.floats.specs.Values.{IsWhole, exact}
use Rattle.control.specs.declared.Controlled.{Controlled}
use Rattle.control.specs.declared.Bounds.{Bounds}
use Rattle.faults.specs.declared.refusal.Refusal.{Refusal}
use Rattle.faults.specs.Refusal.{number_of as refusal_number}

-- ---- control values
-- "the record number for faults in a stored record (else 0)": no record is stored here
abbrev pub controlled : ℕ → ℕ → Controlled
controlled c m = record { code = c; number = 0; count = m }

abbrev pub Handed : List ℤ → List ℤ → Controlled → List ℤ → Type 0
Handed c before r after =
    ((length before < length c) × (r ≡ controlled 5 0) × (after ≡ before))
    ⊎ (¬ (length before < length c) × (r ≡ controlled 0 (length c)) × (after ≡ c ++ drop (length c) before))

-- "A refusal returns the code, .. zero in all other fields, and changes no lent buffer"
pub record NoValues (n : ℕ) (xs before : List ℤ) (r : Controlled) (after : List ℤ) : Type 0 where
  pub refused : Refused (control_codes n xs (length before)) r.code
  pub zeros : r ≡ controlled r.code 0
  pub untouched : after ≡ before

-- "On success only the 6 or 16 values at the buffer's start (their number is the answer) .. change; the rest of the buffer stays"; of ten
-- nodes 15 values
pub record Values (n : ℕ) (xs before : List ℤ) (r : Controlled) (after : List ℤ) : Type 0 where
  pub accepted : Accepted (control_codes n xs (length before))
  pub answer : r ≡ controlled 0 (value_count (kind_of n))
  pub filled : after ≡ control_values (kind_of n) xs ++ drop (value_count (kind_of n)) before

abbrev pub ControlValues : ℕ → List ℤ → List ℤ → Controlled → List ℤ → Type 0
ControlValues n xs before r after = NoValues n xs before r after ⊎ Values n xs before r after

-- ---- bounds: "The answer is two f64 bounds or a code"
abbrev pub Bounded : Type 0
Bounded = Result Bounds Refusal

abbrev pub code_of : Bounded → ℕ
code_of (Ok b) = 0
code_of (Err e) = refusal_number e

-- the record number, as above
abbrev pub number_of : Bounded → ℕ
number_of (Ok b) = 0
number_of (Err e) = 0

-- zero in all other fields of a refusal
abbrev pub bounds_of : Bounded → Bounds
bounds_of (Ok b) = b
bounds_of (Err e) = record { lo = exact (pos 0); hi = exact (pos 0) }

abbrev pub Told : Bounded → Type 0
Told (Ok b) = Unit {0}
Told (Err e) = ⊥

-- codes 1, 3, 4, 21, and zero in all other fields
pub record NoBounds (n : ℕ) (xs : List ℤ) (r : Bounded) : Type 0 where
  pub refused : Refused (bounds_codes n xs) (code_of r)
  pub no_number : number_of r ≡ 0
  pub no_lo : (bounds_of r).lo ≡ exact (pos 0)
  pub no_hi : (bounds_of r).hi ≡ exact (pos 0)

-- "The least and the greatest level 0 control value, each as f64": of the values c
pub record BoundsOf (c : List ℤ) (b : Bounds) : Type 0 where
  pub least : ℤ
  pub is_least : Least c least
  pub lo : b.lo ≡ exact least
  pub greatest : ℤ
  pub is_greatest : Greatest c greatest
  pub hi : b.hi ≡ exact greatest

pub record HasBounds (n : ℕ) (xs : List ℤ) (r : Bounded) : Type 0 where
  pub accepted : Accepted (bounds_codes n xs)
  pub told : Told r
  pub no_code : code_of r ≡ 0
  pub no_number : number_of r ≡ 0
  pub bounds : BoundsOf (control_values (kind_of n) xs) (bounds_of r)

abbrev pub SolverBounds : ℕ → List ℤ → Bounded → Type 0
SolverBounds n xs r = NoBounds n xs r ⊎ HasBounds n xs r

-- "each as f64, equal to the whole number. .. Scaled J lies between them at every point of the element": what follows
pub record Brackets (n : ℕ) (xs : List ℤ) (b : Bounds) : Type 0 where
  pub low : ℤ
  pub lo_is : IsWhole b.lo low
  pub high : ℤ
  pub hi_is : IsWhole b.hi high
  pub between : (x : Place (kind_of n)) → Between (kind_of n) xs low high x
