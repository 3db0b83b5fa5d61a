-- The order in which the code tries the sets. That it is the order of the sets, and that every set stands in it once, are laws.
--   trials          == the eight sets, in the order of trial
--   set_at t         == the one at place t
--   First l xs t    == t is the first place whose set gives valid, or 8 where there is none
--   FirstOf l xs r  == the result r tells the set at that place, or that there is none
-- l is the level limit, xs the coordinate list. Definitions only.
use Rattle.std.specs.Prelude.{◌≡◌, true, false, List, [], ◌∷◌, ℕ, ◌≤◌, ◌<◌, ℤ, get_or, Option, Some, None}
use Rattle.middles.specs.declared.Replaced.{Replaced}
use Rattle.middles.specs.Sets.{set_of, none}
use Rattle.straighten.specs.Calls.{GivesValid}

abbrev pub trials : List Replaced
trials =
    none
    ∷ set_of true false false
    ∷ set_of false true false
    ∷ set_of false false true
    ∷ set_of true true false
    ∷ set_of true false true
    ∷ set_of false true true
    ∷ set_of true true true
    ∷ []

abbrev pub set_at : ℕ → Replaced
set_at t = get_or trials t none

pub record First (l : ℕ) (xs : List ℤ) (t : ℕ) : Type 0 where
  pub within : t ≤ 8
  pub found : t < 8 → GivesValid l xs (set_at t)
  pub none_before : (k : ℕ) → k < t → ¬ GivesValid l xs (set_at k)

pub record Found (l : ℕ) (xs : List ℤ) (s : Replaced) : Type 0 where
  pub place : ℕ
  pub first : First l xs place
  pub below : place < 8
  pub set : s ≡ set_at place

abbrev pub FirstOf : ℕ → List ℤ → Option Replaced → Type 0
FirstOf l xs (Some s) = Found l xs s
FirstOf l xs None = First l xs 8
