-- What the call `straighten` answers (02, Ask 12: "It chooses the fewest replacements that make the element valid at its limit, and of equal
-- numbers the set whose first differing node, in the order M01, M12, M02, is replaced. It returns the new nodes and, for each middle node,
-- whether it was replaced and its old and new place, equal if kept").
--   GivesValid l xs s == the triangle with the nodes of s replaced is valid under the limit l
--   NoneValid l xs    == code 22: no set of middle nodes gives that
--   Chosen l xs s     == s gives it, and none of the sets that come before s does
--   straighten_codes n l xs == the order of codes
--   moved xs s m      == what is told of the middle node m: whether it was replaced, its old and its new place
--   given xs s        == the answer's fields, where the nodes of s are replaced
--   nothing, refusal c == zeros for a middle node; the answer's fields for the code c
--   as_straightened xs r == the answer that the result of a choice tells
--   NotStraightened, IsStraightened n l xs r == a refusal, and a success
--   StraightenOf n l xs r == the one or the other
--   telling_of r m, set_in r == what an answer tells of the middle node m, and the set of those that it calls replaced
-- n is the number given as the kind, l the level limit, xs the coordinate list, s a set of middle nodes. Definitions only.
use Rattle.std.specs.Prelude.{◌≡◌, false, List, ◌⊎◌, ℕ, ℤ, pos, replicate, Result, Ok, Err}
use Rattle.element.specs.Kinds.{six}
use Rattle.element.specs.Refusals.{Codes, no_more, code, ◌then◌, Refused, Accepted, six_codes}
use Rattle.faults.specs.declared.refusal.Refusal as fault
use Rattle.faults.specs.Refusal.{number_of}
use Rattle.judge.specs.Verdict.{ValidUnder}
use Rattle.judge.specs.Elements.{subject}
use Rattle.middles.specs.declared.Replaced.{Replaced}
use Rattle.middles.specs.Middles.{Middle, M01, M12, M02, old_node, has, new_node, replacing, as_node}
use Rattle.middles.specs.Sets.{set_of, Sooner}
use Rattle.straighten.specs.declared.Moved.{Moved}
use Rattle.straighten.specs.declared.Straightened.{Straightened}

-- ---- the choice
-- by the definitions of the verdict, over J from the new nodes
abbrev pub GivesValid : ℕ → List ℤ → Replaced → Type 0
GivesValid l xs s = ValidUnder (subject six (replacing xs s)) l

-- 22: "exactly when none of the eight sets gives valid"
abbrev pub NoneValid : ℕ → List ℤ → Type 0
NoneValid l xs = (s : Replaced) → ¬ GivesValid l xs s

pub record Chosen (l : ℕ) (xs : List ℤ) (s : Replaced) : Type 0 where
  pub valid : GivesValid l xs s
  pub first : (t : Replaced) → GivesValid l xs t → ¬ Sooner t s

-- "the verdict's own, with 1 for other kinds; then 22"
abbrev pub straighten_codes : ℕ → ℕ → List ℤ → Codes ℕ
straighten_codes n l xs = six_codes n l xs then code 22 (NoneValid l xs) no_more

-- ---- the answer
abbrev pub moved : List ℤ → Replaced → Middle → Moved
moved xs s m = record { replaced = has s m; old = as_node (old_node xs m); new = as_node (new_node xs s m) }

abbrev pub given : List ℤ → Replaced → Straightened
given xs s =
    record {
      code = 0;
      number = 0;
      coords = replacing xs s;
      m01 = moved xs s M01;
      m12 = moved xs s M12;
      m02 = moved xs s M02;
    }

abbrev pub nothing : Moved
nothing = record { replaced = false; old = record { x = pos 0; y = pos 0 }; new = record { x = pos 0; y = pos 0 } }

-- "A refusal returns the code, the record number for faults in a stored record (else 0), zero in all other fields"
abbrev pub refusal : ℕ → Straightened
refusal c = record { code = c; number = 0; coords = replicate 12 (pos 0); m01 = nothing; m12 = nothing; m02 = nothing }

abbrev pub as_straightened : List ℤ → Result Replaced fault.Refusal → Straightened
as_straightened xs (Ok s) = given xs s
as_straightened xs (Err e) = refusal (number_of e)

-- ---- the call
pub record NotStraightened (n l : ℕ) (xs : List ℤ) (r : Straightened) : Type 0 where
  pub refused : Refused (straighten_codes n l xs) r.code
  pub zeros : r ≡ refusal r.code

pub record IsStraightened (n l : ℕ) (xs : List ℤ) (r : Straightened) : Type 0 where
  pub accepted : Accepted (straighten_codes n l xs)
  pub set : Replaced
  pub chosen : Chosen l xs set
  pub told : r ≡ given xs set

abbrev pub StraightenOf : ℕ → ℕ → List ℤ → Straightened → Type 0
StraightenOf n l xs r = NotStraightened n l xs r ⊎ IsStraightened n l xs r

-- ---- an answer, read
abbrev pub telling_of : Straightened → Middle → Moved
telling_of r M01 = r.m01
telling_of r M12 = r.m12
telling_of r M02 = r.m02

abbrev pub set_in : Straightened → Replaced
set_in r = set_of r.m01.replaced r.m12.replaced r.m02.replaced
