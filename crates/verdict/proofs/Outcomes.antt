-- What the contract of `verdict` comes to: one outcome, and the demands on the verdict as laws of the call.
--   verdict-unique      : the answer is determined by the arguments, in every field
--   valid-positive      : valid: J > 0 at every rational point of the closed element
--   valid-level         : the level is the least at which all cells pass
--   valid-least         : the number of cells is that of a cutting no deeper than that level whose cells all pass, and no such cutting, of
--                         any depth, has fewer
--   invalid-first       : invalid: the level is the least with a bad point, and the point named its first
--   invalid-shows       : and the value shown is the scaled J there
--   undecided-exactly, exactly-undecided : undecided exactly when at the limit no grid point is bad and some cell fails
--   undecided-count     : and the number of cells is that of the cells of the limit's level that fail
--   level-within        : the level of a valid or an invalid answer is at most the limit
--   higher-limit        : a higher accepted limit never alters a valid or an invalid answer, in any field
-- Each is the law of Judging.antt for the element; only valid-positive speaks of J. Assumes nothing.
use mathlib.Core.Path.{◌≡◌}
use mathlib.Core.List.{List}
use Prim.Native.Nat.{ℕ, ◌≤◌}
use lib.IntN.{ℤ, pos}
use lib.Signed.{◌<ℤ◌}
use Rattle.forms.specs.Cuttings.{opens}
use Rattle.forms.specs.Shapes.{pass, cut_to}
use Rattle.element.specs.Kinds.{kind_of}
use Rattle.element.specs.Places.{Place}
use Rattle.element.specs.Jacobian.{jacobian, Shows}
use Rattle.element.specs.Control.{control_values}
use Rattle.element.specs.Cells.{shape_of}
use Rattle.element.specs.Refusals.{Codes, Accepted, verdict_codes}
use Rattle.judge.specs.Verdict.{valid, Subject, LeastLevel, FewestCells, FirstBad, Stays}
use Rattle.judge.specs.Faithful.{Faithful}
use Rattle.judge.specs.Elements.{subject}
use Rattle.judge.proofs.Faithful.{element-faithful}
use Rattle.judge.proofs.Demands as D
use Rattle.verdict.specs.Calls.{VerdictOf, Settled}
use Rattle.verdict.specs.declared.Word.TheVariants.{Valid, Invalid, Undecided}
use Rattle.verdict.specs.declared.Judged.{Judged}
use Rattle.verdict.proofs.Judging as told

module _ (n l : ℕ) (xs : List ℤ) where
  abbrev codes : Codes ℕ
  codes = verdict_codes n l xs

  abbrev element : Subject
  element = subject (kind_of n) xs

  abbrev faithful : Faithful element
  faithful = element-faithful (kind_of n) xs

  pub verdict-unique : (r s : Judged) → VerdictOf n l xs r → VerdictOf n l xs s → r ≡ s
  verdict-unique = told.told-unique codes element faithful l

  -- ---- valid
  pub valid-positive : (r : Judged) → VerdictOf n l xs r → r.word ≡ Valid → (x : Place (kind_of n)) → pos 0 <ℤ jacobian (kind_of n) xs x
  valid-positive =
      told.by_word codes element l valid (λ r. (x : Place (kind_of n)) → pos 0 <ℤ jacobian (kind_of n) xs x)
      (D.valid-positive (kind_of n) xs l)

  pub valid-level : (r : Judged) → VerdictOf n l xs r → r.word ≡ Valid → LeastLevel (subject (kind_of n) xs) r.level
  valid-level = told.valid-level codes element l

  pub valid-least : (r : Judged) → VerdictOf n l xs r → r.word ≡ Valid → FewestCells (subject (kind_of n) xs) r.level r.cells
  valid-least = told.valid-least codes element faithful l

  -- ---- invalid
  pub invalid-first : (r : Judged) → VerdictOf n l xs r → r.word ≡ Invalid → FirstBad (subject (kind_of n) xs) r.level r.i r.j
  invalid-first = told.invalid-first codes element l

  pub invalid-shows : (r : Judged) → VerdictOf n l xs r → r.word ≡ Invalid → Shows (kind_of n) xs r.level r.i r.j r.value
  invalid-shows = told.invalid-shows codes element l

  -- ---- undecided
  pub undecided-exactly : (r : Judged) → VerdictOf n l xs r
      → r.word ≡ Undecided
      → Accepted (verdict_codes n l xs) × Stays (subject (kind_of n) xs) l
  undecided-exactly = told.undecided-exactly codes element faithful l

  pub exactly-undecided : (r : Judged) → VerdictOf n l xs r
      → Accepted (verdict_codes n l xs)
      → Stays (subject (kind_of n) xs) l
      → r.word ≡ Undecided
  exactly-undecided = told.exactly-undecided codes element faithful l

  pub undecided-count : (r : Judged) → VerdictOf n l xs r
      → r.word ≡ Undecided
      → (r.level ≡ l) × (r.cells ≡ opens (pass (shape_of (kind_of n))) (cut_to (shape_of (kind_of n))) l (control_values (kind_of n) xs))
  undecided-count = told.undecided-count codes element l

-- ---- another limit
pub level-within : (n l : ℕ) (xs : List ℤ) (r : Judged) → VerdictOf n l xs r → Settled r.word → r.level ≤ l
level-within n l xs = told.level-within (verdict_codes n l xs) (subject (kind_of n) xs) l

pub higher-limit : (n l m : ℕ) (xs : List ℤ) (r s : Judged) → VerdictOf n l xs r
    → VerdictOf n m xs s
    → l ≤ m
    → Accepted (verdict_codes n m xs)
    → Settled r.word
    → s ≡ r
higher-limit n l m xs = told.higher-limit (verdict_codes n l xs) (verdict_codes n m xs) (subject (kind_of n) xs) (element-faithful (kind_of n) xs) l m
