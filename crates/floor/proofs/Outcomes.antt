-- What the contract of `floor_verdict` comes to: one outcome, the demands as laws of the call, and the laws between floors.
--   floor-unique        : the answer is determined by the arguments, in every field
--   valid-clear         : valid: 100·J > p·S at every rational point of the closed triangle
--   valid-level         : the level is the least at which all cells pass
--   valid-least         : the number of cells is that of a cutting no deeper than that level whose cells all pass, and no such cutting, of
--                         any depth, has fewer
--   invalid-first       : invalid: the level is the least with a point where 100·J ≤ p·S, and the point named its first
--   invalid-shows       : and the value is the shifted one there: 100 times the scaled J, less 2·p·S taken 4^level times
--   undecided-exactly, exactly-undecided : undecided exactly when at the limit no grid point is bad and some cell fails
--   undecided-count     : and the number of cells is that of the cells of the limit's level that fail
--   level-within        : the level of a valid or an invalid answer is at most the limit
--   higher-limit        : a higher accepted limit never alters a valid or an invalid answer, in any field
--   lower-floor, no-floor : valid with p is valid, at no deeper level and with no more cells, with every smaller p and for `verdict`
--   told-by-unique      : the answer by a profile is determined, in every field
--   higher-floor, any-floor : invalid with q, and for `verdict`, is invalid, at no deeper level, with every greater p and with every p
-- Each is the law of verdict/proofs/Judging at this subject. Assumes nothing.
use mathlib.Core.Path.{◌≡◌, sym, subst}
use mathlib.Core.List.{List}
use Prim.Native.Nat.{ℕ, ◌≤◌, ◌<◌}
use lib.IntN.{ℤ}
use Rattle.forms.specs.Cuttings.{opens}
use Rattle.forms.specs.Shapes.{pass, cut_to}
use Rattle.element.specs.Kinds.{Kind, six, kind_of}
use Rattle.element.specs.Places.{Place}
use Rattle.element.specs.Cells.{shape_of}
use Rattle.element.specs.Refusals.{Codes, Accepted, verdict_codes}
use Rattle.judge.specs.Verdict.{valid, Subject, LeastLevel, FewestCells, Stays}
use Rattle.judge.specs.Elements.{subject}
use Rattle.judge.specs.Faithful.{Faithful}
use Rattle.judge.specs.Eases.{Eases}
use Rattle.judge.proofs.Faithful.{element-faithful}
use Rattle.judge.proofs.Demands as D
use Rattle.verdict.specs.Calls.{VerdictOf, Settled, MilderCall, SternerCall}
use Rattle.verdict.specs.declared.Word.TheVariants.{Valid, Invalid, Undecided}
use Rattle.verdict.specs.declared.Judged.{Judged}
use Rattle.verdict.proofs.Judging as told
use Rattle.element.proofs.Numbers.{kind-six}
use Rattle.verdict.proofs.Outcomes.{verdict-unique}
use Rattle.floor.specs.declared.Profile.{Profile}
use Rattle.floor.specs.declared.Profile.TheVariants.{Plain, Floor}
use Rattle.floor.specs.Floor.{margin, Clear, FirstFallen, ShiftedAt, shifted, floored}
use Rattle.floor.specs.Calls.{floor_codes, FloorOf, ToldBy}
use Rattle.floor.proofs.Values.{shifted-means, floor-faithful, high-clear, bad-fallen, fallen-bad, shows-shifted}
use Rattle.floor.proofs.Parts.{accepted-parts, accepted-lower, accepted-plain, straight-positive}
use Rattle.floor.proofs.Floors.{lower-eases, plain-eases}

module _ (n l : ℕ) (xs : List ℤ) (p : ℕ) where
  abbrev codes : Codes ℕ
  codes = floor_codes n l xs p

  abbrev triangle : Subject
  triangle = floored p xs

  abbrev faithful : Faithful triangle
  faithful = floor-faithful p xs

  pub floor-unique : (r s : Judged) → FloorOf n l xs p r → FloorOf n l xs p s → r ≡ s
  floor-unique = told.told-unique codes triangle faithful l

  -- ---- valid
  pub valid-clear : (r : Judged) → FloorOf n l xs p r → r.word ≡ Valid → (x : Place six) → Clear p xs x
  valid-clear =
      told.by_word codes triangle l valid (λ r. (x : Place six) → Clear p xs x)
      (λ a v x. high-clear p xs x (D.valid-there six (margin p xs) (shifted p xs) (shifted-means p xs) l a v x))

  pub valid-level : (r : Judged) → FloorOf n l xs p r → r.word ≡ Valid → LeastLevel (floored p xs) r.level
  valid-level = told.valid-level codes triangle l

  pub valid-least : (r : Judged) → FloorOf n l xs p r → r.word ≡ Valid → FewestCells (floored p xs) r.level r.cells
  valid-least = told.valid-least codes triangle faithful l

  -- ---- invalid
  pub invalid-first : (r : Judged) → FloorOf n l xs p r → r.word ≡ Invalid → FirstFallen p xs r.level r.i r.j
  invalid-first r v e =
      let f = told.invalid-first codes triangle l r v e in
      record {
        fallen = bad-fallen p xs r.level r.i r.j f.bad;
        least = λ d i j b. f.least d i j (fallen-bad p xs d i j b);
        first_row = λ i j b. f.first_row i j (fallen-bad p xs r.level i j b);
        first_column = λ i b. f.first_column i (fallen-bad p xs r.level i r.j b);
      }

  pub invalid-shows : (r : Judged) → FloorOf n l xs p r → r.word ≡ Invalid → ShiftedAt p xs r.level r.i r.j r.value
  invalid-shows r v e = shows-shifted p xs r.level r.i r.j r.value (told.invalid-shows codes triangle l r v e)

  -- ---- undecided
  pub undecided-exactly : (r : Judged) → FloorOf n l xs p r
      → r.word ≡ Undecided
      → Accepted (floor_codes n l xs p) × Stays (floored p xs) l
  undecided-exactly = told.undecided-exactly codes triangle faithful l

  pub exactly-undecided : (r : Judged) → FloorOf n l xs p r
      → Accepted (floor_codes n l xs p)
      → Stays (floored p xs) l
      → r.word ≡ Undecided
  exactly-undecided = told.exactly-undecided codes triangle faithful l

  pub undecided-count : (r : Judged) → FloorOf n l xs p r
      → r.word ≡ Undecided
      → (r.level ≡ l) × (r.cells ≡ opens (pass (shape_of six)) (cut_to (shape_of six)) l (shifted p xs))
  undecided-count = told.undecided-count codes triangle l

-- ---- another limit
pub level-within : (n l : ℕ) (xs : List ℤ) (p : ℕ) (r : Judged) → FloorOf n l xs p r → Settled r.word → r.level ≤ l
level-within n l xs p = told.level-within (floor_codes n l xs p) (floored p xs) l

pub higher-limit : (n l m : ℕ) (xs : List ℤ) (p : ℕ) (r s : Judged) → FloorOf n l xs p r
    → FloorOf n m xs p s
    → l ≤ m
    → Accepted (floor_codes n m xs p)
    → Settled r.word
    → s ≡ r
higher-limit n l m xs p = told.higher-limit (floor_codes n l xs p) (floor_codes n m xs p) (floored p xs) (floor-faithful p xs) l m

-- ---- by a profile
pub told-by-unique : (q : Profile) (n l : ℕ) (xs : List ℤ) (r s : Judged) → ToldBy q n l xs r → ToldBy q n l xs s → r ≡ s
told-by-unique Plain n l xs = verdict-unique n l xs
told-by-unique (Floor p) n l xs = floor-unique n l xs p

-- ---- another floor, and none, under any accepted limit that reaches the level; its own limit does (level-within)
module _ (n l m : ℕ) (xs : List ℤ) (p : ℕ) (r : Judged) (v : FloorOf n l xs p r) where
  valid-accepted : r.word ≡ Valid → Accepted (floor_codes n l xs p)
  valid-accepted e = (told.word-answered (floor_codes n l xs p) (floored p xs) l valid r v e).accepted

  pub lower-floor : (q : ℕ) → 0 < q
      → q ≤ p
      → m ≤ 7
      → (s : Judged)
      → FloorOf n m xs q s
      → r.word ≡ Valid
      → r.level ≤ m
      → MilderCall r s
  lower-floor q k h i s w e =
      let a = valid-accepted e in
      told.milder (floor_codes n l xs p) (floor_codes n m xs q) (floored p xs) (floored q xs) (floor-faithful p xs) (floor-faithful q xs)
      (lower-eases xs (straight-positive n l xs p a) p q h) l m r s v w (accepted-lower n l xs p m q i k h a) e

  eases-plain : Accepted (floor_codes n l xs p) → Eases (floored p xs) (subject (kind_of n) xs)
  eases-plain a =
      subst (λ (k : Kind). Eases (floored p xs) (subject k xs)) (sym (kind-six n (accepted-parts n l xs p a).kind))
      (plain-eases xs (straight-positive n l xs p a) p)

  pub no-floor : m ≤ 10 → (s : Judged) → VerdictOf n m xs s → r.word ≡ Valid → r.level ≤ m → MilderCall r s
  no-floor i s w e =
      let a = valid-accepted e in
      told.milder (floor_codes n l xs p) (verdict_codes n m xs) (floored p xs) (subject (kind_of n) xs) (floor-faithful p xs)
      (element-faithful (kind_of n) xs) (eases-plain a) l m r s v w (accepted-plain n l xs p m i a) e

  pub higher-floor : (q : ℕ) → q ≤ p
      → (s : Judged)
      → FloorOf n m xs q s
      → Accepted (floor_codes n l xs p)
      → s.word ≡ Invalid
      → s.level ≤ l
      → SternerCall s r
  higher-floor q h s w a =
      told.sterner (floor_codes n l xs p) (floor_codes n m xs q) (floored p xs) (floored q xs) (floor-faithful p xs) (floor-faithful q xs)
      (lower-eases xs (straight-positive n l xs p a) p q h) l m r s w v a

  pub any-floor : (s : Judged) → VerdictOf n m xs s → Accepted (floor_codes n l xs p) → s.word ≡ Invalid → s.level ≤ l → SternerCall s r
  any-floor s w a =
      told.sterner (floor_codes n l xs p) (verdict_codes n m xs) (floored p xs) (subject (kind_of n) xs) (floor-faithful p xs)
      (element-faithful (kind_of n) xs) (eases-plain a) l m r s w v a
