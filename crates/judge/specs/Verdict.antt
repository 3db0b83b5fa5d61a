-- The verdict (01, "The sign test and the verdict"), for anything that has cells, a grid and bad points: an element now, and
-- later an element with a floor on its distortion.
--   Word            == valid, invalid, undecided
--   Answer          == the word with its level, the point i, j, the value there, and the number of cells
--   is_valid, is_invalid, is_undecided == the answers of the three cases, each from what it reports
--   Subject         == what is judged: the values of its cells, which grid points are bad, and what is shown there
--   AllPass s d     == all cells of level d pass
--   LeastLevel s d  == d is the least level at which all cells pass
--   Passing s t     == all cells that the cutting t keeps pass
--   Attained s L n  == some cutting by quarters, no deeper than L, whose cells all pass, has n cells
--   LeastCells s L n == n is the least number of cells of such a cutting
--   FewestCells s d n == some cutting no deeper than d has n cells, and none of any depth whose cells all pass has fewer
--   FirstBad s d i j == d is the least level with a bad point, and (i, j) its bad point with smallest j, then smallest i
--   Valid, Invalid, Undecided s L a == the three cases, each with all fields of the answer
--   Judges s L a    == a is the verdict under the limit L
--   ValidUnder s L  == the first case holds under the limit L
--   Stays s L       == at level L no grid point is bad and some cell fails
-- Definitions only.
use Rattle.std.specs.Prelude.{◌≡◌, List, ℕ, ◌≤◌, T, ℤ, pos, length}
use Rattle.forms.specs.Cuttings.{Four, Cutting, leaves, depth, Fits, opens}
use Rattle.forms.specs.Shapes.{Shape, pass, cut_to}
use Rattle.forms.specs.Grids.{cell_at}

pub data Word : Type 0 where
  valid invalid undecided : Word

pub record Answer : Type 0 where
  pub word : Word
  pub level : ℕ
  pub i : ℕ
  pub j : ℕ
  pub value : ℤ
  pub cells : ℕ

abbrev pub is_valid : ℕ → ℕ → Answer
is_valid d m = record { word = valid; level = d; i = 0; j = 0; value = pos 0; cells = m }

abbrev pub is_invalid : ℕ → ℕ → ℕ → ℤ → Answer
is_invalid d i j z = record { word = invalid; level = d; i = i; j = j; value = z; cells = 0 }

abbrev pub is_undecided : ℕ → ℕ → Answer
is_undecided d m = record { word = undecided; level = d; i = 0; j = 0; value = pos 0; cells = m }

pub record Subject : Type 1 where
  pub shape : Shape
  -- the control values of the whole
  pub values : List ℤ
  -- the point (i, j) of the grid of level d is bad
  pub Bad : ℕ → ℕ → ℕ → Type 0
  -- z is the value shown at that point
  pub Shows : ℕ → ℕ → ℕ → ℤ → Type 0

module _ (s : Subject) where
  abbrev pub AllPass : ℕ → Type 0
  AllPass d = (path : List Four) → length path ≡ d → T (pass s.shape (cell_at s.shape path s.values))

  pub record LeastLevel (d : ℕ) : Type 0 where
    pub passing : AllPass d
    pub least : (e : ℕ) → AllPass e → d ≤ e

  -- ---- cuttings
  abbrev pub Passing : Cutting → Type 0
  Passing t = Fits (pass s.shape) (cut_to s.shape) s.values t

  pub record Attained (L n : ℕ) : Type 0 where
    pub cutting : Cutting
    pub passing : Passing cutting
    pub within : depth cutting ≤ L
    pub many : leaves cutting ≡ n

  pub record LeastCells (L n : ℕ) : Type 0 where
    pub attained : Attained L n
    pub fewest : (t : Cutting) → Passing t → depth t ≤ L → n ≤ leaves t

  pub record FewestCells (d n : ℕ) : Type 0 where
    pub attained : Attained d n
    pub fewest : (t : Cutting) → Passing t → n ≤ leaves t

  -- ---- bad points
  pub record FirstBad (d i j : ℕ) : Type 0 where
    pub bad : s.Bad d i j
    pub least : (e i' j' : ℕ) → s.Bad e i' j' → d ≤ e
    pub first_row : (i' j' : ℕ) → s.Bad d i' j' → j ≤ j'
    pub first_column : (i' : ℕ) → s.Bad d i' j → i ≤ i'

  -- ---- the three cases
  -- "all cells of a level pass. Reported: the least such level, i = j = value = 0, and the least number of cells in a cutting
  -- by quarters, no deeper than the limit, whose cells all pass"
  pub record Valid (L : ℕ) (a : Answer) : Type 0 where
    pub within : a.level ≤ L
    pub level : LeastLevel a.level
    pub count : LeastCells L a.cells
    pub no_column : a.i ≡ 0
    pub no_row : a.j ≡ 0
    pub no_value : a.value ≡ pos 0

  -- "a level has a bad grid point. Reported: the least such level, the bad point with smallest j, then smallest i, the scaled J
  -- there, cells 0"
  pub record Invalid (L : ℕ) (a : Answer) : Type 0 where
    pub within : a.level ≤ L
    pub first : FirstBad a.level a.i a.j
    pub shown : s.Shows a.level a.i a.j a.value
    pub no_cells : a.cells ≡ 0

  -- "neither holds at any level up to the limit. Reported: the limit, i = j = value = 0, and the number of limit-level cells that
  -- don't pass"
  pub record Undecided (L : ℕ) (a : Answer) : Type 0 where
    pub at_limit : a.level ≡ L
    pub none_passes : (d : ℕ) → d ≤ L → ¬ AllPass d
    pub none_bad : (d i j : ℕ) → d ≤ L → ¬ s.Bad d i j
    pub count : a.cells ≡ opens (pass s.shape) (cut_to s.shape) L s.values
    pub no_column : a.i ≡ 0
    pub no_row : a.j ≡ 0
    pub no_value : a.value ≡ pos 0

  abbrev pub Case : Word → ℕ → Answer → Type 0
  Case valid L a = Valid L a
  Case invalid L a = Invalid L a
  Case undecided L a = Undecided L a

  abbrev pub Judges : ℕ → Answer → Type 0
  Judges L a = Case a.word L a

  abbrev pub ValidUnder : ℕ → Type 0
  ValidUnder L = (a : Answer) × Valid L a

  -- ---- undecided "exactly when, at the limit, no grid point is bad and some cell still fails its sign test"
  pub record Stays (L : ℕ) : Type 0 where
    pub none_bad : (i j : ℕ) → ¬ s.Bad L i j
    pub path : List Four
    pub at_level : length path ≡ L
    pub fails : ¬ T (pass s.shape (cell_at s.shape path s.values))
