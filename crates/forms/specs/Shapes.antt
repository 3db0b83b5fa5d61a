-- The shape of a kind of element: all that the theory of cells needs to know of it, as data and closed tests. A kind is one
-- or more directions, each with as many slots as its degree; the point's weights along a direction go into all its slots.
--   Shape          == the data, a field each
--   slots S l      == the list l, one thing a direction, spread over the slots of each direction
--   indices ds     == the indices of an entry of these degrees
--   tips S         == the places of the corner values
--   pass, cut_to S i == the sign test, and quarter i of a cell
--   scaled S c ws  == the value of the stored values c at the weights ws
--   Sized, Adds, Heavy, Point == weights of a point: of the shape's sizes, with given totals, with positive totals
--   tip S k        == the weights of corner k
--   Lawful S       == what makes the data a shape
-- Definitions only.
use Rattle.std.specs.Prelude.{◌≡◌, Bool, true, false, ◌&&◌, ◌||◌, List, [], ◌∷◌, map, ℕ, zero, suc, ◌+◌, ◌*◌, ◌≤◌, ◌<◌, T, eqb, ltb, ℤ, pos, get_or, length}
use Rattle.forms.specs.Rows.{Row, total, corner}
use Rattle.forms.specs.Forms.{value, through}
use Rattle.forms.specs.Cells.{stored, quarter, passes, up_to, every, same, Tabled, heirs, rows_add}
use Rattle.forms.specs.Cuttings.{Four, in_four}

pub record Shape : Type 0 where
  -- how many slots each direction has, and how many weights a slot of it takes
  pub counts : List ℕ
  pub sizes : List ℕ
  -- the degrees of each stored value: how many slots of each direction hold each component; and the place where the
  -- entry with given indices is stored
  pub entries : List (List Row)
  pub place : List ℕ → ℕ
  -- the corners, an index a direction
  pub corners : List (List ℕ)
  -- the corners of each quarter along each direction, in doubled weights
  pub cuts : Four → List (ℕ → Row)
  -- the four tables of the quarters, and what each row of them adds up to
  pub table : Four → List Row
  pub growth : ℕ
  -- the grid of n parts: row j has the columns 0 to last n j; at column i and row j stand the weights rows n i j,
  -- which hold i and j: the direction and the index of each
  pub last : ℕ → ℕ → ℕ
  pub rows : ℕ → ℕ → ℕ → List Row
  pub column : ℕ × ℕ
  pub row : ℕ × ℕ

-- ---- one thing a direction, one thing a slot
abbrev pub onto {ℓ} : {A : Type ℓ} → ℕ → A → List A → List A
onto zero a l = l
onto (suc n) a l = a ∷ onto n a l

abbrev pub spread {ℓ} : {A : Type ℓ} → List ℕ → List A → List A
spread [] l = []
spread (n ∷ ns) [] = []
spread (n ∷ ns) (a ∷ l) = onto n a (spread ns l)

abbrev pub units : List ℕ → List ℕ → List Row
units [] ks = []
units (s ∷ ss) [] = []
units (s ∷ ss) (k ∷ ks) = corner s k ∷ units ss ks

-- indices of these degrees: as many 0 as the first says, and so on, direction by direction
abbrev pub indices_of : ℕ → Row → List ℕ → List ℕ
indices_of k [] l = l
indices_of k (m ∷ ms) l = onto m k (indices_of (suc k) ms l)

abbrev pub indices : List Row → List ℕ
indices [] = []
indices (ms ∷ ds) = indices_of 0 ms (indices ds)

-- the weight at an index of a direction
abbrev pub entry : ℕ × ℕ → List Row → ℕ
entry at ws = get_or (get_or ws at.0 []) at.1 0

-- ---- weights of points
abbrev pub Sized : List ℕ → List Row → Type 0
Sized ss ws = map length ws ≡ ss

abbrev pub Adds : List ℕ → List Row → Type 0
Adds hs ws = map total ws ≡ hs

abbrev pub Heavy : List Row → Type 0
Heavy [] = Unit {0}
Heavy (w ∷ ws) = (0 < total w) × Heavy ws

module _ (S : Shape) where
  abbrev pub tips : List ℕ
  tips = map (λ ks. S.place (spread S.counts ks)) S.corners

  abbrev pub pass : List ℤ → Bool
  pass c = passes tips c

  abbrev pub cut_to : Four → List ℤ → List ℤ
  cut_to i c = quarter (S.table i) c

  unfoldable pub scaled : List ℤ → List Row → ℤ
  scaled c ws = value (spread S.counts ws) (stored S.place c)

  abbrev pub tip : ℕ → List Row
  tip k = units S.sizes (get_or S.corners k [])

  abbrev pub corner_value : ℕ → List ℤ → ℤ
  corner_value k c = get_or c (S.place (spread S.counts (get_or S.corners k []))) (pos 0)

  pub record Point (ws : List Row) : Type 0 where
    pub sized : Sized S.sizes ws
    pub heavy : Heavy ws

  -- the totals of a point of the grid of n parts
  abbrev pub sides : ℕ → List ℕ
  sides n = map (λ s. n) S.sizes

-- ---- closed tests
abbrev pub inside : List ℕ → List ℕ → Bool
inside [] [] = true
inside [] (k ∷ ks) = false
inside (s ∷ ss) [] = false
inside (s ∷ ss) (k ∷ ks) = ltb k s && inside ss ks

abbrev pub all_inside : List ℕ → List (List ℕ) → Bool
all_inside ss [] = true
all_inside ss (ks ∷ l) = inside ss ks && all_inside ss l

abbrev pub is_in : List ℕ → List (List ℕ) → Bool
is_in ks [] = false
is_in ks (js ∷ l) = same ks js || is_in ks l

-- each corner of a quarter is a row of its direction's size and adds up to 2
abbrev pub doubles : ℕ → (ℕ → Row) → Bool
doubles s M = up_to s (λ k. eqb (length (M k)) s && eqb (total (M k)) 2)

abbrev pub doubling : List ℕ → List (ℕ → Row) → Bool
doubling [] [] = true
doubling [] (M ∷ Ms) = false
doubling (s ∷ ss) [] = false
doubling (s ∷ ss) (M ∷ Ms) = doubles s M && doubling ss Ms

pub record Lawful (S : Shape) : Type 0 where
  -- each table is the form on its quarter, its rows add up to the growth, and each new corner weighs an old one
  pub tabled : T (in_four (λ i. Tabled (spread S.counts S.sizes) S.place (spread S.counts (S.cuts i)) (S.table i)))
  pub grown : T (in_four (λ i. rows_add S.growth (S.table i)))
  pub inherited : T (in_four (λ i. heirs (tips S) (tips S) (S.table i)))
  -- every entry is stored
  pub kept : T (every (spread S.counts S.sizes) (λ ks. ltb (S.place ks) (length S.entries)))
  -- the corners of the quarters are in doubled weights
  pub doubled : T (in_four (λ i. doubling S.sizes (S.cuts i)))
  -- the corners are all combinations of indices, one a direction
  pub cornered : T (every S.sizes (λ ks. is_in ks S.corners))
  pub corners_inside : T (all_inside S.sizes S.corners)
  -- each point of a cell is a point of one of its quarters
  pub split : (hs : List ℕ) (ws : List Row) → Sized S.sizes ws → Adds (map (λ h. 2 * h) hs) ws
      → (i : Four) × (ys : List Row) × Sized S.sizes ys × Adds hs ys × (through ys (S.cuts i) ≡ ws)
  -- the places of the grid of n parts are the weights that add up to n
  pub on_grid : (n i j : ℕ) → j ≤ n → i ≤ S.last n j → Sized S.sizes (S.rows n i j) × Adds (sides S n) (S.rows n i j)
  pub indexed : (n : ℕ) (ws : List Row) → Sized S.sizes ws → Adds (sides S n) ws
      → (entry S.row ws ≤ n) × (entry S.column ws ≤ S.last n (entry S.row ws)) × (S.rows n (entry S.column ws) (entry S.row ws) ≡ ws)
  pub placed : (n i j : ℕ) → (entry S.column (S.rows n i j) ≡ i) × (entry S.row (S.rows n i j) ≡ j)
