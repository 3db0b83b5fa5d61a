-- Turns of a shape: weights that go to other weights, quarters to quarters, and stored values to other places, so that the value at a
-- point goes with it.
--   Turn            == the three maps
--   still, t after u, turn_by m t == no turn; u and then t; t, m times over
--   sum_four, max_four == the sum and the maximum of a number for each quarter
--   Fair σ          == neither changes when σ changes the order of the quarters
--   Keeps S t       == t is a turn of the shape S
--   Undoes S u t    == u brings back the weights that t turned
--   Turned S t c c' == the values c' are the values c, turned: at the turned weights they have the value that c has at the weights
-- Definitions only.
use Rattle.std.specs.Prelude.{◌≡◌, List, ℕ, zero, suc, ◌+◌, max, T, ℤ, length}
use Rattle.forms.specs.Rows.{Row}
use Rattle.forms.specs.Forms.{through}
use Rattle.forms.specs.Cuttings.{Four, first, second, third, fourth}
use Rattle.forms.specs.Shapes.{Shape, pass, scaled, Point}

pub record Turn : Type 0 where
  -- the stored values in their new order
  pub values : List ℤ → List ℤ
  -- which quarter it was that now is quarter i
  pub quarters : Four → Four
  -- where the weights of a point go
  pub weights : List Row → List Row

abbrev pub still : Turn
still = record { values = λ c. c; quarters = λ i. i; weights = λ ws. ws }

infixr 20 ◌after◌
abbrev pub ◌after◌ : Turn → Turn → Turn
t after u =
    record {
      values = λ c. t.values (u.values c);
      quarters = λ i. u.quarters (t.quarters i);
      weights = λ ws. t.weights (u.weights ws);
    }

abbrev pub turn_by : ℕ → Turn → Turn
turn_by zero t = still
turn_by (suc m) t = t after turn_by m t

-- ---- four numbers in another order
abbrev pub sum_four : (Four → ℕ) → ℕ
sum_four f = f first + f second + f third + f fourth

abbrev pub max_four : (Four → ℕ) → ℕ
max_four f = max (max (f first) (f second)) (max (f third) (f fourth))

pub record Fair (σ : Four → Four) : Type 0 where
  pub sums : (f : Four → ℕ) → sum_four (λ i. f (σ i)) ≡ sum_four f
  pub deepest : (f : Four → ℕ) → max_four (λ i. f (σ i)) ≡ max_four f

module _ (S : Shape) where
  abbrev pub Full : List ℤ → Type 0
  Full c = length c ≡ length S.entries

  pub record Keeps (t : Turn) : Type 0 where
    -- points go to points, and those of a quarter to points of a quarter
    pub point : (ws : List Row) → Point S ws → Point S (t.weights ws)
    pub cut : (i : Four) (ws : List Row) → Point S ws → t.weights (through ws (S.cuts (t.quarters i))) ≡ through (t.weights ws) (S.cuts i)
    pub fair : Fair t.quarters
    -- the value at a point goes with it, and so does the sign test
    pub full : (c : List ℤ) → Full c → Full (t.values c)
    pub value : (c : List ℤ) (ws : List Row) → Point S ws → scaled S (t.values c) (t.weights ws) ≡ scaled S c ws
    pub passing : (c : List ℤ) → T (pass S c) → T (pass S (t.values c))

  abbrev pub Undoes : Turn → Turn → Type 0
  Undoes u t = (ws : List Row) → Point S ws → u.weights (t.weights ws) ≡ ws

  pub record Turned (t : Turn) (c c' : List ℤ) : Type 0 where
    pub from : Full c
    pub to : Full c'
    pub value : (ws : List Row) → Point S ws → scaled S c' (t.weights ws) ≡ scaled S c ws
