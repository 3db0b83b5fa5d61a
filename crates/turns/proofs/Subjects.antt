-- A subject whose values are turned, and whose bad points lie at the same levels, has the same verdict but for the point named.
--   Sound S          == what a shape has: its laws, values that are readable, and quarters with all values
--   Turning S t u    == t is a turn of the shape, and u undoes it
--   turned-judges    : the word, the level and the number of cells are the same
-- Once for every shape with a turn that is undone, and every two faithful subjects of it. Assumes nothing.
use mathlib.Core.Path.{◌≡◌}
use mathlib.Core.List.{List}
use Prim.Native.Nat.{ℕ}
use lib.Dec.{T}
use lib.IntN.{ℤ}
use lib.ListN.{length}
use Rattle.forms.specs.Cuttings.{Four}
use Rattle.forms.specs.Shapes.{Shape, pass, cut_to, Lawful}
use Rattle.forms.specs.Polar.{readable}
use Rattle.judge.specs.Verdict.{Answer, Subject, Judges}
use Rattle.judge.specs.Faithful.{Faithful}
use Rattle.turns.specs.Turns.{Turn, Keeps, Undoes, Turned}
use Rattle.turns.proofs.Correspond.{turn_cutting, leaves-turn, depth-turn, level-correspond, fits-correspond, opens-correspond}
use Rattle.turns.proofs.Turns.{turned-back, turned-pass, turned-cut}
use Rattle.turns.proofs.Alike.{Alike, SameAnswer, alike-judges}

abbrev Points : Type 1
Points = ℕ → ℕ → ℕ → Type 0

abbrev Shown : Type 1
Shown = ℕ → ℕ → ℕ → ℤ → Type 0

-- a subject of the shape S
abbrev on : Shape → List ℤ → Points → Shown → Subject
on S c B Z = record { shape = S; values = c; Bad = B; Shows = Z }

-- where the points B of a level are, the points B' of that level are
abbrev Carried : Points → Points → Type 0
Carried B B' = (d i j : ℕ) → B d i j → (i' : ℕ) × (j' : ℕ) × B' d i' j'

pub record Sound (S : Shape) : Type 0 where
  pub lawful : Lawful S
  pub read : T (readable S)
  pub filled : (i : Four) → length (S.table i) ≡ length S.entries

pub record Turning (S : Shape) (t u : Turn) : Type 0 where
  pub keeps : Keeps S t
  pub keeps-back : Keeps S u
  pub back : Undoes S u t
  pub forth : Undoes S t u

abbrev swapped : {S : Shape} {t u : Turn} → Turning S t u → Turning S u t
swapped y = record { keeps = y.keeps-back; keeps-back = y.keeps; back = y.forth; forth = y.back }

-- ---- one way
module _ (S : Shape) (W : Sound S) (t u : Turn) (y : Turning S t u) (c c' : List ℤ) (r : Turned S t c c')
    (B : Points) (Z : Shown) (B' : Points) (Z' : Shown) (b : Carried B B') where
  turned-alike : Alike (on S c B Z) (on S c' B' Z')
  turned-alike =
      let σ : Four → Four = t.quarters in
      record {
        level = λ d p. level-correspond (pass S) (cut_to S) (Turned S t) σ passes cuts d c c' r p;
        cutting = λ x p. (
          turn_cutting σ x,
          fits-correspond (pass S) (cut_to S) (Turned S t) σ passes cuts x c c' r p,
          leaves-turn σ y.keeps.fair x,
          depth-turn σ y.keeps.fair x,
        );
        open-cells = λ d. opens-correspond (pass S) (cut_to S) (Turned S t) σ passes cuts y.keeps.fair d c c' r;
        bad = b;
      }
    where
      passes : (v v' : List ℤ) → Turned S t v v' → pass S v ≡ pass S v'
      passes = turned-pass S W.lawful W.read W.filled t u y.keeps y.keeps-back y.back y.forth

      cuts : (i : Four) (v v' : List ℤ) → Turned S t v v' → Turned S t (cut_to S (t.quarters i) v) (cut_to S i v')
      cuts = turned-cut S W.lawful W.read W.filled t u y.keeps y.keeps-back y.back y.forth

-- ---- both ways
pub turned-judges : (S : Shape) → Sound S
    → (t u : Turn)
    → Turning S t u
    → (c c' : List ℤ)
    → Turned S t c c'
    → (B : Points) (Z : Shown) (B' : Points) (Z' : Shown)
    → Faithful (on S c B Z)
    → Faithful (on S c' B' Z')
    → Carried B B'
    → Carried B' B
    → (L : ℕ) (a b : Answer)
    → Judges (on S c B Z) L a
    → Judges (on S c' B' Z') L b
    → SameAnswer a b
turned-judges S W t u y c c' r B Z B' Z' f f' to fro =
    alike-judges (on S c B Z) (on S c' B' Z') f f' (turned-alike S W t u y c c' r B Z B' Z' to)
    (turned-alike S W u t (swapped y) c' c (turned-back S t u y.keeps-back y.forth r) B' Z' B Z fro)
