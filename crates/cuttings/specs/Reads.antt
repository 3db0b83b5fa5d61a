-- Reading a cutting from bytes: what a checker of cells of a shape answers.
--   Reads S n v l rest == the bytes l are a cutting of the cell v, no deeper than n, whose kept cells all pass, and then rest
--   InTurn S n v qs l rest == the bytes l are such cuttings of these quarters of v, one behind the other, and then rest
--   quarters_from i     == the quarters from quarter i on, in 01's order
--   Checked P l r      == r is a place in l behind which the bytes are such that P holds of them, or P holds of no bytes
-- Definitions only.
use Rattle.std.specs.Prelude.{◌≡◌, Option, Some, None, List, [], ◌∷◌, ◌++◌, ℕ, zero, suc, ◌≤◌, ℤ, length, drop}
use Rattle.forms.specs.Cuttings.{Four, first, second, third, fourth, Cutting, depth, Fits}
use Rattle.forms.specs.Shapes.{Shape, pass, cut_to}
use Rattle.cuttings.specs.Bytes.{cutting_bytes}

module _ (S : Shape) where
  pub record Reads (n : ℕ) (v : List ℤ) (l rest : List ℕ) : Type 0 where
    pub cutting : Cutting
    pub fits : Fits (pass S) (cut_to S) v cutting
    pub within : depth cutting ≤ n
    pub bytes : l ≡ cutting_bytes cutting ++ rest

  abbrev pub InTurn : ℕ → List ℤ → List Four → List ℕ → List ℕ → Type 0
  InTurn n v [] l rest = l ≡ rest
  InTurn n v (q ∷ qs) l rest = (m : List ℕ) × Reads n (cut_to S q v) l m × InTurn n v qs m rest

abbrev pub quarters_from : ℕ → List Four
quarters_from zero = first ∷ second ∷ third ∷ fourth ∷ []
quarters_from (suc zero) = second ∷ third ∷ fourth ∷ []
quarters_from (suc (suc zero)) = third ∷ fourth ∷ []
quarters_from (suc (suc (suc zero))) = fourth ∷ []
quarters_from (suc (suc (suc (suc i)))) = []

abbrev pub Checked : (List ℕ → Type 0) → List ℕ → Option ℕ → Type 0
Checked P l (Some b) = (b ≤ length l) × P (drop b l)
Checked P l None = (rest : List ℕ) → ¬ P rest
