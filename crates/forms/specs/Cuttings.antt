-- Cutting a cell into quarters (01: "A cell that does not pass is split in four"), for any kind of cell with a test and
-- four quarters.
--   Four        == which of the four quarters
--   four_of n    == quarter n, counted from 0
--   in_four f    == the test f holds of all four
--   Cutting     == a cell that is kept, or cut with a cutting of each quarter
--   leaves, depth == how many cells a cutting keeps, and how many cuts lie above the deepest
--   full d      == the cutting into all cells of level d
--   descend q path v == the cell of v that the quarters of the path lead to
--   Fits v t    == all cells that t keeps of the cell v pass
--   level d v   == all cells of level d of v pass
--   opens d v   == how many cells of level d of v do not pass
--   greedy L v  == the cutting that keeps each cell that passes and cuts any other, if it ends within L levels
-- Definitions only.
use Rattle.std.specs.Prelude.{Bool, true, false, ◌&&◌, List, [], ◌∷◌, ℕ, zero, suc, ◌+◌, max, T}
use Rattle.std.proofs.Math.Option.{Option, none, some}

pub data Four : Type 0 where
  first second third fourth : Four

abbrev pub four_of : ℕ → Four
four_of zero = first
four_of (suc zero) = second
four_of (suc (suc zero)) = third
four_of (suc (suc (suc n))) = fourth

-- a test of all four
abbrev pub in_four : (Four → Bool) → Bool
in_four f = f first && (f second && (f third && f fourth))

pub data Cutting : Type 0 where
  keep : Cutting
  cut : Cutting → Cutting → Cutting → Cutting → Cutting

unfoldable pub leaves : Cutting → ℕ
leaves keep = 1
leaves (cut a b c d) = leaves a + leaves b + leaves c + leaves d

unfoldable pub depth : Cutting → ℕ
depth keep = 0
depth (cut a b c d) = suc (max (max (depth a) (depth b)) (max (depth c) (depth d)))

abbrev pub full : ℕ → Cutting
full zero = keep
full (suc d) = cut (full d) (full d) (full d) (full d)

abbrev pub join : Option Cutting → Option Cutting → Option Cutting → Option Cutting → Option Cutting
join (some a) (some b) (some c) (some d) = some (cut a b c d)
join (some a) (some b) (some c) none = none
join (some a) (some b) none d = none
join (some a) none c d = none
join none b c d = none

-- the cell that the quarters of the path lead to; its level is the path's length
abbrev pub descend : {Cell : Type 0} → (Four → Cell → Cell) → List Four → Cell → Cell
descend q [] v = v
descend q (i ∷ path) v = descend q path (q i v)

module _ {Cell : Type 0} (pass : Cell → Bool) (q : Four → Cell → Cell) where
  abbrev pub Fits : Cell → Cutting → Type 0
  Fits v keep = T (pass v)
  Fits v (cut a b c d) = Fits (q first v) a × Fits (q second v) b × Fits (q third v) c × Fits (q fourth v) d

  unfoldable pub level : ℕ → Cell → Bool
  level zero v = pass v
  level (suc d) v = in_four (λ i. level d (q i v))

  unfoldable pub opens : ℕ → Cell → ℕ
  opens zero v = elim (pass v) [ true ↦ 0 | false ↦ 1 ]
  opens (suc d) v = opens d (q first v) + opens d (q second v) + opens d (q third v) + opens d (q fourth v)

  unfoldable pub greedy : ℕ → Cell → Option Cutting
  greedy zero v = elim (pass v) [ true ↦ some keep | false ↦ none ]
  greedy (suc d) v =
      elim (pass v) [
        | true ↦ some keep
        | false ↦ join (greedy d (q first v)) (greedy d (q second v)) (greedy d (q third v)) (greedy d (q fourth v))
      ]
