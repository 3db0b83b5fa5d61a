-- What a text of records says, line by line (README, "Blocks from text").
--   Says ws g        == a line of the words ws says the record g: id, kind, level limit, and the coordinates
--   Line             == a record that a text says, and the number of its line
--   Lines n ls gs    == gs are what the lines ls say, the first of them the n-th; nothing stands behind the last line feed
--   Records t gs     == gs are what the text t says
--   givens gs        == the records alone
-- Given is what a call of `append_record` is given.
-- Definitions only.
use Rattle.std.specs.Prelude.{List, [], ◌∷◌, map, ℕ, suc, ℤ}
use Rattle.append.specs.Series.{Given}
use Rattle.mesh_text.specs.Rows.{Pairs, lines, words}
use Rattle.mesh_text.specs.Words.{Number, WholeValue}
use Rattle.record_text.specs.Faults.{Silent}

-- "the first three words are whole numbers: id, kind, limit", "the others coordinates"
pub data Says : List (List ℕ) → Given → Type 0 where
  says : {a b c : List ℕ} {ws : List (List ℕ)} {id kind limit : ℕ} {xs : List ℤ}
      → Number a id
      → Number b kind
      → Number c limit
      → Pairs WholeValue ws xs
      → Says (a ∷ b ∷ c ∷ ws) (record { id = id; kind = kind; limit = limit; coords = xs })

pub record Line : Type 0 where
  pub line : ℕ
  pub given : Given

-- "counts for nothing but keeps its number"
pub data Lines : ℕ → List (List ℕ) → List Line → Type 0 where
  end : {n : ℕ} → Lines n ([] ∷ []) []
  silent : {n : ℕ} {l m : List ℕ} {ls : List (List ℕ)} {gs : List Line}
      → Silent (words l)
      → Lines (suc n) (m ∷ ls) gs
      → Lines n (l ∷ m ∷ ls) gs
  spoken : {n : ℕ} {l m : List ℕ} {ls : List (List ℕ)} {g : Given} {gs : List Line}
      → ¬ Silent (words l)
      → Says (words l) g
      → Lines (suc n) (m ∷ ls) gs
      → Lines n (l ∷ m ∷ ls) (record { line = n; given = g } ∷ gs)

abbrev pub Records : List ℕ → List Line → Type 0
Records t gs = Lines 1 (lines t) gs

abbrev pub givens : List Line → List Given
givens gs = map (λ g. g.given) gs
