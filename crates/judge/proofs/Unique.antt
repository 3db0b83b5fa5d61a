-- One answer only: two answers that fit the same subject and limit are equal in every field.
--   judges-unique    : that
--   not-valid-invalid, not-valid-undecided, not-invalid-undecided : no two of the cases hold together
--   valid-word       : where the first case holds, the verdict's word is valid
--   cells-unique     : one least number of cells
-- For every faithful subject. Assumes nothing.
use mathlib.Core.Path.{◌≡◌, refl, sym, ◌∙◌, ap, subst}
use Prim.Native.Nat.{ℕ, ◌≤◌}
use native.Mathlib.Omega.{arith}
use native.Mathlib.Nat as N
use lib.IntN.{ℤ, pos}
use Rattle.forms.specs.Cuttings.{leaves}
use Rattle.judge.specs.Verdict.{Word, valid, invalid, undecided, Answer, Subject, LeastCells, FirstBad, Valid, Invalid, Undecided, Case, Judges, ValidUnder}
use Rattle.judge.specs.Faithful.{value_at, Faithful}
use Rattle.judge.proofs.Levels.{passes-no-bad}

-- answers by their fields
pub answer-≡ : (a b : Answer) → a.word ≡ b.word
    → a.level ≡ b.level
    → a.i ≡ b.i
    → a.j ≡ b.j
    → a.value ≡ b.value
    → a.cells ≡ b.cells
    → a ≡ b
answer-≡ a b p q r s t u = λ x. record { word = p x; level = q x; i = r x; j = s x; value = t x; cells = u x }

module _ (s : Subject) (f : Faithful s) (L : ℕ) where
  pub cells-unique : (m n : ℕ) → LeastCells s L m → LeastCells s L n → m ≡ n
  cells-unique m n a b =
      let x = a.attained in let y = b.attained in
      let h : m ≤ leaves y.cutting = a.fewest y.cutting y.passing y.within in
      let k : n ≤ leaves x.cutting = b.fewest x.cutting x.passing x.within in
      let p = x.many in let q = y.many in omega arith

  both-valid : (a b : Answer) → a.word ≡ b.word → Valid s L a → Valid s L b → a ≡ b
  both-valid a b w p q =
      answer-≡ a b w (N.le_antisymm (p.level.least b.level q.level.passing) (q.level.least a.level p.level.passing))
      (p.no_column ∙ sym q.no_column) (p.no_row ∙ sym q.no_row) (p.no_value ∙ sym q.no_value)
      (cells-unique a.cells b.cells p.count q.count)

  both-invalid : (a b : Answer) → a.word ≡ b.word → Invalid s L a → Invalid s L b → a ≡ b
  both-invalid a b w p q = answer-≡ a b w levels columns rows values (p.no_cells ∙ sym q.no_cells)
    where
      x : FirstBad s a.level a.i a.j
      x = p.first

      y : FirstBad s b.level b.i b.j
      y = q.first

      levels : a.level ≡ b.level
      levels = N.le_antisymm (x.least b.level b.i b.j y.bad) (y.least a.level a.i a.j x.bad)

      rows : a.j ≡ b.j
      rows =
          N.le_antisymm (x.first_row b.i b.j (subst (λ (d : ℕ). s.Bad d b.i b.j) (sym levels) y.bad))
          (y.first_row a.i a.j (subst (λ (d : ℕ). s.Bad d a.i a.j) levels x.bad))

      columns : a.i ≡ b.i
      columns =
          N.le_antisymm (x.first_column b.i (rw (levels, rows) y.bad)) (y.first_column a.i (rw (← levels, ← rows) x.bad))

      one_value : value_at s a.level a.i a.j ≡ value_at s b.level b.i b.j
      one_value = rw (levels, rows, columns)

      values : a.value ≡ b.value
      values =
          f.shows_is a.level a.i a.j a.value p.shown ∙ one_value
          ∙ sym (f.shows_is b.level b.i b.j b.value q.shown)

  both-undecided : (a b : Answer) → a.word ≡ b.word → Undecided s L a → Undecided s L b → a ≡ b
  both-undecided a b w p q =
      answer-≡ a b w (p.at_limit ∙ sym q.at_limit) (p.no_column ∙ sym q.no_column) (p.no_row ∙ sym q.no_row)
      (p.no_value ∙ sym q.no_value) (p.count ∙ sym q.count)

  -- no two of the cases hold together
  pub not-valid-invalid : (a b : Answer) → Valid s L a → Invalid s L b → ⊥
  not-valid-invalid a b p q = passes-no-bad s f a.level p.level.passing b.level b.i b.j q.first.bad

  pub not-valid-undecided : (a b : Answer) → Valid s L a → Undecided s L b → ⊥
  not-valid-undecided a b p q = q.none_passes a.level p.within p.level.passing

  pub not-invalid-undecided : (a b : Answer) → Invalid s L a → Undecided s L b → ⊥
  not-invalid-undecided a b p q = q.none_bad a.level a.i a.j p.within p.first.bad

  pub judges-unique : (a b : Answer) → Judges s L a → Judges s L b → a ≡ b
  judges-unique a b p q = go a.word refl b.word refl p q
    where
      go : (v : Word) → a.word ≡ v → (w : Word) → b.word ≡ w → Case s v L a → Case s w L b → a ≡ b
      go valid e valid h p q = both-valid a b (e ∙ sym h) p q
      go valid e invalid h p q = absurd (not-valid-invalid a b p q)
      go valid e undecided h p q = absurd (not-valid-undecided a b p q)
      go invalid e valid h p q = absurd (not-valid-invalid b a q p)
      go invalid e invalid h p q = both-invalid a b (e ∙ sym h) p q
      go invalid e undecided h p q = absurd (not-invalid-undecided a b p q)
      go undecided e valid h p q = absurd (not-valid-undecided b a q p)
      go undecided e invalid h p q = absurd (not-invalid-undecided b a q p)
      go undecided e undecided h p q = both-undecided a b (e ∙ sym h) p q

  pub valid-word : (a : Answer) → ValidUnder s L → Judges s L a → a.word ≡ valid
  valid-word a (b, p) j = go a.word refl j
    where
      go : (w : Word) → a.word ≡ w → Case s w L a → a.word ≡ valid
      go valid e q = e
      go invalid e q = absurd (not-valid-invalid b a p q)
      go undecided e q = absurd (not-valid-undecided b a p q)
