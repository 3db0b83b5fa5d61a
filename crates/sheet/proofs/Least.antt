-- The least cutting of an element.
--   greedy-cutting : the greedy cutting is the least
--   least-unique   : there is one least cutting
--   least-fewest   : no cutting of any depth whose cells all pass has fewer cells
--   least-higher   : it is the least under every higher limit too
--   Ready k l xs m : the element is valid, and its least cutting has m cells
--   valid-accepted, valid-ready, not_valid : from the verdict
--   passing-valid  : an element with a cutting no deeper than the limit whose cells all pass is valid
-- Assumes nothing.
use mathlib.Core.Path.{◌≡◌, refl, sym, ap, subst}
use mathlib.Core.Bool.{true, false}
use mathlib.Core.List.{List}
use mathlib.Core.Option.{some}
use Prim.Native.Nat.{ℕ, ◌≤◌}
use native.Mathlib.Nat as N
use lib.IntN.{ℤ}
use Rattle.forms.specs.Cuttings.{Cutting, leaves, depth, greedy}
use Rattle.forms.specs.Shapes.{pass, cut_to}
use Rattle.forms.proofs.Cuttings.{greedy-exists, greedy-fits, greedy-least, fits-level}
use Rattle.forms.proofs.Shapes.{inherit}
use Rattle.element.specs.Kinds.{Kind, NotStored, kind_of}
use Rattle.element.specs.Control.{control_values}
use Rattle.element.specs.Cells.{shape_of}
use Rattle.element.specs.Refusals.{Accepted, verdict_codes, stored_codes}
use Rattle.judge.specs.Verdict as judge
use Rattle.judge.specs.Verdict.{Answer, Subject, AllPass, Passing, Valid, Case, Judges}
use Rattle.judge.specs.Elements.{subject}
use Rattle.judge.specs.Faithful.{Faithful}
use Rattle.judge.proofs.Faithful.{element-faithful}
use Rattle.judge.proofs.Levels.{level-passes, passes-no-bad}
use Rattle.judge.proofs.Unique.{cells-unique}
use Rattle.judge.proofs.Computed.{cells-least}
use Rattle.verdict.specs.Calls.{says_valid, VerdictOf}
use Rattle.verdict.specs.declared.Word.TheVariants as words
use Rattle.verdict.specs.declared.Judged.{Judged}
use Rattle.verdict.proofs.Judging as told
use Rattle.cuttings.specs.Bytes.{sheet_bytes}
use Rattle.cuttings.proofs.Trimmed.{trimmed-greedy, least-only}
use Rattle.sheet.specs.Steps.{trimmed_bytes}
use Rattle.sheet.specs.Calls.{LeastCutting, NotValid}

-- ---- for every subject
module _ (s : Subject) where
  abbrev Greedy : ℕ → Cutting → Type 0
  Greedy L g = greedy (pass s.shape) (cut_to s.shape) L s.values ≡ some g

  pub greedy-cutting : (L : ℕ) (g : Cutting) → Greedy L g → LeastCutting s L g
  greedy-cutting L g e =
      let (p, q) = greedy-fits (pass s.shape) (cut_to s.shape) L s.values g e in
      record { passing = p; within = q; fewest = λ u f h. (greedy-least (pass s.shape) (cut_to s.shape) L s.values g e u f).0 }

  least-greedy : (L : ℕ) (t : Cutting) → LeastCutting s L t → Greedy L t
  least-greedy L t p =
      let (g, e) = greedy-exists (pass s.shape) (cut_to s.shape) t L s.values p.passing p.within in
      let q = greedy-cutting L g e in
      let f = least-only (pass s.shape) (cut_to s.shape) L s.values g e t p.passing (p.fewest g q.passing q.within) in
      subst (Greedy L) (sym f) e

  pub least-fewest : (L : ℕ) (t u : Cutting) → LeastCutting s L t → Passing s u → leaves t ≤ leaves u
  least-fewest L t u p f = (greedy-least (pass s.shape) (cut_to s.shape) L s.values t (least-greedy L t p) u f).0

  pub least-unique : (L : ℕ) (t u : Cutting) → LeastCutting s L t → LeastCutting s L u → t ≡ u
  least-unique L t u p q =
      least-only (pass s.shape) (cut_to s.shape) L s.values u (least-greedy L u q) t p.passing (p.fewest u q.passing q.within)

  pub least-higher : (L M : ℕ) (t : Cutting) → L ≤ M → LeastCutting s L t → LeastCutting s M t
  least-higher L M t h p =
      record { passing = p.passing; within = N.le_trans p.within h; fewest = λ u f k. least-fewest L t u p f }

  -- a cutting whose cells all pass shuts out the other two cases
  pub passing-valid : Faithful s → (L : ℕ) (t : Cutting) (a : Answer) → Passing s t → depth t ≤ L → Judges s L a → a.word ≡ judge.valid
  passing-valid f L t a p h j = go a.word refl j
    where
      all : AllPass s (depth t)
      all = level-passes s f (depth t) (fits-level (pass s.shape) (cut_to s.shape) (inherit s.shape f.lawful) t (depth t) s.values p (N.le_refl (depth t)))

      go : (w : judge.Word) → a.word ≡ w → Case s w L a → a.word ≡ judge.valid
      go judge.valid e v = e
      go judge.invalid e v = absurd (passes-no-bad s f (depth t) all a.level a.i a.j v.first.bad)
      go judge.undecided e v = absurd (v.none_passes (depth t) h all)

-- ---- of an element, from its verdict
pub record Ready (k : Kind) (l : ℕ) (xs : List ℤ) (m : ℕ) : Type 0 where
  pub answer : Answer
  pub valid : Valid (subject k xs) l answer
  pub cutting : Cutting
  pub least : LeastCutting (subject k xs) l cutting
  pub sheet : trimmed_bytes k l xs ≡ sheet_bytes cutting
  pub many : m ≡ leaves cutting

ready_of : (k : Kind) (l : ℕ) (xs : List ℤ) (a : Answer) → Valid (subject k xs) l a → Ready k l xs a.cells
ready_of k l xs a v =
    let c = v.count.attained in
    let (g, e) = greedy-exists (pass (shape_of k)) (cut_to (shape_of k)) c.cutting l (control_values k xs) c.passing c.within in
    record {
      answer = a;
      valid = v;
      cutting = g;
      least = greedy-cutting (subject k xs) l g e;
      sheet = ap sheet_bytes (trimmed-greedy (pass (shape_of k)) (cut_to (shape_of k)) l (control_values k xs) g e);
      many = cells-unique (subject k xs) (element-faithful k xs) l a.cells (leaves g) v.count (cells-least (subject k xs) (element-faithful k xs) l g e);
    }

module _ (n l : ℕ) (xs : List ℤ) (j : Judged) (v : VerdictOf n l xs j) where
  pub valid-accepted : ¬ NotStored n → j.code ≡ 0 → Accepted (stored_codes n l xs)
  valid-accepted s e = (s, (told.answered (verdict_codes n l xs) (subject (kind_of n) xs) l j tt v e).accepted.1)

  pub ready-by-word : j.word ≡ words.Valid → Ready (kind_of n) l xs j.cells
  ready-by-word e =
      told.by_word (verdict_codes n l xs) (subject (kind_of n) xs) l judge.valid (λ r. Ready (kind_of n) l xs r.cells)
      (λ a w. ready_of (kind_of n) l xs a w) j v e

  pub valid-ready : says_valid j.word ≡ true → Ready (kind_of n) l xs j.cells
  valid-ready e = ready-by-word (told.word-valid j.word e)

  pub not_valid : j.code ≡ 0 → says_valid j.word ≡ false → NotValid (kind_of n) l xs
  not_valid e h =
      told.not-valid-under (verdict_codes n l xs) (subject (kind_of n) xs) (element-faithful (kind_of n) xs) l j v
      (told.answered (verdict_codes n l xs) (subject (kind_of n) xs) l j tt v e).accepted h
