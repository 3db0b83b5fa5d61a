-- Subjects that are alike have the same verdict, but for the point named.
--   Alike s s'       == what passes of s passes of s', with as many cells, and s' has a bad point at each level where s has one
--   SameAnswer a b   == the same word, level and number of cells
--   alike-judges     : of subjects that are alike both ways the answers are the same in these
-- For every two faithful subjects. Assumes nothing.
use mathlib.Core.Path.{◌≡◌, refl, sym, ◌∙◌, ap, subst}
use Prim.Native.Nat.{ℕ, ◌≤◌}
use native.Mathlib.Nat as N
use Rattle.forms.specs.Cuttings.{Cutting, leaves, depth, opens}
use Rattle.forms.specs.Shapes.{pass, cut_to}
use Rattle.judge.specs.Verdict.{Word, valid, invalid, undecided, Answer, Subject, AllPass, Passing, Attained, LeastCells, Valid, Invalid, Undecided, Case, Judges}
use Rattle.judge.specs.Faithful.{Faithful}
use Rattle.judge.proofs.Unique.{judges-unique, not-valid-invalid, not-invalid-undecided}

pub record Alike (s s' : Subject) : Type 0 where
  pub level : (d : ℕ) → AllPass s d → AllPass s' d
  pub cutting : (t : Cutting) → Passing s t → (t' : Cutting) × Passing s' t' × (leaves t' ≡ leaves t) × (depth t' ≡ depth t)
  pub open-cells : (d : ℕ) → opens (pass s.shape) (cut_to s.shape) d s.values ≡ opens (pass s'.shape) (cut_to s'.shape) d s'.values
  pub bad : (d i j : ℕ) → s.Bad d i j → (i' : ℕ) × (j' : ℕ) × s'.Bad d i' j'

pub record SameAnswer (a b : Answer) : Type 0 where
  pub word : a.word ≡ b.word
  pub level : a.level ≡ b.level
  pub cells : a.cells ≡ b.cells

same_of : {a b : Answer} → a ≡ b → SameAnswer a b
same_of e = record { word = ap (λ (x : Answer). x.word) e; level = ap (λ (x : Answer). x.level) e; cells = ap (λ (x : Answer). x.cells) e }

-- ---- an answer that names no point is the other's too
module _ (s s' : Subject) (to : Alike s s') (fro : Alike s' s) (L : ℕ) (a : Answer) where
  attained-alike : (n : ℕ) → Attained s L n → Attained s' L n
  attained-alike n c =
      let (t, p, many, deep) = to.cutting c.cutting c.passing in
      record { cutting = t; passing = p; within = rw deep c.within; many = many ∙ c.many }

  least-alike : (n : ℕ) → LeastCells s L n → LeastCells s' L n
  least-alike n l = record { attained = attained-alike n l.attained; fewest = few }
    where
      few : (x : Cutting) → Passing s' x → depth x ≤ L → n ≤ leaves x
      few x q h = let (t, p, many, deep) = fro.cutting x q in rw (← many) (l.fewest t p (rw deep h))

  valid-alike : Valid s L a → Valid s' L a
  valid-alike v =
      record {
        within = v.within;
        level = record { passing = to.level a.level v.level.passing; least = λ d p. v.level.least d (fro.level d p) };
        count = least-alike a.cells v.count;
        no_column = v.no_column;
        no_row = v.no_row;
        no_value = v.no_value;
      }

  undecided-alike : Undecided s L a → Undecided s' L a
  undecided-alike v =
      record {
        at_limit = v.at_limit;
        none_passes = λ d h p. v.none_passes d h (fro.level d p);
        none_bad = λ d i j h b. let (i', j', b') = fro.bad d i j b in v.none_bad d i' j' h b';
        count = v.count ∙ to.open-cells L;
        no_column = v.no_column;
        no_row = v.no_row;
        no_value = v.no_value;
      }

-- ---- the law
module _ (s s' : Subject) (f : Faithful s) (f' : Faithful s') (to : Alike s s') (fro : Alike s' s) (L : ℕ) (a b : Answer) where
  both-invalid : a.word ≡ b.word → Invalid s L a → Invalid s' L b → SameAnswer a b
  both-invalid w p q =
      let (i, j, x) = fro.bad b.level b.i b.j q.first.bad in
      let (i', j', y) = to.bad a.level a.i a.j p.first.bad in
      record {
        word = w;
        level = N.le_antisymm (p.first.least b.level i j x) (q.first.least a.level i' j' y);
        cells = p.no_cells ∙ sym q.no_cells;
      }

  pub alike-judges : Judges s L a → Judges s' L b → SameAnswer a b
  alike-judges p q = go a.word refl p
    where
      one : (w : Word) → a.word ≡ w → Case s' w L a → SameAnswer a b
      one w e v = same_of (judges-unique s' f' L a b (subst (λ (x : Word). Case s' x L a) (sym e) v) q)

      other : a.word ≡ invalid → Invalid s L a → (w : Word) → b.word ≡ w → Case s' w L b → SameAnswer a b
      other e p valid h q = absurd (not-valid-invalid s f L b a (valid-alike s' s fro to L b q) p)
      other e p invalid h q = both-invalid (e ∙ sym h) p q
      other e p undecided h q = absurd (not-invalid-undecided s f L a b p (undecided-alike s' s fro to L b q))

      go : (w : Word) → a.word ≡ w → Case s w L a → SameAnswer a b
      go valid e p = one valid e (valid-alike s s' to fro L a p)
      go invalid e p = other e p b.word refl q
      go undecided e p = one undecided e (undecided-alike s s' to fro L a p)
