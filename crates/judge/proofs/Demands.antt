-- The demands on the verdict, as theorems.
--   valid-there         : valid: what the values mean is positive at every rational point of the closed element
--   valid-positive      : so J > 0 there, for elements
--   valid-least-cells   : the number of cells with valid is that of a cutting no deeper than the level reported whose cells all pass,
--                         and the least of any such cutting, of any depth
--   undecided-stays, stays-undecided : undecided exactly when no grid point of the limit's level is bad and some cell of that level fails
--   limit-keeps         : a valid or invalid answer at level d is the answer under every limit of d or more
--   judges-some         : some case always holds (no two do: Unique.antt)
--   limit-never-alters  : so a higher limit never alters it, in any field
-- The argument once, for every faithful subject. Assumes nothing.
use mathlib.Core.Path.{◌≡◌, refl, sym, subst}
use mathlib.Core.List.{List}
use Prim.Native.Nat.{ℕ, ◌+◌, ◌-◌, ◌≤◌}
use native.Mathlib.Nat as N
use native.Mathlib.Omega.{arith}
use lib.IntN.{ℤ, pos}
use lib.Signed.{◌<ℤ◌}
use Rattle.forms.specs.Cuttings.{leaves}
use Rattle.forms.specs.Shapes.{pass, cut_to}
use Rattle.forms.proofs.Cuttings.{greedy-exists, greedy-fits, greedy-least, greedy-level, level-fails}
use Rattle.forms.proofs.Shapes.{inherit}
use Rattle.element.specs.Kinds.{Kind}
use Rattle.element.specs.Places.{Place}
use Rattle.element.specs.Jacobian.{jacobian}
use Rattle.element.specs.Control.{control_values}
use Rattle.element.specs.Cells.{rows_of, Means}
use Rattle.element.proofs.Places.{place-point, scaled-is-J, positive-there}
use Rattle.judge.specs.Verdict.{Word, valid, invalid, undecided, Answer, Subject, Attained, FewestCells, Valid, Invalid, Undecided, Case, Judges, Stays}
use Rattle.judge.specs.Elements.{subject_by, subject}
use Rattle.judge.specs.Faithful.{Faithful}
use Rattle.judge.proofs.Faithful.{means-faithful}
use Rattle.judge.proofs.Levels.{passes-level, level-passes, passes_up, passes-positive, bad-up}
use Rattle.judge.proofs.Unique.{cells-unique, judges-unique}
use Rattle.judge.proofs.Computed.{cells-least, verdict, verdict-is}

pub valid-there : (k : Kind) (f : Place k → ℤ) (c : List ℤ) → Means k f c
    → (L : ℕ) (a : Answer)
    → Valid (subject_by k f c) L a
    → (x : Place k)
    → pos 0 <ℤ f x
valid-there k f c m L a v x =
    positive-there k f c m x
    (passes-positive (subject_by k f c) (means-faithful k f c m) a.level v.level.passing (rows_of k x) (place-point k x))

pub valid-positive : (k : Kind) (xs : List ℤ) (L : ℕ) (a : Answer) → Valid (subject k xs) L a → (x : Place k) → pos 0 <ℤ jacobian k xs x
valid-positive k xs = valid-there k (jacobian k xs) (control_values k xs) (scaled-is-J k xs)

module _ (s : Subject) (f : Faithful s) where
  -- ---- the least number of cells, of any depth: the greedy cutting within the limit has it, and is no deeper than the level
  pub valid-least-cells : (L : ℕ) (a : Answer) → Valid s L a → FewestCells s a.level a.cells
  valid-least-cells L a v =
      let c = v.count.attained in
      let (g, e) = greedy-exists (pass s.shape) (cut_to s.shape) c.cutting L s.values c.passing c.within in
      let m : a.cells ≡ leaves g = cells-unique s f L a.cells (leaves g) v.count (cells-least s f L g e) in
      record {
        attained =
            record {
              cutting = g;
              passing = (greedy-fits (pass s.shape) (cut_to s.shape) L s.values g e).0;
              within = (greedy-level (pass s.shape) (cut_to s.shape) (inherit s.shape f.lawful) L s.values g e).1 a.level (passes-level s f a.level v.level.passing);
              many = sym m;
            };
        fewest = λ t p. rw m (greedy-least (pass s.shape) (cut_to s.shape) L s.values g e t p).0;
      }

  -- ---- another limit
  -- a cutting within a level is one within each deeper level
  deeper : {L M n : ℕ} → L ≤ M → Attained s L n → Attained s M n
  deeper h c = record { cutting = c.cutting; passing = c.passing; within = N.le_trans c.within h; many = c.many }

  valid-keeps : (L M : ℕ) (a : Answer) → a.level ≤ M → Valid s L a → Valid s M a
  valid-keeps L M a h v =
      let g = valid-least-cells L a v in
      record {
        within = h;
        level = v.level;
        count = record { attained = deeper h g.attained; fewest = λ t p q. g.fewest t p };
        no_column = v.no_column;
        no_row = v.no_row;
        no_value = v.no_value;
      }

  invalid-keeps : (L M : ℕ) (a : Answer) → a.level ≤ M → Invalid s L a → Invalid s M a
  invalid-keeps L M a h v = record { within = h; first = v.first; shown = v.shown; no_cells = v.no_cells }

  pub limit-keeps : (L M : ℕ) (a : Answer) → ¬ (a.word ≡ undecided) → a.level ≤ M → Judges s L a → Judges s M a
  limit-keeps L M a n h v = go a.word refl v
    where
      go : (w : Word) → a.word ≡ w → Case s w L a → Case s w M a
      go valid e v = valid-keeps L M a h v
      go invalid e v = invalid-keeps L M a h v
      go undecided e v = absurd (n e)

  pub limit-never-alters : (L M : ℕ) (a b : Answer) → ¬ (a.word ≡ undecided) → a.level ≤ M → Judges s L a → Judges s M b → b ≡ a
  limit-never-alters L M a b n h v w = judges-unique s f M b a w (limit-keeps L M a n h v)

  -- ---- undecided
  pub undecided-stays : (L : ℕ) (a : Answer) → Undecided s L a → Stays s L
  undecided-stays L a u =
      let (path, e, n) = level-fails (pass s.shape) (cut_to s.shape) L s.values (λ t. u.none_passes L (N.le_refl L) (level-passes s f L t)) in
      record { none_bad = λ i j b. u.none_bad L i j (N.le_refl L) b; path = path; at_level = e; fails = n }

  pub stays-undecided : (L : ℕ) (a : Answer) → Stays s L → Judges s L a → a.word ≡ undecided
  stays-undecided L a t v = go a.word refl v
    where
      go : (w : Word) → a.word ≡ w → Case s w L a → a.word ≡ undecided
      go valid e v = absurd (t.fails (passes_up s f a.level L v.within v.level.passing t.path t.at_level))
      go invalid e v =
          let (i, j, b) = bad-up s f (L - a.level) a.level a.i a.j v.first.bad in
          let h = v.within in let q : L - a.level + a.level ≡ L = omega arith in
          absurd (t.none_bad i j (subst (λ (d : ℕ). s.Bad d i j) q b))
      go undecided e v = e

  -- ---- some case always holds
  pub judges-some : (L : ℕ) → (a : Answer) × Judges s L a
  judges-some L = (verdict s L, verdict-is s f L)
