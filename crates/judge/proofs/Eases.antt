-- What is valid is valid for every subject that eases it, and what is invalid stays so for every subject that it eases.
--   eases-valid    : the one, at no deeper level and with no more cells
--   eases-invalid  : the other, at no deeper level
--   under-eases    : values under n times others ease them, where the bad places of the others are bad
-- For all faithful subjects, under any limits that reach the level. Assumes nothing.
use mathlib.Core.Path.{◌≡◌, refl}
use mathlib.Core.List.{List}
use Prim.Native.Nat.{ℕ, ◌≤◌, ◌<◌}
use native.Mathlib.Omega.{arith}
use native.Mathlib.Nat as N
use lib.IntN.{ℤ, pos}
use lib.Signed.{◌≤ℤ◌}
use Rattle.forms.specs.Cuttings.{leaves}
use Rattle.forms.specs.Grids.{cell_at}
use Rattle.forms.proofs.Under.{Under, under-pass, under-cell, under-fits}
use Rattle.element.specs.Kinds.{Kind}
use Rattle.element.specs.Places.{Place}
use Rattle.element.specs.Cells.{shape_of}
use Rattle.judge.specs.Verdict.{Word, valid, invalid, undecided, Answer, Subject, Valid, Invalid, Case, Judges}
use Rattle.judge.specs.Elements.{subject_by}
use Rattle.judge.specs.Faithful.{Faithful}
use Rattle.judge.specs.Eases.{Eases, Milder, Sterner}
use Rattle.judge.proofs.Levels.{passes-no-bad}
use Rattle.judge.proofs.Demands.{valid-least-cells}

module _ (s t : Subject) (f : Faithful s) (g : Faithful t) (e : Eases s t) (L M : ℕ) (a b : Answer) where
  pub eases-valid : Valid s L a → a.level ≤ M → Judges t M b → Milder a b
  eases-valid v h = go b.word refl
    where
      go : (w : Word) → b.word ≡ w → Case t w M b → Milder a b
      go valid q j =
          let c = (valid-least-cells s f L a v).attained in
          let k : b.cells ≤ leaves c.cutting = j.count.fewest c.cutting (e.cutting c.cutting c.passing) (N.le_trans c.within h) in
          let m = c.many in
          record { word = q; level = j.level.least a.level (e.level a.level v.level.passing); cells = omega arith }
      go invalid q j = absurd (passes-no-bad t g a.level (e.level a.level v.level.passing) b.level b.i b.j j.first.bad)
      go undecided q j = absurd (j.none_passes a.level h (e.level a.level v.level.passing))

  pub eases-invalid : Invalid t L a → a.level ≤ M → Judges s M b → Sterner a b
  eases-invalid v h = go b.word refl
    where
      go : (w : Word) → b.word ≡ w → Case s w M b → Sterner a b
      go valid q j = absurd (passes-no-bad s f b.level j.level.passing a.level a.i a.j (e.bad a.level a.i a.j v.first.bad))
      go invalid q j = record { word = q; level = j.first.least a.level a.i a.j (e.bad a.level a.i a.j v.first.bad) }
      go undecided q j = absurd (j.none_bad a.level a.i a.j h (e.bad a.level a.i a.j v.first.bad))

pub under-eases : (k : Kind) (f g : Place k → ℤ) (c c' : List ℤ) (n : ℕ) → 0 < n
    → Under n c c'
    → ((x : Place k) → g x ≤ℤ pos 0 → f x ≤ℤ pos 0)
    → Eases (subject_by k f c) (subject_by k g c')
under-eases k f g c c' n some u low =
    record {
      level = λ d p path e. under-pass n some (shape_of k) (cell_at (shape_of k) path c) (cell_at (shape_of k) path c') (under-cell n some (shape_of k) path c c' u) (p path e);
      cutting = λ t p. under-fits n some (shape_of k) t c c' u p;
      bad = λ d i j b. record { place = b.place; at_point = b.at_point; not_positive = low b.place b.not_positive };
    }
