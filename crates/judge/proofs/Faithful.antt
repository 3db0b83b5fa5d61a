-- Subjects that are worth judging.
--   means-faithful   : whatever the values mean at places, bad points and shown values read off that are faithful
--   element-faithful : an element of any kind is: its control values mean J
-- Assumes nothing.
use mathlib.Core.List.{List}
use lib.IntN.{ℤ}
use Rattle.element.specs.Kinds.{Kind}
use Rattle.element.specs.Places.{Place}
use Rattle.element.specs.Jacobian.{jacobian}
use Rattle.element.specs.Control.{control_values}
use Rattle.element.specs.Cells.{Means}
use Rattle.element.proofs.Places.{scaled-is-J, bad-value, value-bad, shows-value, value-shows, on_grid}
use Rattle.element.proofs.Values.{shape-lawful}
use Rattle.judge.specs.Faithful.{Faithful}
use Rattle.judge.specs.Elements.{subject_by, subject}

pub means-faithful : (k : Kind) (f : Place k → ℤ) (c : List ℤ) → Means k f c → Faithful (subject_by k f c)
means-faithful k f c m =
    record {
      lawful = shape-lawful k;
      bad_low = bad-value k f c m;
      low_bad = value-bad k f c m;
      shows_is = shows-value k f c m;
      is_shown = λ d i j g. value-shows k f c m d i j (on_grid k d i j g);
    }

pub element-faithful : (k : Kind) (xs : List ℤ) → Faithful (subject k xs)
element-faithful k xs = means-faithful k (jacobian k xs) (control_values k xs) (scaled-is-J k xs)
