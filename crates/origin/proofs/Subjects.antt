-- Two subjects with the same values, and the same numbers at every place, have the same verdicts.
--   bad-same, shows_same : the same points are bad, and the same is shown there
--   valid_same     : valid speaks of the values alone
--   judges-same    : the same answers
--   told_same      : the verdict that a call gives on the one, it may give on the other
-- For any shape. Assumes nothing.
use mathlib.Core.Path.{◌≡◌, sym, ◌∙◌, ap, subst}
use mathlib.Core.List.{List}
use Prim.Native.Nat.{ℕ}
use lib.IntN.{ℤ, pos, ◌*ℤ◌}
use lib.Signed.{◌≤ℤ◌}
use Rattle.element.specs.Kinds.{Kind, scale}
use Rattle.element.specs.Places.{Place}
use Rattle.element.specs.Jacobian.{BadBy, ShowsBy}
use Rattle.element.specs.Refusals.{Codes, Accepted}
use Rattle.judge.specs.Verdict.{Word, valid, invalid, undecided, Answer, LeastLevel, LeastCells, Valid, Invalid, Undecided, Case}
use Rattle.judge.specs.Elements.{subject_by}
use Rattle.verdict.specs.Calls.{HasVerdict}
use Rattle.verdict.specs.declared.Judged.{Judged}

module _ (k : Kind) (f g : Place k → ℤ) (same : (x : Place k) → f x ≡ g x) where
  pub bad-same : {d i j : ℕ} → BadBy k f d i j → BadBy k g d i j
  bad-same b =
      record { place = b.place; at_point = b.at_point; not_positive = subst (λ z. z ≤ℤ pos 0) (same b.place) b.not_positive }

  pub shows_same : {d i j : ℕ} {z : ℤ} → ShowsBy k f d i j z → ShowsBy k g d i j z
  shows_same {d} s =
      record { place = s.place; at_point = s.at_point; shown = s.shown ∙ ap (λ z. pos (scale k d) *ℤ z) (same s.place) }

module _ (k : Kind) (f g : Place k → ℤ) (c : List ℤ) where
  least-same : {d : ℕ} → LeastLevel (subject_by k f c) d → LeastLevel (subject_by k g c) d
  least-same p = record { passing = p.passing; least = p.least }

  cells_same : {L n : ℕ} → LeastCells (subject_by k f c) L n → LeastCells (subject_by k g c) L n
  cells_same p =
      let a = p.attained in
      record { attained = record { cutting = a.cutting; passing = a.passing; within = a.within; many = a.many }; fewest = p.fewest }

  pub valid_same : (L : ℕ) (a : Answer) → Valid (subject_by k f c) L a → Valid (subject_by k g c) L a
  valid_same L a v =
      record {
        within = v.within;
        level = least-same v.level;
        count = cells_same v.count;
        no_column = v.no_column;
        no_row = v.no_row;
        no_value = v.no_value;
      }

  module _ (same : (x : Place k) → f x ≡ g x) where
    invalid-same : (L : ℕ) (a : Answer) → Invalid (subject_by k f c) L a → Invalid (subject_by k g c) L a
    invalid-same L a v =
        let back : (d i j : ℕ) → BadBy k g d i j → BadBy k f d i j = λ d i j b. bad-same k g f (λ x. sym (same x)) b in
        record {
          within = v.within;
          first = record {
            bad = bad-same k f g same v.first.bad;
            least = λ e i j b. v.first.least e i j (back e i j b);
            first_row = λ i j b. v.first.first_row i j (back a.level i j b);
            first_column = λ i b. v.first.first_column i (back a.level i a.j b);
          };
          shown = shows_same k f g same v.shown;
          no_cells = v.no_cells;
        }

    undecided-same : (L : ℕ) (a : Answer) → Undecided (subject_by k f c) L a → Undecided (subject_by k g c) L a
    undecided-same L a v =
        record {
          at_limit = v.at_limit;
          none_passes = v.none_passes;
          none_bad = λ d i j h b. v.none_bad d i j h (bad-same k g f (λ x. sym (same x)) b);
          count = v.count;
          no_column = v.no_column;
          no_row = v.no_row;
          no_value = v.no_value;
        }

    pub judges-same : (w : Word) (L : ℕ) (a : Answer) → Case (subject_by k f c) w L a → Case (subject_by k g c) w L a
    judges-same valid = valid_same
    judges-same invalid = invalid-same
    judges-same undecided = undecided-same

pub told_same : (k : Kind) (f g : Place k → ℤ) (c d : List ℤ) (o p : Codes ℕ) (l : ℕ) (r : Judged)
    → ((x : Place k) → f x ≡ g x)
    → c ≡ d
    → Accepted p
    → HasVerdict o (subject_by k f c) l r
    → HasVerdict p (subject_by k g d) l r
told_same k f g c d o p l r same e b v =
    record {
      accepted = b;
      answer = v.answer;
      judges = subst (λ (m : List ℤ). Case (subject_by k g m) v.answer.word l v.answer) e (judges-same k f g c same v.answer.word l v.answer v.judges);
      told = v.told;
    }
