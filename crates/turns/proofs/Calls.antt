-- Numbering does not matter to `verdict`, nor to `floor_verdict` (02, Ask 10).
--   element-unmoved  : J does not move with the numbering
--   turned-verdict   : for a list and the list turned m times, both accepted, the answers have the same word, level and number of cells,
--                      and the bad grid points of every level are the turned set
--   straight-turned, floor-unmoved : nor does S, nor 100·J - p·S
--   turned-floor     : the same of the floor, by its own bad points
-- By the contracts alone. Assumes nothing.
use mathlib.Core.Path.{◌≡◌, sym, ◌∙◌, ap, ap₂}
use mathlib.Core.List.{List}
use Prim.Native.Nat.{ℕ, ◌+◌, ◌^◌}
use native.Mathlib.Omega.{arith}
use lib.IntN.{ℤ, pos, ◌-ℤ◌, ◌*ℤ◌}
use lib.ListN.{length-map}
use Rattle.algebra.specs.Expr.{exprs}
use Rattle.algebra.proofs.Solve.{solve}
use Rattle.element.specs.Kinds.{Kind, six, kind_of}
use Rattle.element.specs.Places.{Place, weight_of}
use Rattle.element.specs.Jacobian.{jacobian, Bad}
use Rattle.element.specs.Control.{control_values}
use Rattle.element.specs.Refusals.{Codes, Accepted, verdict_codes}
use Rattle.element.proofs.Formulas as E
use Rattle.element.proofs.Sums.{node_e, numbers}
use Rattle.element.proofs.Places.{scaled-is-J}
use Rattle.element.proofs.Values.{values_length}
use Rattle.judge.specs.Verdict.{Answer, Subject, Judges}
use Rattle.judge.specs.Elements.{subject}
use Rattle.verdict.specs.Calls.{tell, Told, VerdictOf}
use Rattle.verdict.specs.declared.Judged.{Judged}
use Rattle.verdict.proofs.Judging.{accepted-answered}
use Rattle.floor.specs.Floor.{straight, margin, FallenAt, shifted, floored}
use Rattle.floor.specs.Calls.{floor_codes, FloorOf}
use Rattle.floor.proofs.Values.{shifted-means, bad-fallen, fallen-bad}
use Rattle.turns.specs.Numbering.{turned, turned_by, point_by, TurnedTo}
use Rattle.turns.specs.Kept.{Moved, SameVerdict, Unmoved}
use Rattle.turns.proofs.Alike.{SameAnswer}
use Rattle.turns.proofs.Jacobian.{jacobian-turned}
use Rattle.turns.proofs.Elements.{turns-bad, turns-judge}

-- ---- answers of two calls that judge alike
module _ (k : Kind) (m : ℕ) (o o' : Codes ℕ) (s s' : Subject) (l : ℕ) (B B' : ℕ → ℕ → ℕ → Type 0)
    (same : (a b : Answer) → Judges s l a → Judges s' l b → SameAnswer a b)
    (bad : (d : ℕ) → Moved (point_by m k (2 ^ d)) (B d) (B' d)) where
  told_same : (r r' : Judged) → Accepted o → Accepted o' → Told o s l r → Told o' s' l r' → SameVerdict k m B B' r r'
  told_same r r' a a' v v' =
      let p = accepted-answered o s l r v a in let q = accepted-answered o' s' l r' v' a' in
      let e : SameAnswer p.answer q.answer = same p.answer q.answer p.judges q.judges in
      record {
        word = ap (λ (x : Judged). x.word) p.told ∙ ap tell e.word ∙ sym (ap (λ (x : Judged). x.word) q.told);
        level = ap (λ (x : Judged). x.level) p.told ∙ e.level ∙ sym (ap (λ (x : Judged). x.level) q.told);
        cells = ap (λ (x : Judged). x.cells) p.told ∙ e.cells ∙ sym (ap (λ (x : Judged). x.cells) q.told);
        bad = bad;
      }

-- ---- `verdict`
pub element-unmoved : (k : Kind) → Unmoved k (jacobian k) (control_values k)
element-unmoved k = record { means = scaled-is-J k; full = values_length k; same = jacobian-turned k }

pub turned-verdict : (m n l : ℕ) (xs : List ℤ) (r r' : Judged) → Accepted (verdict_codes n l xs)
    → Accepted (verdict_codes n l (turned_by m (kind_of n) xs))
    → VerdictOf n l xs r
    → VerdictOf n l (turned_by m (kind_of n) xs) r'
    → SameVerdict (kind_of n) m (Bad (kind_of n) xs) (Bad (kind_of n) (turned_by m (kind_of n) xs)) r r'
turned-verdict m n l xs =
    let k : Kind = kind_of n in let ys : List ℤ = turned_by m (kind_of n) xs in
    told_same k m (verdict_codes n l xs) (verdict_codes n l ys) (subject k xs) (subject k ys) l (Bad k xs) (Bad k ys)
    (turns-judge k (jacobian k) (control_values k) (element-unmoved k) m xs l) (turns-bad k (jacobian k) (control_values k) (element-unmoved k) m xs)

-- ---- `floor_verdict`
pub straight-turned : (xs : List ℤ) → straight (turned six xs) ≡ straight xs
unfolding straight
straight-turned xs =
    solve (numbers xs 0 12) (E.det exprs (E.less exprs (node_e 0 2) (node_e 0 1)) (E.less exprs (node_e 0 0) (node_e 0 1)))
    (E.det exprs (E.less exprs (node_e 0 1) (node_e 0 0)) (E.less exprs (node_e 0 2) (node_e 0 0))) tt

module _ (p : ℕ) where
  margin-turned : (xs : List ℤ) (x y : Place six) → TurnedTo six x y → margin p (turned six xs) y ≡ margin p xs x
  margin-turned xs x y t =
      ap₂ (λ (a b : ℤ). pos 100 *ℤ a -ℤ b) (jacobian-turned six xs x y t)
      (ap₂ (λ (w : ℕ) (s : ℤ). pos w *ℤ (pos p *ℤ s)) (weights x y t) (straight-turned xs))
    where
      weights : (x y : Place six) → TurnedTo six x y → weight_of six y ≡ weight_of six x
      weights x y (a, b, c) = let e : y.p + y.q + y.r ≡ x.p + x.q + x.r = omega arith in rw e

  pub floor-unmoved : Unmoved six (margin p) (shifted p)
  floor-unmoved =
      record {
        means = shifted-means p;
        full = λ xs. length-map (control_values six xs) _ ∙ values_length six xs;
        same = margin-turned;
      }

  floor-bad : (m : ℕ) (xs : List ℤ) (d : ℕ) → Moved (point_by m six (2 ^ d)) (FallenAt p xs d) (FallenAt p (turned_by m six xs) d)
  floor-bad m xs d =
      let ys : List ℤ = turned_by m six xs in let b = turns-bad six (margin p) (shifted p) floor-unmoved m xs d in
      record {
        there = λ i j h. bad-fallen p ys d (point_by m six (2 ^ d) (i, j)).0 (point_by m six (2 ^ d) (i, j)).1 (b.there i j (fallen-bad p xs d i j h));
        only = λ i' j' h. let (i, j, c, e) = b.only i' j' (fallen-bad p ys d i' j' h) in (i, j, bad-fallen p xs d i j c, e);
      }

pub turned-floor : (m n l : ℕ) (xs : List ℤ) (p : ℕ) (r r' : Judged) → Accepted (floor_codes n l xs p)
    → Accepted (floor_codes n l (turned_by m six xs) p)
    → FloorOf n l xs p r
    → FloorOf n l (turned_by m six xs) p r'
    → SameVerdict six m (FallenAt p xs) (FallenAt p (turned_by m six xs)) r r'
turned-floor m n l xs p =
    told_same six m (floor_codes n l xs p) (floor_codes n l (turned_by m six xs) p) (floored p xs) (floored p (turned_by m six xs)) l
    (FallenAt p xs) (FallenAt p (turned_by m six xs)) (turns-judge six (margin p) (shifted p) (floor-unmoved p) m xs l) (floor-bad p m xs)
