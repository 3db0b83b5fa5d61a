-- The answers of `verdict`, case by case of the code.
--   told-bad, told-valid, told-open : the answer that a walk shows, by the tests of the code
--   accepted-limit, accepted-bounds : what an accepted call tells of its limit and its element
--   refuses, succeeds : a refusal and a success
--   triangle-room, triangle-walked : the walk of a triangle with six nodes
--   cubic-room, cubic-walked : with ten
--   quad-room, quad-walked : a quad's walk
-- Assumes nothing.
use mathlib.Core.Path.{◌≡◌, sym, ◌∙◌, ap}
use mathlib.Core.Bool.{Bool, true, false, cond}
use mathlib.Core.List.{List}
use Prim.Native.Nat.{ℕ, ◌*◌, ◌/◌, ◌≤◌}
use native.Mathlib.Nat as N
use native.Mathlib.Omega.{arith}
use borrow.Author.Tests.{eq-eqb, ne_eqb}
use lib.Dec.{eqb, lit≤}
use lib.IntN.{ℤ}
use Rattle.algebra.specs.Within.{Each}
use Rattle.algebra.proofs.Within.{each-≤, each-as}
use Rattle.forms.specs.Triangles as T
use Rattle.element.specs.Kinds.{Kind, six, eight, nine, ten, kind_of, greatest_level}
use Rattle.element.specs.Cubic.{values10}
use Rattle.element.specs.Control.{values6, control_values}
use Rattle.element.specs.Origin.{Inside}
use Rattle.element.specs.Refusals.{Accepted, Coded, bounds_codes, verdict_codes}
use Rattle.element.proofs.Sizes.{values-size}
use Rattle.quad.specs.Points.{quad_kind}
use Rattle.judge.specs.Verdict.{Answer, is_valid, is_invalid, is_undecided}
use Rattle.judge.specs.Elements.{subject}
use Rattle.steps.specs.declared.Walk.{Walk}
use Rattle.walks.specs.Walk.{answer}
use Rattle.walks.specs.Elements.{walk_of}
use Rattle.walks.proofs.Elements.{walk-verdict}
use Rattle.triangle_walk.specs.Walks.{Room, cell_walk}
use Rattle.triangle_walk.proofs.Places.{start-room}
use Rattle.cubic_walk.proofs.Cells as cubic
use Rattle.quad_walk.specs.Walks as quads
use Rattle.quad_walk.proofs.Places as quad-places
use Rattle.verdict.specs.Calls.{given, refusal, VerdictOf}
use Rattle.verdict.specs.declared.Judged.{Judged}
use Rattle.verdict.proofs.Judging.{tells-refusal, tells-verdict}

module _ (L : ℕ) (w : Walk) where
  abbrev bad-answer : Answer
  bad-answer = is_invalid w.best.level w.best.i w.best.j w.best.value

  abbrev other-answer : Answer
  other-answer = cond (eqb w.failing 0) (is_valid w.deep w.cells) (is_undecided L w.failing)

  pub told-bad : {v : ℤ} → w.best.bad ≡ true
      → v ≡ w.best.value
      → given (is_invalid w.best.level w.best.i w.best.j v) ≡ given (answer L w)
  told-bad e f =
      ap (λ (z : ℤ). given (is_invalid w.best.level w.best.i w.best.j z)) f
      ∙ sym (ap (λ (t : Bool). given (cond t bad-answer other-answer)) e)

  good : (t : Bool) → w.best.bad ≡ false
      → eqb w.failing 0 ≡ t
      → given (cond t (is_valid w.deep w.cells) (is_undecided L w.failing)) ≡ given (answer L w)
  good t e f =
      sym (ap (λ (s : Bool). given (cond s bad-answer other-answer)) e
      ∙ ap (λ (s : Bool). given (cond s (is_valid w.deep w.cells) (is_undecided L w.failing))) f)

  pub told-valid : w.best.bad ≡ false → w.failing ≡ 0 → given (is_valid w.deep w.cells) ≡ given (answer L w)
  told-valid e f = good true e (eq-eqb w.failing 0 f)

  pub told-open : w.best.bad ≡ false → ¬ (w.failing ≡ 0) → given (is_undecided L w.failing) ≡ given (answer L w)
  told-open e f = good false e (ne_eqb w.failing 0 f)

module _ (n l : ℕ) (xs : List ℤ) where
  pub accepted-limit : Accepted (verdict_codes n l xs) → l ≤ greatest_level (kind_of n)
  accepted-limit a = N.le_of_suc-le-suc (N.lt_of_not-le a.1.0)

  pub accepted-bounds : Accepted (verdict_codes n l xs) → Accepted (bounds_codes n xs)
  accepted-bounds a = (a.0, a.1.1)

  pub refuses : {c : ℕ} {r : Judged} → Coded (verdict_codes n l xs) c → ¬ (c ≡ 0) → r ≡ refusal c → VerdictOf n l xs r
  refuses = tells-refusal (verdict_codes n l xs) (subject (kind_of n) xs) l

  pub succeeds : {k : Kind} {w : Walk} {r : Judged}
      → Accepted (verdict_codes n l xs)
      → kind_of n ≡ k
      → w ≡ walk_of k l (control_values k xs)
      → r ≡ given (answer l w)
      → VerdictOf n l xs r
  succeeds {k} {w} {r} a e f g =
      tells-verdict (verdict_codes n l xs) (subject (kind_of n) xs) l (answer l (walk_of (kind_of n) l (control_values (kind_of n) xs))) a
      (walk-verdict (kind_of n) xs l)
      (g ∙ ap (λ (v : Walk). given (answer l v)) (f ∙ ap (λ (k : Kind). walk_of k l (control_values k xs)) (sym e)))

-- ---- a triangle's walk
triangle-small : (xs : List ℤ) → Inside six xs → Each 4398046511104 (control_values six xs)
triangle-small xs h = each-≤ (values-size six xs h) (lit≤ tt)

pub triangle-room : (n : ℕ) (xs : List ℤ) {c : List ℤ} → n ≤ 10
    → Inside six xs
    → c ≡ values6 xs
    → Room T.six n 0 0 0 true c
unfolding control_values
triangle-room n xs {c} h k e = start-room n c h (each-as e (triangle-small xs k))

pub triangle-walked : (n : ℕ) (xs : List ℤ) {c : List ℤ} {w : Walk} → c ≡ values6 xs
    → w ≡ cell_walk T.six n 0 n 0 0 true c
    → w ≡ walk_of six n (control_values six xs)
unfolding control_values
triangle-walked n xs e f = f ∙ ap (λ (c : List ℤ). walk_of six n c) e

-- ---- with ten nodes
cubic-small : (xs : List ℤ) → Inside ten xs → Each 4398046511104 (control_values ten xs)
cubic-small xs h = each-≤ (values-size ten xs h) (lit≤ tt)

pub cubic-room : (n : ℕ) (xs : List ℤ) {c : List ℤ} → n ≤ 5
    → Inside ten xs
    → c ≡ values10 xs
    → Room T.ten n 0 0 0 true c
unfolding control_values
cubic-room n xs {c} h k e = cubic.start-room n c h (each-as e (cubic-small xs k))

pub cubic-walked : (n : ℕ) (xs : List ℤ) {c : List ℤ} {w : Walk} → c ≡ values10 xs
    → w ≡ cell_walk T.ten n 0 n 0 0 true c
    → w ≡ walk_of ten n (control_values ten xs)
unfolding control_values
cubic-walked n xs e f = f ∙ ap (λ (c : List ℤ). walk_of ten n c) e

-- ---- a quad's walk, two halvings for each cut
half_of : (n : ℕ) → 2 * n / 2 ≡ n
half_of n = omega arith

quad-small : (b : Bool) (xs : List ℤ) → Inside (quad_kind b) xs → Each 274877906944 (control_values (quad_kind b) xs)
quad-small true xs h = each-≤ (values-size eight xs h) (lit≤ tt)
quad-small false xs h = each-≤ (values-size nine xs h) (lit≤ tt)

pub quad-room : (n : ℕ) (b : Bool) (xs : List ℤ) {c : List ℤ} → n ≤ 4
    → Inside (quad_kind b) xs
    → c ≡ control_values (quad_kind b) xs
    → (2 * n ≡ 2 * (2 * n / 2)) × quads.Room (2 * n / 2) 0 0 0 c
quad-room n b xs {c} h k e = quad-places.start-room n c h (each-as e (quad-small b xs k))

pub quad-walked : (n : ℕ) (b : Bool) (xs : List ℤ) {c : List ℤ} {w : Walk} → c ≡ control_values (quad_kind b) xs
    → w ≡ quads.cell_walk (2 * n / 2) 0 n 0 0 c
    → w ≡ walk_of (quad_kind b) n (control_values (quad_kind b) xs)
quad-walked n true xs {c} e f = f ∙ ap (λ (m : ℕ). quads.cell_walk m 0 n 0 0 c) (half_of n) ∙ ap (λ (c : List ℤ). walk_of eight n c) e
quad-walked n false xs {c} e f = f ∙ ap (λ (m : ℕ). quads.cell_walk m 0 n 0 0 c) (half_of n) ∙ ap (λ (c : List ℤ). walk_of nine n c) e
