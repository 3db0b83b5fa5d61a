-- The room of a walk.
--   cap-le, cap-cut, cap-down : caps are at most 2^62, and less by g where a cut is to come; they fall with the cuts to go
--   cap-quarter     : a quarter of a cell has the room of one cut less
--   span-le, span-down, most-ten : the same of spans, and the number of cells of ten cuts
--   few-walk        : a walk of n cuts counts no more cells than there can be
--   few-merge, few-sums, few-more : two walks, and their counts in 32 bits; a walk and one cell more
-- Assumes nothing.
use mathlib.Core.Path.{◌≡◌, refl, sym, subst}
use mathlib.Core.Bool.{Bool, true, false, cond, ◌&&◌, ◌||◌}
use mathlib.Core.List.{List}
use Prim.Native.Nat.{ℕ, zero, suc, ◌+◌, ◌*◌, ◌-◌, ◌/◌, ◌^◌, ◌≤◌, ◌<◌}
use native.Mathlib.Nat as N
use native.Mathlib.Numerals.{sub-one}
use native.Mathlib.Omega.{arith}
use lib.Dec.{T, ltb, ltb→lt, leb, lit≤}
use lib.IntN.{ℤ, pos}
use lib.Signed.{le_z}
use Rattle.algebra.specs.Within.{Each}
use Rattle.algebra.proofs.Truth.{cond_ind}
use Rattle.algebra.proofs.Within.{each-≤}
use Rattle.forms.specs.Cuttings.{Four}
use Rattle.forms.specs.Shapes.{Shape, pass, cut_to, Lawful}
use Rattle.forms.proofs.Shapes.{cut_to-size}
use Rattle.corners.specs.First.{nothing, something, sooner, better, corner}
use Rattle.corners.specs.declared.First.{First}
use Rattle.steps.specs.Steps.{leaf, merge, lowered, Plain}
use Rattle.steps.specs.declared.Walk.{Walk}
use Rattle.walks.specs.Walk.{Plan, one, both, run, Chart, bad_corner, first_bad, first_corner, walk}
use Rattle.walks.specs.Room.{cap, span, most, Few}
use Rattle.walks.proofs.Charts.{total, Charted}

-- ---- values
pub cap-le : (g n : ℕ) → cap g n ≤ 2 ^ 62
unfolding cap
cap-le g zero = N.le_refl (2 ^ 62)
cap-le g (suc n) = N.le_trans (N.div-le_self (cap g n) g) (cap-le g n)

pub cap-cut : (g n : ℕ) → ¬ (n ≡ 0) → g * cap g n ≤ 2 ^ 62
unfolding cap
cap-cut g zero f = absurd (f refl)
cap-cut g (suc n) f = N.le_trans (N.mul-div-le (cap g n) g) (cap-le g n)

pub cap-down : (g k n : ℕ) → cap g (k + n) ≤ cap g n
unfolding cap
cap-down g zero n = rw (N.zero-add n) (N.le_refl (cap g n))
cap-down g (suc k) n = rw (N.suc-add k n) (N.le_trans (N.div-le_self (cap g (k + n)) g) (cap-down g k n))

pub cap-quarter : (S : Shape) → Lawful S → (i : Four) (n : ℕ) (c : List ℤ) → ¬ (n ≡ 0)
    → Each (cap S.growth n) c
    → Each (cap S.growth (n - 1)) (cut_to S i c)
unfolding cap
cap-quarter S W i zero c f h = absurd (f refl)
cap-quarter S W i (suc n) c f h =
    rw (sub-one (suc n))
    (each-≤ (cut_to-size S W i (cap S.growth n / S.growth) c h) (N.mul-div-le (cap S.growth n) S.growth))

-- ---- columns and rows
pub span-le : (n : ℕ) → span n ≤ 1048576
unfolding span
span-le zero = N.le_refl 1048576
span-le (suc n) = omega (arith, span-le n)

pub span-cut : (n : ℕ) → ¬ (n ≡ 0) → 2 * span n ≤ span (n - 1)
unfolding span
span-cut zero f = absurd (f refl)
span-cut (suc n) f = rw (sub-one (suc n)) (N.mul-div-le (span n) 2)

pub span-down : (k n : ℕ) → span (k + n) ≤ span n
unfolding span
span-down zero n = rw (N.zero-add n) (N.le_refl (span n))
span-down (suc k) n = rw (N.suc-add k n) (N.le_trans (N.div-le_self (span (k + n)) 2) (span-down k n))

-- ---- cells
most-some : (n : ℕ) → 1 ≤ most n
unfolding most
most-some zero = N.le_refl 1
most-some (suc n) = omega (arith, most-some n)

most-up : (k n : ℕ) → most n ≤ most (k + n)
unfolding most
most-up zero n = rw (N.zero-add n) (N.le_refl (most n))
most-up (suc k) n = rw (N.suc-add k n) (omega (arith, most-up k n))

most-of-ten : most 10 ≤ 1048576
unfolding most
most-of-ten = lit≤ tt

pub most-ten : (n : ℕ) → n ≤ 10 → most n ≤ 1048576
most-ten n h = let e : 10 - n + n ≡ 10 = omega arith in N.le_trans (rw e at (most-up (10 - n) n)) most-of-ten

pub few-le : {m k : ℕ} {w : Walk} → Few m w → m ≤ k → Few k w
few-le p h = record { cells = N.le_trans p.cells h; failing = N.le_trans p.failing h; plain = p.plain }

-- the better of two is one of them
plain-better : (a b : First) → Plain a → Plain b → Plain (better a b)
unfolding better
plain-better a b p q =
    cond_ind ((a.bad && b.bad) && sooner b a) b (cond a.bad a b) Plain (λ t. q) (λ t. cond_ind a.bad a b Plain (λ t. p) (λ t. q))

plain-none : Plain nothing
plain-none h = refl

plain-corner : (v : ℤ) (l i j : ℕ) → Plain (corner v l i j)
unfolding corner
plain-corner v l i j =
    cond_ind (le_z v (pos 0)) (something l i j v) nothing Plain (λ t h. absurd (subst T h tt)) (λ t h. refl)

pub few-merge : {m k : ℕ} {a b w : Walk} → w ≡ merge a b → Few m a → Few k b → Few (m + k) w
few-merge {m} {k} {a} {b} e p q =
    subst (Few (m + k)) (sym e)
    (record {
      cells = N.add-le-add p.cells q.cells;
      failing = N.add-le-add p.failing q.failing;
      plain = plain-better a.best b.best p.plain q.plain;
    })

pub few-sums : {m k : ℕ} {a b : Walk} → Few m a → Few k b → T (ltb (m + k) 4294967296)
    → (a.cells + b.cells < 4294967296) × (a.failing + b.failing < 4294967296)
few-sums {m} {k} p q t = let h : m + k < 4294967296 = ltb→lt _ _ t in (omega (arith, p.cells, q.cells), omega (arith, p.failing, q.failing))

pub few-more : {m : ℕ} {w : Walk} → Few m w → T (ltb (m + 1) 4294967296) → (w.cells + 1 < 4294967296) × Plain w.best
few-more {m} p t = let h : m + 1 < 4294967296 = ltb→lt _ _ t in (omega (arith, p.cells), p.plain)

module _ (S : Shape) (G : Chart) (C : Charted S G) where
  plain-first : (l : ℕ) (p : G.Place) (c : List ℤ) (k : ℕ) → Plain (first_bad S G l p c k)
  unfolding first_bad bad_corner
  plain-first l p c zero = plain-none
  plain-first l p c (suc k) = plain-better (first_bad S G l p c k) (bad_corner S G l p c k) (plain-first l p c k) (plain-corner _ _ _ _)

  -- each part of the plan counts no more than its quarters, m each
  every : ℕ → Four → Walk
  every m q = record { best = nothing; deep = 0; cells = m; failing = m }

  few-run : (P : Plan) (f : Four → ℕ → Walk) (m stop : ℕ) → ((q : Four) (s : ℕ) → Few m (f q s))
      → Few (total P (every m)).cells (run P f stop)
  unfolding every
  few-run (one q) f m stop h = h q stop
  few-run (both P Q) f m stop h = few-merge refl (few-run P f m stop h) (few-run Q f m (lowered stop (run P f stop).best) h)

  pick : (P : Walk → Type 0) (t : Bool) (a b : Walk) → P a → P b → P (cond t a b)
  pick P true a b p q = p
  pick P false a b p q = q

  pub few-walk : (n l stop : ℕ) (p : G.Place) (c : List ℤ) → Few (most n) (walk S G n l stop p c)
  unfolding walk most every
  few-walk zero l stop p c =
      pick (Few 1) (pass S c) (leaf l nothing 0) (leaf l (first_corner S G l p c) 1)
      (record { cells = omega arith; failing = omega arith; plain = plain-none })
      (record { cells = omega arith; failing = omega arith; plain = plain-first l p c _ })
  few-walk (suc n) l stop p c =
      let some = most-some n in
      pick (Few (4 * most n)) (pass S c) (leaf l nothing 0)
      (cond ((first_corner S G l p c).bad || leb stop l) (leaf l (first_corner S G l p c) 1) (run G.plan w stop))
      (record { cells = omega arith; failing = omega arith; plain = plain-none })
      (pick (Few (4 * most n)) ((first_corner S G l p c).bad || leb stop l) (leaf l (first_corner S G l p c) 1) (run G.plan w stop)
      (record { cells = omega arith; failing = omega arith; plain = plain-first l p c _ })
      (few-le (few-run G.plan w (most n) stop (λ q s. few-walk n (l + 1) s (G.sub q p) (cut_to S q c)))
      (let e = (C.fair (every (most n))).cells in omega arith)))
    where
      w : Four → ℕ → Walk
      w q s = walk S G n (l + 1) s (G.sub q p) (cut_to S q c)

  -- the walk that the code answers with
  pub few-of : (n l stop : ℕ) (p : G.Place) (c : List ℤ) {w : Walk} → n ≤ 10 → w ≡ walk S G n l stop p c → Few 1048576 w
  few-of n l stop p c h e = subst (Few 1048576) (sym e) (few-le (few-walk n l stop p c) (most-ten n h))
