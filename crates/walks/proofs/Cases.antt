-- The walk, case by case, and as the code takes it.
--   lowered-stop, lowered-le, below-lowered : the lowered limit
--   walk-pass, walk-zero, walk-halt, walk-cut : the walk of a cell
--   passed, kept, quartered : the same, from the tests and the answers of the code
--   first-bad-is    : a cell has a bad corner where its corner values are not all above zero
--   open_kept, open-cut : as kept and quartered, where the code tests the corner values
--   cuts-left       : a cell that is cut has cuts left
--   run-both, run_more : two parts of the plan, one after the other, from the answers of the code; one quarter more
--   next-passed     : a walk and that of one cell more, which passes
-- For every shape and chart. Assumes nothing.
use mathlib.Core.Path.{◌≡◌, refl, sym, ◌∙◌, ap, ap₂, subst}
use mathlib.Core.Bool.{Bool, true, false, not, cond, ◌&&◌, ◌||◌}
use mathlib.Core.List.{List, [], ◌∷◌, map}
use Prim.Native.Nat.{ℕ, zero, suc, ◌-◌, ◌≤◌, ◌<◌}
use native.Mathlib.Nat as N
use native.Mathlib.Numerals.{sub-one}
use native.Mathlib.Omega.{arith}
use borrow.Author.Tests.{lt-ltb, lt-leb}
use lib.Dec.{T, leb, eqb, ltb, ltb→lt, eqb-suc-zero}
use lib.IntN.{ℤ, pos, negsuc}
use lib.ListN.{get_or, length}
use lib.Signed.{lt_z}
use Rattle.algebra.proofs.Truth.{and-true, and_assoc}
use Rattle.forms.specs.Cuttings.{Four}
use Rattle.forms.specs.Cells.{positives, up_to}
use Rattle.forms.specs.Shapes.{Shape, tips, spread, pass, corner_value}
use Rattle.corners.specs.First.{nothing, something, sooner, better, corner}
use Rattle.corners.specs.declared.First.{First}
use Rattle.steps.specs.Steps.{leaf, merge, lowered}
use Rattle.steps.specs.declared.Walk.{Walk}
use Rattle.walks.specs.Walk.{Plan, one, both, run, Chart, bad_corner, first_bad, first_corner, walk, cuts}

-- ---- the lowered limit
pub lowered-stop : (stop : ℕ) (f : First) → f.bad ≡ false → lowered stop f ≡ stop
lowered-stop stop f e = rw e

pub lowered-le : (stop : ℕ) (f : First) → lowered stop f ≤ stop
lowered-le stop f = go f.bad (ltb f.level stop) refl
  where
    go : (b t : Bool) → ltb f.level stop ≡ t → cond (b && t) f.level stop ≤ stop
    go true true e = let h = ltb→lt f.level stop (rw e tt) in omega arith
    go true false e = N.le_refl stop
    go false t e = N.le_refl stop

-- what is deeper than the lowered limit is deeper than the point that lowered it
pub below-lowered : (stop : ℕ) (f : First) (m : ℕ) → m ≤ stop → lowered stop f < m → (f.bad ≡ true) × (f.level < m)
below-lowered stop f m h k = go f.bad refl (ltb f.level stop) refl k
  where
    go : (b : Bool) → f.bad ≡ b → (t : Bool) → ltb f.level stop ≡ t → cond (b && t) f.level stop < m → (f.bad ≡ true) × (f.level < m)
    go true e true u k = (e, k)
    go true e false u k = absurd (N.not-le_of_lt k h)
    go false e t u k = absurd (N.not-le_of_lt k h)

-- ---- the walk of a cell
module _ (S : Shape) (G : Chart) (l stop : ℕ) (p : G.Place) (c : List ℤ) where
  pub walk-pass : (n : ℕ) → pass S c ≡ true → walk S G n l stop p c ≡ leaf l nothing 0
  unfolding walk
  walk-pass zero e = rw (e, walk)
  walk-pass (suc n) e = rw (e, walk)

  pub walk-zero : pass S c ≡ false → walk S G zero l stop p c ≡ leaf l (first_corner S G l p c) 1
  unfolding walk
  walk-zero e = rw (e, walk)

  pub walk-halt : (n : ℕ) → pass S c ≡ false
      → ((first_corner S G l p c).bad || leb stop l) ≡ true
      → walk S G n l stop p c ≡ leaf l (first_corner S G l p c) 1
  unfolding walk
  walk-halt zero e h = rw (e, walk)
  walk-halt (suc n) e h = rw (e, h, walk)

  pub walk-cut : (n : ℕ) → pass S c ≡ false
      → ((first_corner S G l p c).bad || leb stop l) ≡ false
      → walk S G (suc n) l stop p c ≡ cuts S G n l stop p c
  unfolding walk
  walk-cut n e h = rw (e, h, walk)

  -- ---- from the tests and the answers of the code
  pub passed : (n : ℕ) {f : First} {w : Walk} → pass S c ≡ true → f ≡ nothing → w ≡ leaf l f 0 → w ≡ walk S G n l stop p c
  passed n e g h = h ∙ ap (λ (f : First). leaf l f 0) g ∙ sym (walk-pass n e)

  pub kept : (n : ℕ) {f : First} {w : Walk} → pass S c ≡ false
      → f ≡ first_corner S G l p c
      → ((f.bad || leb stop l) || eqb n 0) ≡ true
      → w ≡ leaf l f 1
      → w ≡ walk S G n l stop p c
  kept n {f} e g t h = h ∙ ap (λ (f : First). leaf l f 1) g ∙ sym (go n (subst (λ (f : First). ((f.bad || leb stop l) || eqb n 0) ≡ true) g t))
    where
      or-false : (a b : Bool) → b ≡ false → (a || b) ≡ true → a ≡ true
      or-false true b e h = refl
      or-false false b e h = absurd (subst T (sym h ∙ e) tt)

      go : (n : ℕ) → (((first_corner S G l p c).bad || leb stop l) || eqb n 0) ≡ true → walk S G n l stop p c ≡ leaf l (first_corner S G l p c) 1
      go zero t = walk-zero e
      go (suc n) t = walk-halt (suc n) e (or-false ((first_corner S G l p c).bad || leb stop l) (eqb (suc n) 0) (eqb-suc-zero n) t)

  pub quartered : (n : ℕ) {f : First} {w : Walk} → pass S c ≡ false
      → f ≡ first_corner S G l p c
      → ((f.bad || leb stop l) || eqb n 0) ≡ false
      → w ≡ cuts S G (n - 1) l stop p c
      → w ≡ walk S G n l stop p c
  quartered n {f} {w} e g t h = go n (subst (λ (f : First). ((f.bad || leb stop l) || eqb n 0) ≡ false) g t) h
    where
      or-true : (a : Bool) → (a || true) ≡ true
      or-true true = refl
      or-true false = refl

      left : (a b : Bool) → (a || b) ≡ false → a ≡ false
      left true b h = absurd (subst T h tt)
      left false b h = refl

      go : (n : ℕ) → (((first_corner S G l p c).bad || leb stop l) || eqb n 0) ≡ false → w ≡ cuts S G (n - 1) l stop p c → w ≡ walk S G n l stop p c
      go zero t h = absurd (subst T (sym (or-true ((first_corner S G l p c).bad || leb stop l)) ∙ t) tt)
      go (suc n) t h =
          h ∙ ap (λ (m : ℕ). cuts S G m l stop p c) (sub-one (suc n))
          ∙ sym (walk-cut n e (left ((first_corner S G l p c).bad || leb stop l) (eqb (suc n) 0) t))

-- ---- a bad corner, by the corner values
better-bad : (a b : First) → (better a b).bad ≡ a.bad || b.bad
unfolding better
better-bad a b = go a.bad b.bad refl refl (sooner b a)
  where
    go : (s t : Bool) → a.bad ≡ s → b.bad ≡ t → (u : Bool) → (cond ((s && t) && u) b (cond s a b)).bad ≡ s || t
    go true true e f true = f
    go true true e f false = e
    go true false e f u = e
    go false t e f u = f

corner-is-bad : (v : ℤ) (l i j : ℕ) → (corner v l i j).bad ≡ not (lt_z (pos 0) v)
unfolding corner
corner-is-bad (pos zero) l i j = refl
corner-is-bad (pos (suc n)) l i j =
    ap (λ (t : Bool). (cond t (something l i j (pos (suc n))) nothing).bad) (lt-leb (suc n) 0 (omega arith))
    ∙ sym (ap not (lt-ltb 0 (suc n) (omega arith)))
corner-is-bad (negsuc n) l i j = refl

-- a test of the first k
all_more : (k : ℕ) (f : ℕ → Bool) → up_to (suc k) f ≡ up_to k f && f k
all_more zero f = and-true (f 0)
all_more (suc k) f = ap (λ b. f 0 && b) (all_more k (λ i. f (suc i))) ∙ and_assoc (f 0) (up_to k (λ i. f (suc i))) (f (suc k))

not-and : (a b : Bool) → not a || not b ≡ not (a && b)
not-and true b = refl
not-and false b = refl

module _ (S : Shape) (G : Chart) (l : ℕ) (p : G.Place) (c : List ℤ) where
  above : ℕ → Bool
  above k = lt_z (pos 0) (corner_value S k c)

  first-bad-of : (k : ℕ) → (first_bad S G l p c k).bad ≡ not (up_to k above)
  unfolding first_bad bad_corner above
  first-bad-of zero = refl
  first-bad-of (suc k) =
      better-bad (first_bad S G l p c k) (bad_corner S G l p c k)
      ∙ ap₂ ◌||◌ (first-bad-of k) (corner-is-bad (corner_value S k c) l _ _)
      ∙ not-and (up_to k above) (above k)
      ∙ ap not (sym (all_more k above))

  positives-of : (g : List ℕ → ℕ) (ks : List (List ℕ))
      → positives (map g ks) c ≡ up_to (length ks) (λ k. lt_z (pos 0) (get_or c (g (get_or ks k [])) (pos 0)))
  positives-of g [] = refl
  positives-of g (k ∷ ks) = ap (λ b. lt_z (pos 0) (get_or c (g k) (pos 0)) && b) (positives-of g ks)

  pub first-bad-is : (first_corner S G l p c).bad ≡ not (positives (tips S) c)
  unfolding above
  first-bad-is = first-bad-of (length S.corners) ∙ ap not (sym (positives-of (λ ks. S.place (spread S.counts ks)) S.corners))

module _ (S : Shape) (G : Chart) (l stop : ℕ) (p : G.Place) (c : List ℤ) where
  by-corners : (t u : Bool) {b : Bool} {f : First} → b ≡ positives (tips S) c → f ≡ first_corner S G l p c → (not b || t) || u ≡ (f.bad || t) || u
  by-corners t u e g =
      ap (λ (x : Bool). (x || t) || u) (ap not e ∙ sym (ap (λ (f : First). f.bad) g ∙ first-bad-is S G l p c))

  pub open_kept : (n : ℕ) {b : Bool} {f : First} {w : Walk} → pass S c ≡ false
      → b ≡ positives (tips S) c
      → ((not b || leb stop l) || eqb n 0) ≡ true
      → f ≡ first_corner S G l p c
      → w ≡ leaf l f 1
      → w ≡ walk S G n l stop p c
  open_kept n e t h g k = kept S G l stop p c n e g (sym (by-corners (leb stop l) (eqb n 0) t g) ∙ h) k

  pub open-cut : (n : ℕ) {b : Bool} {w : Walk} → pass S c ≡ false
      → b ≡ positives (tips S) c
      → ((not b || leb stop l) || eqb n 0) ≡ false
      → w ≡ cuts S G (n - 1) l stop p c
      → w ≡ walk S G n l stop p c
  open-cut n e t h k = quartered S G l stop p c n e refl (sym (by-corners (leb stop l) (eqb n 0) t refl) ∙ h) k

  -- ---- a walk a, and that of one cell more
  pub next-passed : (n : ℕ) (a : Walk) {w : Walk} → pass S c ≡ true → w ≡ merge a (leaf l nothing 0) → w ≡ merge a (walk S G n l stop p c)
  next-passed n a e h = h ∙ ap (merge a) (sym (walk-pass S G l stop p c n e))

pub cuts-left : (b : Bool) (n : ℕ) → (b || eqb n 0) ≡ false → ¬ (n ≡ 0)
cuts-left true n h e = subst T h tt
cuts-left false n h e = subst T h (rw e tt)

pub run-both : (P Q : Plan) (f : Four → ℕ → Walk) (stop : ℕ) {s : ℕ} {a b w : Walk}
    → a ≡ run P f stop
    → s ≡ lowered stop a.best
    → b ≡ run Q f s
    → w ≡ merge a b
    → w ≡ run (both P Q) f stop
run-both P Q f stop {s} {a} {b} {w} e g h k =
    k ∙ ap (merge a) (h ∙ ap (λ (t : ℕ). run Q f t) g) ∙ ap (λ (v : Walk). merge v (run Q f (lowered stop v.best))) e

pub run_more : (P : Plan) (q : Four) (f : Four → ℕ → Walk) (stop : ℕ) {a w : Walk}
    → a ≡ run P f stop
    → w ≡ merge a (f q (lowered stop a.best))
    → w ≡ run (both P (one q)) f stop
run_more P q f stop e h = run-both P (one q) f stop e refl refl h
