-- A window of numbers and the next one, of any width.
--   big, none_below : facts on numbers
--   above-le, above-ge, above-least : no number stands between the window and the least above it
--   doubles-yes, doubles-none : a number that stands twice, and none in this window nor below it
--   lacks-yes, lacks-none : a number that is not listed, and none in this window nor below it
--   above-small, above_on : the next window is farther on
--   swept-all      : what each window in which nothing is found carries on
-- Assumes nothing.
use mathlib.Core.Path.{◌≡◌, refl, sym, ap, ◌∙◌, subst}
use mathlib.Core.Bool.{true, false, not, cond, true≢false}
use mathlib.Core.List.{List, [], ◌∷◌, Memᴰ}
use mathlib.Core.Logic.{◌⊎◌, inl, inr, ⊎_elim}
use Prim.Native.Nat.{ℕ, ◌+◌, ◌-◌, ◌≤◌, ◌<◌, min}
use native.Mathlib.Omega.{arith}
use borrow.Author.Tests.{ltb-true, ltb-false, le-ltb}
use lib.Dec.{ltb}
use Rattle.mesh_text.proofs.Rows.{by-test}
use Rattle.mesh_text.proofs.Grammar.{and-of}
use Rattle.mesh_numbers.specs.declared.Pass.{Pass}
use Rattle.mesh_numbers.specs.Bits.{width, zeros}
use Rattle.mesh_form.specs.Mesh.{RepeatsIn, here, later, Repeats}
use Rattle.mesh_numbers.specs.Windows.{win_b, marks_all, above_b, Doubles, Lacks, Swept, at_start, window}
use Rattle.mesh_numbers.proofs.Bits.{zeros-width}
use Rattle.mesh_numbers.proofs.Flags.{marks-all-width, dup-true, dup-false, Fresh, marked-all-is, marked-all-of, lacks-true, lacks-false, clear}

-- ---- facts on numbers, with nothing else in reach
pub big : {n m b : ℕ} → n < m → m ≤ b → n < b
big h k = omega arith

pub none_below : {n : ℕ} → n < 0 → ⊥
none_below h = omega arith

-- ---- the least number above
pub above-le : (lim a : ℕ) (l : List ℕ) → above_b lim a l ≤ a
unfolding above_b
above-le lim a [] = omega arith
above-le lim a (n ∷ l) =
    let ih = above-le lim (cond (ltb n lim) a (min a n)) l in
    by-test (ltb n lim) (above_b lim (cond (ltb n lim) a (min a n)) l ≤ a)
    (λ e. let k : cond (ltb n lim) a (min a n) ≡ a = ap (λ b. cond b a (min a n)) e in omega arith)
    (λ e. let k : cond (ltb n lim) a (min a n) ≡ min a n = ap (λ b. cond b a (min a n)) e in omega arith)

pub above-ge : (lim a : ℕ) (l : List ℕ) → min a lim ≤ above_b lim a l
unfolding above_b
above-ge lim a [] = omega arith
above-ge lim a (n ∷ l) =
    let ih = above-ge lim (cond (ltb n lim) a (min a n)) l in
    by-test (ltb n lim) (min a lim ≤ above_b lim (cond (ltb n lim) a (min a n)) l)
    (λ e. let k : cond (ltb n lim) a (min a n) ≡ a = ap (λ b. cond b a (min a n)) e in omega arith)
    (λ e. let k : cond (ltb n lim) a (min a n) ≡ min a n = ap (λ b. cond b a (min a n)) e in let h = ltb-false n lim e in omega arith)

-- the same, n before what the recursion changes
above-among : (lim n a : ℕ) {l : List ℕ} → Memᴰ n l → lim ≤ n → above_b lim a l ≤ n
unfolding above_b
above-among lim n a (Memᴰ.head {x = x} {xs = l} e) h =
    let ih = above-le lim (cond (ltb x lim) a (min a x)) l in
    let k : cond (ltb x lim) a (min a x) ≡ min a x = ap (λ b. cond b a (min a x)) (le-ltb x lim (omega arith)) in omega arith
above-among lim n a (Memᴰ.tail {x = x} m) h = above-among lim n (cond (ltb x lim) a (min a x)) m h

pub above-least : (lim a : ℕ) {n : ℕ} {l : List ℕ} → Memᴰ n l → lim ≤ n → above_b lim a l ≤ n
above-least lim a {n} i h = above-among lim n a i h

-- a number below the next window is below this one or in it
part : (base w : ℕ) {l : List ℕ} {n : ℕ} → Memᴰ n l → n < above_b (base + w) 4294967296 l → (n < base) ⊎ (win_b base w n ≡ true)
part base w {n = n} i a =
    by-test (ltb n base) ((n < base) ⊎ (win_b base w n ≡ true))
    (λ b. inl (ltb-true n base b))
    (λ b. by-test (ltb (n - base) w) ((n < base) ⊎ (win_b base w n ≡ true))
    (λ c. inr (and-of (not (ltb n base)) _ (ap not b) c))
    (λ c. absurd (far (ltb-false n base b) (ltb-false (n - base) w c))))
  where
    far : base ≤ n → w ≤ n - base → ⊥
    far h k = let m : base + w ≤ n = omega arith in omega (arith, above-least (base + w) 4294967296 i m)

-- ---- the next window
module _ (base w : ℕ) (l : List ℕ) (p : Pass) (a : p.above ≡ above_b (base + width (zeros w)) 4294967296 l) where
  pub above-small : p.above ≤ 4294967296
  above-small = omega (arith, a, above-le (base + width (zeros w)) 4294967296 l)

  pub above_on : 0 < w → base < 4294967296 → base < p.above
  above_on h k = omega (arith, a, above-ge (base + width (zeros w)) 4294967296 l, zeros-width w)

-- ---- numbers that stand twice
repeats-split : {P Q R : ℕ → Type 0} (l : List ℕ) → ((n : ℕ) → Memᴰ n l → P n → Q n ⊎ R n) → RepeatsIn P l → RepeatsIn Q l ⊎ RepeatsIn R l
repeats-split l f (here {n} {l = m} p i) = ⊎_elim (λ q. inl (here q i)) (λ r. inr (here r i)) (f n (Memᴰ.head refl) p)
repeats-split l f (later {l = m} r) = ⊎_elim (λ q. inl (later q)) (λ s. inr (later s)) (repeats-split m (λ n i. f n (Memᴰ.tail i)) r)

-- no number is below 0
pub repeats-none : (l : List ℕ) → ¬ RepeatsIn (λ n. n < 0) l
repeats-none l r = no r
  where
    no : {l : List ℕ} → RepeatsIn (λ n. n < 0) l → ⊥
    no (here p m) = absurd (omega arith)
    no (later r) = no r

module _ (base w : ℕ) (l : List ℕ) (p : Pass) (a : Doubles base (zeros w) l p) where
  pub doubles-yes : p.found ≡ true → Repeats l
  doubles-yes e =
      ⊎_elim (λ q. absurd (true≢false (sym q.1.0 ∙ clear base w q.0))) (λ r. r) (dup-true base (zeros w) l (sym a.found ∙ e))

  pub doubles-none : p.found ≡ false → ¬ RepeatsIn (λ n. n < base) l → ¬ RepeatsIn (λ n. n < p.above) l
  unfolding Fresh
  doubles-none e h r =
      ⊎_elim h (dup-false base (zeros w) l (sym a.found ∙ e)).1
      (repeats-split l (λ n i k. part base (width (zeros w)) i (subst (λ x. n < x) a.above k)) r)

-- ---- numbers that are not listed
module _ (base w : ℕ) (l v : List ℕ) (p : Pass) (a : Lacks base (zeros w) l v p) where
  hs : List ℕ
  hs = marks_all base (zeros w) l

  win-all : (n : ℕ) → win_b base (width hs) n ≡ win_b base (width (zeros w)) n
  unfolding hs
  win-all n = ap (λ u. win_b base u n) (marks-all-width base (zeros w) l)

  pub lacks-yes : p.found ≡ true → (n : ℕ) × (Memᴰ n v × ¬ Memᴰ n l)
  unfolding hs
  lacks-yes e =
      let q = lacks-true base (marks_all base (zeros w) l) v (sym a.found ∙ e) in
      (q.0, (q.1.0, λ i. true≢false (sym (marked-all-of base (zeros w) i (sym (win-all q.0) ∙ q.1.1.0)) ∙ q.1.1.1)))

  pub lacks-none : p.found ≡ false
      → ((n : ℕ) → Memᴰ n v → n < base → Memᴰ n l)
      → (n : ℕ) → Memᴰ n v → n < p.above → Memᴰ n l
  unfolding hs
  lacks-none e h n i k = ⊎_elim (h n i) inside (part base (width (zeros w)) i (subst (λ x. n < x) a.above k))
    where
      inside : win_b base (width (zeros w)) n ≡ true → Memᴰ n l
      inside f =
          ⊎_elim (λ z. absurd (true≢false (sym z ∙ clear base w n))) (λ m. m)
          (marked-all-is base (zeros w) l n (lacks-false base (marks_all base (zeros w) l) (sym a.found ∙ e) i (win-all n ∙ f)))

-- ---- window by window
pub swept-all : {Post : ℕ → Pass → Type 0} (P : ℕ → Type 0) → P 0
    → ((b : ℕ) (p : Pass) → P b → Post b p → p.found ≡ false → P p.above)
    → {b : ℕ} → Swept Post b → P b
swept-all P z f at_start = z
swept-all P z f (window {base} {p} s h e) = f base p (swept-all P z f s) h e
