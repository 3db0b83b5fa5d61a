-- The flags of a window of numbers: what a mark changes, and what a run of marks and look-ups tells.
--   win-below, win-past, win_in, win-is : a number by its place in the window
--   marks-width, marks-all-width, marks-all-length : a mark changes no width
--   marked-self, marked-keeps, marked-cases : the flag of a number that is marked, and the others
--   dup-true, dup-false : a flag that was set when a number came tells of a number that stands twice, and no such flag that there is none
--   marked-all-is, marked-all-of : a flag is set behind a pass exactly where its number came, or was set before
--   lacks-true, lacks-false : a number of the window that is not marked
--   clear          : flags that are all clear
-- Assumes nothing.
use mathlib.Core.Path.{◌≡◌, refl, sym, ap, ◌∙◌, subst}
use mathlib.Core.Bool.{Bool, true, false, not, ◌&&◌, ◌||◌, cond, true≢false, and-false}
use mathlib.Core.List.Memᴰ
use mathlib.Core.List.{List, [], ◌∷◌, Memᴰ}
use mathlib.Core.Logic.{◌⊎◌, inl, inr, ⊎_elim}
use Prim.Native.Nat.{ℕ, ◌-◌, ◌≤◌, ◌<◌}
use native.Mathlib.Omega.{arith}
use borrow.Author.Tests.{eqb-true, eqb-false, eq-eqb, ne_eqb, ltb-true, ltb-false, lt-ltb, le-ltb, not-true, not-false}
use lib.Dec.{eqb, ltb}
use lib.ListN.{length}
use Rattle.mesh_text.proofs.Rows.{by-test}
use Rattle.mesh_text.proofs.Grammar.{and_both, and-of}
use Rattle.mesh_numbers.specs.Bits.{bit_b, set_bit, width, zeros}
use Rattle.mesh_form.specs.Mesh.{RepeatsIn, here, later, Repeats}
use Rattle.mesh_numbers.specs.Windows.{win_b, marked_b, marks, marks_all, dup_b, lack_b, lacks_b}
use Rattle.mesh_numbers.proofs.Bits.{bit-set, set-width, bit-zeros}

-- ---- a number by its place in the window
module _ (base w n : ℕ) where
  pub win-below : n < base → win_b base w n ≡ false
  win-below h = ap (λ b. not b && ltb (n - base) w) (lt-ltb n base h)

  pub win-past : w ≤ n - base → win_b base w n ≡ false
  win-past h = ap (λ b. not (ltb n base) && b) (le-ltb (n - base) w h) ∙ and-false (not (ltb n base))

  pub win_in : base ≤ n → n - base < w → win_b base w n ≡ true
  win_in h k = and-of (not (ltb n base)) _ (ap not (le-ltb n base h)) (lt-ltb (n - base) w k)

  pub win-is : win_b base w n ≡ true → (base ≤ n) × (n - base < w)
  win-is e =
      let t = and_both (not (ltb n base)) (ltb (n - base) w) e in (ltb-false n base (not-true _ t.0), ltb-true (n - base) w t.1)

-- ---- one mark
module _ (base : ℕ) (fs : List ℕ) (n : ℕ) where
  pub marks-in : win_b base (width fs) n ≡ true → marks base fs n ≡ set_bit fs (n - base)
  unfolding marks
  marks-in e = ap (λ b. cond b (set_bit fs (n - base)) fs) e

  pub marks-out : win_b base (width fs) n ≡ false → marks base fs n ≡ fs
  unfolding marks
  marks-out e = ap (λ b. cond b (set_bit fs (n - base)) fs) e

  pub marked-in : win_b base (width fs) n ≡ true → marked_b base fs n ≡ bit_b fs (n - base)
  unfolding marked_b
  marked-in e = ap (λ b. b && bit_b fs (n - base)) e

  pub marked-out : win_b base (width fs) n ≡ false → marked_b base fs n ≡ false
  unfolding marked_b
  marked-out e = ap (λ b. b && bit_b fs (n - base)) e

  pub lack-in : win_b base (width fs) n ≡ true → lack_b base fs n ≡ not (bit_b fs (n - base))
  unfolding lack_b
  lack-in e = ap (λ b. b && not (bit_b fs (n - base))) e

  pub lack-out : win_b base (width fs) n ≡ false → lack_b base fs n ≡ false
  unfolding lack_b
  lack-out e = ap (λ b. b && not (bit_b fs (n - base))) e

  pub marks-width : width (marks base fs n) ≡ width fs
  marks-width =
      by-test (win_b base (width fs) n) (width (marks base fs n) ≡ width fs)
      (λ e. ap width (marks-in e) ∙ set-width fs (n - base)) (λ e. ap width (marks-out e))

  pub marked-win : marked_b base fs n ≡ true → win_b base (width fs) n ≡ true
  unfolding marked_b
  marked-win e = (and_both (win_b base (width fs) n) (bit_b fs (n - base)) e).0

module _ (base : ℕ) (fs : List ℕ) (n : ℕ) where
  -- the window is the same behind a mark
  win-same : (m : ℕ) → win_b base (width (marks base fs n)) m ≡ win_b base (width fs) m
  win-same m = ap (λ w. win_b base w m) (marks-width base fs n)

  pub marked-self : win_b base (width fs) n ≡ true → marked_b base (marks base fs n) n ≡ true
  unfolding marked_b
  marked-self e =
      ap (λ b. b && bit_b (marks base fs n) (n - base)) (win-same n ∙ e)
      ∙ ap (λ h. bit_b h (n - base)) (marks-in base fs n e)
      ∙ bit-set fs (n - base) (n - base) (win-is base (width fs) n e).1
      ∙ ap (λ b. b || bit_b fs (n - base)) (eq-eqb (n - base) (n - base) refl)

  marked_other : (m : ℕ) → (m ≡ n → ⊥) → marked_b base (marks base fs n) m ≡ marked_b base fs m
  unfolding marked_b
  marked_other m d =
      ap (λ b. b && bit_b (marks base fs n) (m - base)) (win-same m)
      ∙ by-test (win_b base (width fs) m) ((win_b base (width fs) m && bit_b (marks base fs n) (m - base)) ≡ (win_b base (width fs) m && bit_b fs (m - base)))
      (λ e. ap (λ b. win_b base (width fs) m && b) (stays e))
      (λ e. ap (λ b. b && bit_b (marks base fs n) (m - base)) e ∙ sym (ap (λ b. b && bit_b fs (m - base)) e))
    where
      stays : win_b base (width fs) m ≡ true → bit_b (marks base fs n) (m - base) ≡ bit_b fs (m - base)
      stays e =
          by-test (win_b base (width fs) n) (bit_b (marks base fs n) (m - base) ≡ bit_b fs (m - base))
          (λ f. let p = win-is base (width fs) n f in let q = win-is base (width fs) m e in
          ap (λ h. bit_b h (m - base)) (marks-in base fs n f) ∙ bit-set fs (n - base) (m - base) p.1
          ∙ ap (λ b. b || bit_b fs (m - base)) (ne_eqb (m - base) (n - base) (λ i. d (omega arith))))
          (λ f. ap (λ h. bit_b h (m - base)) (marks-out base fs n f))

  pub marked-keeps : (m : ℕ) → marked_b base fs m ≡ true → marked_b base (marks base fs n) m ≡ true
  marked-keeps m e =
      by-test (eqb m n) (marked_b base (marks base fs n) m ≡ true)
      (λ i. let j = eqb-true m n i in
      subst (λ k. marked_b base (marks base fs n) k ≡ true) (sym j) (marked-self (subst (λ k. win_b base (width fs) k ≡ true) j (marked-win base fs m e))))
      (λ i. marked_other m (eqb-false m n i) ∙ e)

  pub marked-cases : (m : ℕ) → marked_b base (marks base fs n) m ≡ true → (m ≡ n) ⊎ (marked_b base fs m ≡ true)
  marked-cases m e =
      by-test (eqb m n) ((m ≡ n) ⊎ (marked_b base fs m ≡ true))
      (λ i. inl (eqb-true m n i))
      (λ i. inr (sym (marked_other m (eqb-false m n i)) ∙ e))

-- ---- a pass of marks
pub marks-all-width : (base : ℕ) (fs l : List ℕ) → width (marks_all base fs l) ≡ width fs
unfolding marks_all
marks-all-width base fs [] = refl
marks-all-width base fs (n ∷ l) = marks-all-width base (marks base fs n) l ∙ marks-width base fs n

pub marks-all-length : (base : ℕ) (fs l : List ℕ) → length (marks_all base fs l) ≡ length fs
unfolding width
marks-all-length base fs l = omega (arith, marks-all-width base fs l)

pub dup-true : (base : ℕ) (fs l : List ℕ) → dup_b base fs l ≡ true → ((n : ℕ) × ((marked_b base fs n ≡ true) × Memᴰ n l)) ⊎ Repeats l
unfolding dup_b
dup-true base fs [] e = absurd (true≢false (sym e))
dup-true base fs (n ∷ l) e = go (marked_b base fs n) refl (dup-true base (marks base fs n) l)
  where
    go : (b : Bool) → marked_b base fs n ≡ b
        → (dup_b base (marks base fs n) l ≡ true → ((m : ℕ) × ((marked_b base (marks base fs n) m ≡ true) × Memᴰ m l)) ⊎ Repeats l)
        → ((m : ℕ) × ((marked_b base fs m ≡ true) × Memᴰ m (n ∷ l))) ⊎ Repeats (n ∷ l)
    go true f ih = inl (n, (f, Memᴰ.head refl))
    go false f ih =
        ⊎_elim
        (λ p. ⊎_elim (λ i. inr (here tt (Memᴰ.cast (sym i) p.1.1))) (λ m. inl (p.0, (m, Memᴰ.tail p.1.1))) (marked-cases base fs n p.0 p.1.0))
        (λ r. inr (later r))
        (ih (sym (ap (λ b. b || dup_b base (marks base fs n) l) f) ∙ e))

or-none : (a b : Bool) → (a || b) ≡ false → (a ≡ false) × (b ≡ false)
or-none true b e = absurd (true≢false e)
or-none false b e = (refl, e)

pub repeats-map : {P Q : ℕ → Type 0} {l : List ℕ} → ((n : ℕ) → P n → Q n) → RepeatsIn P l → RepeatsIn Q l
repeats-map f (here {n} p m) = here (f n p) m
repeats-map f (later r) = later (repeats-map f r)

unfoldable pub Fresh : ℕ → List ℕ → List ℕ → Type 0
Fresh base fs l = ((m : ℕ) → marked_b base fs m ≡ true → ¬ Memᴰ m l) × (¬ RepeatsIn (λ n. win_b base (width fs) n ≡ true) l)

fresh-cons : (base : ℕ) (fs : List ℕ) (n : ℕ) (l : List ℕ) → marked_b base fs n ≡ false → Fresh base (marks base fs n) l → Fresh base fs (n ∷ l)
unfolding Fresh
fresh-cons base fs n l e ih = (
  (λ m f i. ⊎_elim (λ j. true≢false (sym f ∙ ap (marked_b base fs) j ∙ e)) (λ k. ih.0 m (marked-keeps base fs n m f) k) (Memᴰ.cases_cons i)),
  no,
)
  where
    no : RepeatsIn (λ k. win_b base (width fs) k ≡ true) (n ∷ l) → ⊥
    no (here p m) = ih.0 n (marked-self base fs n p) m
    no (later r) = ih.1 (repeats-map (λ k p. win-same base fs n k ∙ p) r)

pub dup-false : (base : ℕ) (fs l : List ℕ) → dup_b base fs l ≡ false → Fresh base fs l
unfolding dup_b Fresh
dup-false base fs [] e = ((λ m f i. Memᴰ.not-nil i), no)
  where
    no : RepeatsIn (λ n. win_b base (width fs) n ≡ true) [] → ⊥
    no r = elim r [ ]
dup-false base fs (n ∷ l) e =
    let t = or-none (marked_b base fs n) (dup_b base (marks base fs n) l) e in fresh-cons base fs n l t.0 (dup-false base (marks base fs n) l t.1)

-- ---- which flags are set behind a pass
pub marked-all-is : (base : ℕ) (fs l : List ℕ) (n : ℕ) → marked_b base (marks_all base fs l) n ≡ true → (marked_b base fs n ≡ true) ⊎ Memᴰ n l
unfolding marks_all
marked-all-is base fs [] n e = inl e
marked-all-is base fs (m ∷ l) n e =
    ⊎_elim
    (λ f. ⊎_elim (λ i. inr (Memᴰ.head i)) (λ g. inl g) (marked-cases base fs m n f))
    (λ i. inr (Memᴰ.tail i))
    (marked-all-is base (marks base fs m) l n e)

marked-all-keeps : (base : ℕ) (fs l : List ℕ) (n : ℕ) → marked_b base fs n ≡ true → marked_b base (marks_all base fs l) n ≡ true
unfolding marks_all
marked-all-keeps base fs [] n e = e
marked-all-keeps base fs (m ∷ l) n e = marked-all-keeps base (marks base fs m) l n (marked-keeps base fs m n e)

-- the same, n before what the recursion changes
marked-among : (base n : ℕ) (fs : List ℕ) {l : List ℕ} → Memᴰ n l → win_b base (width fs) n ≡ true → marked_b base (marks_all base fs l) n ≡ true
unfolding marks_all
marked-among base n fs (Memᴰ.head {x = m} {xs = l} i) w =
    marked-all-keeps base (marks base fs m) l n
    (subst (λ k. marked_b base (marks base fs m) k ≡ true) (sym i) (marked-self base fs m (subst (λ k. win_b base (width fs) k ≡ true) i w)))
marked-among base n fs (Memᴰ.tail {x = m} i) w = marked-among base n (marks base fs m) i (win-same base fs m n ∙ w)

pub marked-all-of : (base : ℕ) (fs : List ℕ) {l : List ℕ} {n : ℕ} → Memᴰ n l → win_b base (width fs) n ≡ true → marked_b base (marks_all base fs l) n ≡ true
marked-all-of base fs {n = n} i w = marked-among base n fs i w

-- ---- look-ups
lack-true : (base : ℕ) (fs : List ℕ) (n : ℕ) → lack_b base fs n ≡ true → (win_b base (width fs) n ≡ true) × (marked_b base fs n ≡ false)
unfolding lack_b
lack-true base fs n e =
    let t = and_both (win_b base (width fs) n) (not (bit_b fs (n - base))) e in (t.0, marked-in base fs n t.0 ∙ not-true _ t.1)

lack-false : (base : ℕ) (fs : List ℕ) (n : ℕ) → lack_b base fs n ≡ false → win_b base (width fs) n ≡ true → marked_b base fs n ≡ true
lack-false base fs n e w = marked-in base fs n w ∙ not-false _ (sym (lack-in base fs n w) ∙ e)

pub lacks-true : (base : ℕ) (fs l : List ℕ) → lacks_b base fs l ≡ true → (n : ℕ) × (Memᴰ n l × ((win_b base (width fs) n ≡ true) × (marked_b base fs n ≡ false)))
unfolding lacks_b
lacks-true base fs [] e = absurd (true≢false (sym e))
lacks-true base fs (n ∷ l) e = go (lack_b base fs n) refl (lacks-true base fs l)
  where
    go : (b : Bool) → lack_b base fs n ≡ b
        → (lacks_b base fs l ≡ true → (m : ℕ) × (Memᴰ m l × ((win_b base (width fs) m ≡ true) × (marked_b base fs m ≡ false))))
        → (m : ℕ) × (Memᴰ m (n ∷ l) × ((win_b base (width fs) m ≡ true) × (marked_b base fs m ≡ false)))
    go true f ih = (n, (Memᴰ.head refl, lack-true base fs n f))
    go false f ih = let p = ih (sym (ap (λ b. b || lacks_b base fs l) f) ∙ e) in (p.0, (Memᴰ.tail p.1.0, p.1.1))

-- the same, n before what the recursion changes
lacks-none-of : (base : ℕ) (fs : List ℕ) (n : ℕ) {l : List ℕ} → lacks_b base fs l ≡ false → Memᴰ n l → win_b base (width fs) n ≡ true → marked_b base fs n ≡ true
unfolding lacks_b
lacks-none-of base fs n e (Memᴰ.head {x = m} {xs = l} i) w =
    lack-false base fs n (ap (lack_b base fs) i ∙ (or-none (lack_b base fs m) (lacks_b base fs l) e).0) w
lacks-none-of base fs n e (Memᴰ.tail {x = m} {xs = l} i) w = lacks-none-of base fs n (or-none (lack_b base fs m) (lacks_b base fs l) e).1 i w

pub lacks-false : (base : ℕ) (fs : List ℕ) {l : List ℕ} {n : ℕ} → lacks_b base fs l ≡ false → Memᴰ n l → win_b base (width fs) n ≡ true → marked_b base fs n ≡ true
lacks-false base fs {n = n} e i w = lacks-none-of base fs n e i w

-- ---- flags that are all clear
pub clear : (base w n : ℕ) → marked_b base (zeros w) n ≡ false
unfolding marked_b
clear base w n = ap (λ b. win_b base (width (zeros w)) n && b) (bit-zeros w (n - base)) ∙ and-false (win_b base (width (zeros w)) n)
