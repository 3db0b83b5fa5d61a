-- A text without a fault of its form says records, one list of them; and a text that says records has no such fault.
--   silent-true, silent-of : the test of a line that counts for nothing
--   line-said      : a line without a fault that counts says a record
--   said_of        : so does a text without a fault
--   says-unique, lines-unique, records-unique : one record, and one list of them
--   records-accepted : no fault of the form, and no coordinate that is not whole
--   records-fit    : each id fits four bytes
-- Assumes nothing.
use mathlib.Core.Path.{◌≡◌, refl, sym, ap, ap₂, ◌∙◌}
use mathlib.Core.Bool.{true, not, true≢false}
use mathlib.Core.List.{List, [], ◌∷◌, map, nil≢cons}
use Prim.Native.Nat.{ℕ, suc, ◌≤◌, ◌<◌}
use native.Mathlib.Omega.{arith}
use borrow.Author.Tests.{eqb-true, ltb-false}
use lib.Dec.{ltb}
use lib.IntN.{ℤ}
use Rattle.element.proofs.Refusals.{accepted-then, then-accepted}
use Rattle.element.specs.Refusals.{Accepted}
use Rattle.append.specs.Series.{Given, IdsFit}
use Rattle.mesh_text.specs.Rows.{Pairs, no_pairs, pair, first, rest, is_end, lines, words}
use Rattle.mesh_text.specs.Words.{Number, IsNumber, WholeValue}
use Rattle.mesh_text.specs.Tests.{number_b, whole_b, number_of, value_of}
use Rattle.mesh_text.proofs.Rows.{by-test, parts-two}
use Rattle.mesh_text.proofs.Grammar.{number-of, number-true, is-number-of, is-number-true, whole_of, whole-true, whole-number}
use Rattle.record_text.specs.Faults.{Silent, empty, comment, Wrong, no_natural, no_number, Broken, Flawed, each_word, form_words, whole_words, cut_line, no_codes, each_line, form_codes, whole_codes}
use Rattle.record_text.specs.Says.{Says, says, Line, Lines, end, silent, spoken, Records, givens}
use Rattle.record_text.specs.Values.{silent_b, given_of, said_in}
use Rattle.record_text.proofs.Tests.{wrong-front, wrong-later}
use Rattle.record_text.proofs.Searches.{words-silent}

-- ---- lines that count
pub silent-true : (ws : List (List ℕ)) → silent_b ws ≡ true → Silent ws
silent-true [] e = empty
silent-true ([] ∷ ws) e = absurd (true≢false (sym e))
silent-true ((b ∷ w) ∷ ws) e = rw (eqb-true b 35 e) comment

pub silent-of : {ws : List (List ℕ)} → Silent ws → silent_b ws ≡ true
silent-of empty = refl
silent-of comment = refl

-- ---- the words of a line that counts
module _ (k : ℕ) (w : List ℕ) (n : ¬ Wrong k w) where
  natural : k ≤ 3 → number_of w < 4294967296
  natural h =
      by-test (ltb 4294967295 (number_of w)) (number_of w < 4294967296)
      (λ e. absurd (n ((wrong-front k w h).yes e)))
      (λ e. omega (arith, ltb-false 4294967295 (number_of w) e))

  decimal : 3 < k → IsNumber w
  decimal h = by-test (number_b w) (IsNumber w) (is-number-true w) (λ e. absurd (n (no_number h (λ i. true≢false (sym (is-number-of i) ∙ e)))))

  whole : 3 < k → ¬ Broken k w → WholeValue w (value_of w)
  whole h b =
      by-test (whole_b w) (WholeValue w (value_of w)) (whole-true w)
      (λ e. absurd (b (record { coordinate = h; number = decimal h; not_whole = λ z. true≢false (sym (whole_of z.1).0 ∙ e) })))

module _ (n : ℕ) (ws : List (List ℕ)) (c : ¬ Silent ws) where
  values : (k : ℕ) (us : List (List ℕ)) → 3 < k → Accepted (each_word 13 n (Flawed Wrong ws) k us) → Accepted (each_word 14 n (Flawed Broken ws) k us)
      → Pairs WholeValue us (map value_of us)
  values k [] h a b = no_pairs
  values k (u ∷ us) h a b = pair (whole k u (λ q. a.0 (c, q)) h (λ q. b.0 (c, q))) (values (suc k) us (omega arith) a.1 b.1)

pub line-said : (n : ℕ) (ws : List (List ℕ)) → ¬ Silent ws → Accepted (form_words n ws) → Accepted (whole_words n ws) → Says ws (given_of ws)
line-said n [] c a b = absurd (c empty)
line-said n (u ∷ []) c a b = absurd (a.0 (c, omega arith))
line-said n (u ∷ v ∷ []) c a b = absurd (a.0 (c, omega arith))
line-said n (u ∷ v ∷ w ∷ ws) c a b =
    says
    (number-true u (natural 1 u (λ q. a.1.0 (c, q)) (omega arith)))
    (number-true v (natural 2 v (λ q. a.1.1.0 (c, q)) (omega arith)))
    (number-true w (natural 3 w (λ q. a.1.1.1.0 (c, q)) (omega arith)))
    (values n (u ∷ v ∷ w ∷ ws) c 4 ws (omega arith) a.1.1.1.1 b.1.1.1)

-- ---- from line to line
pub lines-said : (n : ℕ) (l : List ℕ) (ls : List (List ℕ))
    → Accepted (each_line form_words cut_line n (l ∷ ls))
    → Accepted (each_line whole_words no_codes n (l ∷ ls))
    → Lines n (l ∷ ls) (said_in n (l ∷ ls))
lines-said n [] [] a b = end
lines-said n (c ∷ l) [] a b = absurd (a.0 (λ e. nil≢cons (sym e)))
lines-said n l (m ∷ ls) a b =
    let f = then-accepted (form_words n (words l)) (each_line form_words cut_line (suc n) (m ∷ ls)) a in
    let g = then-accepted (whole_words n (words l)) (each_line whole_words no_codes (suc n) (m ∷ ls)) b in
    let h = lines-said (suc n) m ls f.1 g.1 in
    by-test (silent_b (words l)) (Lines n (l ∷ m ∷ ls) (said_in n (l ∷ m ∷ ls)))
    (λ e. rw e (silent (silent-true (words l) e) h))
    (λ e. let c : ¬ Silent (words l) = λ s. true≢false (sym (silent-of s) ∙ e) in
    rw e (spoken c (line-said n (words l) c f.0 g.0) h))

pub said_of : (t : List ℕ) → Accepted (form_codes t) → Accepted (whole_codes t) → Records t (said_in 1 (lines t))
unfolding lines
said_of t a b =
    let e = parts-two is_end t in
    rw e (lines-said 1 (first (lines t)) (rest (lines t)) (rw e at a) (rw e at b))

-- ---- one reading
pub says-unique : {ws : List (List ℕ)} {g h : Given} → Says ws g → Says ws h → g ≡ h
says-unique (says {a = a} {b = b} {c = c} {id = i} {kind = k} {limit = l} {xs = xs} p q r v) (says {id = j} {kind = m} {limit = o} x y z w) =
    let e : i ≡ j = sym (number-of a i p) ∙ number-of a j x in
    let f : k ≡ m = sym (number-of b k q) ∙ number-of b m y in
    let d : l ≡ o = sym (number-of c l r) ∙ number-of c o z in
    ap₂ (λ (s t : ℕ). record { id = s; kind = t; limit = l; coords = xs }) e f
    ∙ ap₂ (λ (s : ℕ) (ys : List ℤ). record { id = j; kind = m; limit = s; coords = ys }) d (values-unique v w)
  where
    values-unique : {us : List (List ℕ)} {xs ys : List ℤ} → Pairs WholeValue us xs → Pairs WholeValue us ys → xs ≡ ys
    values-unique no_pairs no_pairs = refl
    values-unique (pair p v) (pair q w) = ap₂ (λ (x : ℤ) (xs : List ℤ). x ∷ xs) (sym (whole_of p).1 ∙ (whole_of q).1) (values-unique v w)

pub lines-unique : {n : ℕ} {ls : List (List ℕ)} {gs hs : List Line} → Lines n ls gs → Lines n ls hs → gs ≡ hs
lines-unique end end = refl
lines-unique (silent s p) (silent u q) = lines-unique p q
lines-unique (silent s p) (spoken u v q) = absurd (u s)
lines-unique (spoken s v p) (silent u q) = absurd (s u)
lines-unique {n} (spoken s v p) (spoken u w q) = ap₂ (λ (g : Given) (gs : List Line). record { line = n; given = g } ∷ gs) (says-unique v w) (lines-unique p q)

pub records-unique : (t : List ℕ) {gs hs : List Line} → Records t gs → Records t hs → gs ≡ hs
records-unique t p q = lines-unique p q

-- ---- and the other way
words-fine : (n : ℕ) (ws : List (List ℕ)) {us : List (List ℕ)} {xs : List ℤ} (k : ℕ) → 3 < k → Pairs WholeValue us xs
    → Accepted (each_word 13 n (Flawed Wrong ws) k us) × Accepted (each_word 14 n (Flawed Broken ws) k us)
words-fine n ws k h no_pairs = (tt, tt)
words-fine n ws k h (pair {a = u} {b = z} p v) =
    let r = words-fine n ws (suc k) (omega arith) v in
    (((λ q. (wrong-later k u h).no (ap not (is-number-of (whole-number p))) q.1), r.0), ((λ q. q.1.not_whole (z, p)), r.1))

number-fine : (k n : ℕ) (w : List ℕ) → k ≤ 3 → Number w n → ¬ Wrong k w
number-fine k n w h p (no_natural l q) = q (n, p)
number-fine k n w h p (no_number l q) = absurd (omega arith)

front-fine : (k : ℕ) (w : List ℕ) → k ≤ 3 → ¬ Broken k w
front-fine k w h b = let l = b.coordinate in absurd (omega arith)

line-fine : (n : ℕ) {ws : List (List ℕ)} {g : Given} → Says ws g → Accepted (form_words n ws) × Accepted (whole_words n ws)
line-fine n (says {a = a} {b = b} {c = c} {ws = ws} {id = i} {kind = k} {limit = l} p q r v) =
    let f = words-fine n (a ∷ b ∷ c ∷ ws) 4 (omega arith) v in (
      ((λ x. absurd (omega (arith, x.1))), ((λ x. number-fine 1 i a (omega arith) p x.1), ((λ x. number-fine 2 k b (omega arith) q x.1), ((λ x. number-fine 3 l c (omega arith) r x.1), f.0)))),
      ((λ x. front-fine 1 a (omega arith) x.1), ((λ x. front-fine 2 b (omega arith) x.1), ((λ x. front-fine 3 c (omega arith) x.1), f.1))),
    )

lines-fine : {n : ℕ} {ls : List (List ℕ)} {gs : List Line} → Lines n ls gs
    → Accepted (each_line form_words cut_line n ls) × Accepted (each_line whole_words no_codes n ls)
lines-fine end = (((λ f. f refl), tt), tt)
lines-fine {n} (silent {l = l} {m = m} {ls = ls} s p) =
    let r = lines-fine p in (
      accepted-then (form_words n (words l)) (each_line form_words cut_line (suc n) (m ∷ ls)) ((λ f. f.0 s), words-silent n (words l) s 13 Wrong 1 (words l)) r.0,
      accepted-then (whole_words n (words l)) (each_line whole_words no_codes (suc n) (m ∷ ls)) (words-silent n (words l) s 14 Broken 1 (words l)) r.1,
    )
lines-fine {n} (spoken {l = l} {m = m} {ls = ls} c s p) =
    let r = lines-fine p in
    let f = line-fine n s in (
      accepted-then (form_words n (words l)) (each_line form_words cut_line (suc n) (m ∷ ls)) f.0 r.0,
      accepted-then (whole_words n (words l)) (each_line whole_words no_codes (suc n) (m ∷ ls)) f.1 r.1,
    )

pub records-accepted : (t : List ℕ) {gs : List Line} → Records t gs → Accepted (form_codes t) × Accepted (whole_codes t)
records-accepted t p = lines-fine p

says-fit : {ws : List (List ℕ)} {g : Given} → Says ws g → g.id < 4294967296
says-fit (says a b c v) = a.small

pub records-fit : {n : ℕ} {ls : List (List ℕ)} {gs : List Line} → Lines n ls gs → IdsFit (givens gs)
records-fit end = tt
records-fit (silent s p) = records-fit p
records-fit (spoken c s p) = (says-fit s, records-fit p)
