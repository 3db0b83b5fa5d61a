-- The tests of rows of nodes and elements say what is stated of them (docs/GMSH.md, G11 to G15).
--   counts-true, counts_of   : a number above 0
--   node-true, node_of       : a row of nodes
--   element-true, element-of : a row of elements
-- Assumes nothing.
use mathlib.Core.Path.{◌≡◌, refl, sym, ap, ◌∙◌, subst}
use mathlib.Core.Bool.{true, false, cond, true≢false}
use mathlib.Core.List.{List, [], ◌∷◌, ◌++◌}
use Prim.Native.Nat.{ℕ, suc, ◌+◌, ◌-◌, ◌<◌}
use native.Mathlib.Omega.{arith}
use borrow.Author.Tests.{eqb-true, eqb-false, eq-eqb, ne_eqb, ltb-true, lt-ltb}
use lib.Dec.{eqb, ltb}
use lib.ListN.{length}
use Rattle.mesh_text.specs.Rows.{All, none, both, first, rest, is_nil, Pairs, no_pairs, pair}
use Rattle.mesh_text.specs.Words.{Number, IsTag}
use Rattle.mesh_text.specs.Tests.{tag_b, number_b, number_of, mantissa_b, unsigned}
use Rattle.mesh_text.proofs.Rows.{by-test}
use Rattle.mesh_text.proofs.Grammar.{and_both, and-of, number-of, number-true, tag_of, tag-true, is-number-of, is-number-true}
use Rattle.mesh_form.specs.Mesh.{Row, Node, Element, Counts, NodeRow, node_row, NodeCount, ElementRow, element_row}
use Rattle.mesh_form.specs.Walk.{positive_b, node_b, count_b, word_b, left_b, element_b}
use Rattle.mesh_form.proofs.Marks.{none_is}

-- ---- numbers above 0
pub counts-true : (w : List ℕ) → positive_b (number_of w) ≡ true → Counts w (number_of w)
unfolding positive_b
counts-true w e =
    let t = and_both (ltb 0 (number_of w)) (ltb (number_of w) 4294967296) e in
    record { number = number-true w (ltb-true _ _ t.1); positive = ltb-true _ _ t.0 }

pub counts_of : {w : List ℕ} {n : ℕ} → Counts w n → positive_b (number_of w) ≡ true
unfolding positive_b
counts_of {w} {n} h =
    let e = number-of w n h.number in
    let a = h.number.small in let b = h.positive in
    and-of (ltb 0 (number_of w)) _ (lt-ltb 0 (number_of w) (omega arith)) (lt-ltb (number_of w) 4294967296 (omega arith))

-- a word that is missing
not_positive : positive_b (number_of []) ≡ true → ⊥
unfolding positive_b
not_positive e =
    let k = none_is in
    let t = ltb-true (number_of []) 4294967296 (and_both (ltb 0 (number_of [])) (ltb (number_of []) 4294967296) e).1 in omega arith

pub missing : number_of [] < 4294967296 → ⊥
missing h = let k = none_is in omega arith

not-number : number_b [] ≡ true → ⊥
unfolding number_b mantissa_b unsigned
not-number e = true≢false (sym e)

-- ---- nodes
pub node_of : {r : Row} {n : Node} → NodeRow r n → node_b r ≡ true
unfolding node_b
node_of (node_row {a} {x} {y} {z} c h k l) =
    and-of _ _ (counts_of c) (and-of (number_b x) _ (is-number-of h) (and-of (number_b y) _ (is-number-of k) (and-of (number_b z) true (is-number-of l) refl)))

pub node-true : (r : Row) → node_b r ≡ true → (n : Node) × NodeRow r n
unfolding node_b
node-true r e =
    let a = and_both (positive_b (number_of (first r))) _ e in
    let x = and_both (number_b (first (rest r))) _ a.1 in
    let y = and_both (number_b (first (rest (rest r)))) _ x.1 in
    let z = and_both (number_b (first (rest (rest (rest r))))) (is_nil (rest (rest (rest (rest r))))) y.1 in
    go r a.0 x.0 y.0 z.0 z.1
  where
    go : (r : Row) → positive_b (number_of (first r)) ≡ true → number_b (first (rest r)) ≡ true → number_b (first (rest (rest r))) ≡ true
        → number_b (first (rest (rest (rest r)))) ≡ true → is_nil (rest (rest (rest (rest r)))) ≡ true → (n : Node) × NodeRow r n
    go [] a x y z e = absurd (not_positive a)
    go (v ∷ []) a x y z e = absurd (not-number x)
    go (v ∷ w ∷ []) a x y z e = absurd (not-number y)
    go (v ∷ w ∷ u ∷ []) a x y z e = absurd (not-number z)
    go (v ∷ w ∷ u ∷ s ∷ []) a x y z e = (_, node_row (counts-true v a) (is-number-true w x) (is-number-true u y) (is-number-true s z))
    go (v ∷ w ∷ u ∷ s ∷ q ∷ r) a x y z e = absurd (true≢false (sym e))

-- ---- elements
-- the number of nodes, type by type
types : (k n : ℕ) (P : Type 0)
    → (k ≡ 9 → count_b k n ≡ eqb n 6 → P)
    → (k ≡ 10 → count_b k n ≡ eqb n 9 → P)
    → (k ≡ 16 → count_b k n ≡ eqb n 8 → P)
    → ((k ≡ 9 → ⊥) → (k ≡ 10 → ⊥) → (k ≡ 16 → ⊥) → count_b k n ≡ ltb 0 n → P)
    → P
unfolding count_b
types k n P six nine eight other =
    let c = cond (eqb k 16) (eqb n 8) (ltb 0 n) in
    let d = cond (eqb k 10) (eqb n 9) c in
    by-test (eqb k 9) P (λ a. six (eqb-true k 9 a) (ap (λ b. cond b (eqb n 6) d) a))
    (λ a. let u : cond (eqb k 9) (eqb n 6) d ≡ d = ap (λ b. cond b (eqb n 6) d) a in
    by-test (eqb k 10) P (λ x. nine (eqb-true k 10 x) (u ∙ ap (λ b. cond b (eqb n 9) c) x))
    (λ x. let v : d ≡ c = ap (λ b. cond b (eqb n 9) c) x in
    by-test (eqb k 16) P (λ y. eight (eqb-true k 16 y) (u ∙ v ∙ ap (λ b. cond b (eqb n 8) (ltb 0 n)) y))
    (λ y. other (eqb-false k 9 a) (eqb-false k 10 x) (eqb-false k 16 y) (u ∙ v ∙ ap (λ b. cond b (eqb n 8) (ltb 0 n)) y))))

count-true : (k n : ℕ) → count_b k n ≡ true → NodeCount k n
count-true k n e =
    types k n (NodeCount k n)
    (λ a f. let g = eqb-true n 6 (sym f ∙ e) in record { some = omega arith; six = λ h. g; nine = λ h. absurd (omega arith); eight = λ h. absurd (omega arith) })
    (λ a f. let g = eqb-true n 9 (sym f ∙ e) in record { some = omega arith; six = λ h. absurd (omega arith); nine = λ h. g; eight = λ h. absurd (omega arith) })
    (λ a f. let g = eqb-true n 8 (sym f ∙ e) in record { some = omega arith; six = λ h. absurd (omega arith); nine = λ h. absurd (omega arith); eight = λ h. g })
    (λ a b c f. let g = ltb-true 0 n (sym f ∙ e) in record { some = g; six = λ h. absurd (a h); nine = λ h. absurd (b h); eight = λ h. absurd (c h) })

count_of : (k n : ℕ) → NodeCount k n → count_b k n ≡ true
count_of k n h =
    types k n (count_b k n ≡ true)
    (λ a f. f ∙ eq-eqb n 6 (h.six a))
    (λ a f. f ∙ eq-eqb n 9 (h.nine a))
    (λ a f. f ∙ eq-eqb n 8 (h.eight a))
    (λ a b c f. f ∙ lt-ltb 0 n h.some)

-- tags and numbers
record Left (t n k : ℕ) (ws : Row) : Type 0 where
  pub ts : Row
  pub vs : Row
  pub ms : List ℕ
  pub parted : ws ≡ ts ++ vs
  pub count : length ts ≡ t
  pub all : All IsTag ts
  pub read : Pairs Counts vs ms
  pub enough : count_b k (n + length ms) ≡ true

none_of : (l : Row) → length l ≡ 0 → l ≡ []
none_of [] e = refl
none_of (w ∷ l) e = absurd (omega arith)

left-true : (t n k : ℕ) (ws : Row) → left_b t n k ws ≡ true → Left t n k ws
unfolding left_b word_b
left-true t n k [] e =
    let a = and_both (eqb t 0) (count_b k n) e in
    record {
      ts = [];
      vs = [];
      ms = [];
      parted = refl;
      count = sym (eqb-true t 0 a.0);
      all = none;
      read = no_pairs;
      enough = ap (count_b k) (omega arith) ∙ a.1;
    }
left-true t n k (w ∷ ws) e =
    let a = and_both (cond (eqb t 0) (positive_b (number_of w)) (tag_b w)) (left_b (t - 1) (n + cond (eqb t 0) 1 0) k ws) e in
    let ih = left-true (t - 1) (n + cond (eqb t 0) 1 0) k ws a.1 in
    by-test (eqb t 0) (Left t n k (w ∷ ws))
    (λ z. let t0 = eqb-true t 0 z in
    let one : cond {A = ℕ} (eqb t 0) 1 0 ≡ 1 = ap (λ b. cond {A = ℕ} b 1 0) z in
    let no : ih.ts ≡ [] = none_of ih.ts (omega (arith, ih.count)) in
    record {
      ts = [];
      vs = w ∷ ws;
      ms = number_of w ∷ ih.ms;
      parted = refl;
      count = sym t0;
      all = none;
      read = pair (counts-true w (sym (ap (λ b. cond b (positive_b (number_of w)) (tag_b w)) z) ∙ a.0))
          (subst (λ l. Pairs Counts l ih.ms) (sym (ih.parted ∙ ap (λ l. l ++ ih.vs) no)) ih.read);
      enough = ap (count_b k) (omega arith) ∙ ih.enough;
    })
    (λ z. let t1 = eqb-false t 0 z in
    let one : cond {A = ℕ} (eqb t 0) 1 0 ≡ 0 = ap (λ b. cond {A = ℕ} b 1 0) z in
    record {
      ts = w ∷ ih.ts;
      vs = ih.vs;
      ms = ih.ms;
      parted = ap (λ l. w ∷ l) ih.parted;
      count = omega (arith, ih.count);
      all = both (tag-true w (sym (ap (λ b. cond b (positive_b (number_of w)) (tag_b w)) z) ∙ a.0)) ih.all;
      read = ih.read;
      enough = ap (count_b k) (omega arith) ∙ ih.enough;
    })

left-numbers : (n k : ℕ) {vs : Row} {ms : List ℕ} → Pairs Counts vs ms → count_b k (n + length ms) ≡ true → left_b 0 n k vs ≡ true
unfolding left_b word_b
left-numbers n k no_pairs e = ap (count_b k) (omega arith) ∙ e
left-numbers n k (pair {m = ms} h p) e = and-of _ _ (counts_of h) (left-numbers (n + 1) k p (ap (count_b k) (omega arith) ∙ e))

left-of : (n k : ℕ) {ts vs : Row} {ms : List ℕ} → All IsTag ts → Pairs Counts vs ms → count_b k (n + length ms) ≡ true → left_b (length ts) n k (ts ++ vs) ≡ true
unfolding left_b word_b
left-of n k none p e = left-numbers n k p e
left-of n k {vs = vs} (both {a = w} {l = ts} h t) p e =
    let z : eqb (suc (length ts)) 0 ≡ false = ne_eqb (suc (length ts)) 0 (λ i. omega arith) in
    let zero_more : n + cond {A = ℕ} (eqb (suc (length ts)) 0) 1 0 ≡ n = ap (λ b. n + cond {A = ℕ} b 1 0) z ∙ omega arith in
    let one_less : suc (length ts) - 1 ≡ length ts = omega arith in
    and-of _ _ (ap (λ b. cond b (positive_b (number_of w)) (tag_b w)) z ∙ tag_of h)
    (ap (λ i. left_b i (n + cond (eqb (suc (length ts)) 0) 1 0) k (ts ++ vs)) one_less ∙ ap (λ i. left_b (length ts) i k (ts ++ vs)) zero_more ∙ left-of n k t p e)

pub element-of : {r : Row} {e : Element} → ElementRow r e → element_b r ≡ true
unfolding element_b
element-of (element_row {a} {b} {c} {n} {k} {ts} {ws} {ms} ca cb nc h p q) =
    let ek = number-of b k cb.number in
    let et = number-of c (length ts) nc in
    and-of _ _ (counts_of ca) (and-of _ _ (counts_of cb) (and-of _ _ (ap (λ m. ltb m 4294967296) et ∙ lt-ltb (length ts) 4294967296 nc.small)
    (ap (λ m. left_b m 0 (number_of b) (ts ++ ws)) et ∙ ap (λ m. left_b (length ts) 0 m (ts ++ ws)) ek
    ∙ left-of 0 k h p (ap (count_b k) (omega arith) ∙ count_of k (length ms) q))))

pub element-true : (r : Row) → element_b r ≡ true → (e : Element) × ElementRow r e
unfolding element_b
element-true r e =
    let a = and_both (positive_b (number_of (first r))) _ e in
    let b = and_both (positive_b (number_of (first (rest r)))) _ a.1 in
    let c = and_both (ltb (number_of (first (rest (rest r)))) 4294967296) _ b.1 in
    go r a.0 b.0 (ltb-true (number_of (first (rest (rest r)))) 4294967296 c.0) (left-true (number_of (first (rest (rest r)))) 0 (number_of (first (rest r))) (rest (rest (rest r))) c.1)
  where
    go : (r : Row) → positive_b (number_of (first r)) ≡ true → positive_b (number_of (first (rest r))) ≡ true → number_of (first (rest (rest r))) < 4294967296
        → Left (number_of (first (rest (rest r)))) 0 (number_of (first (rest r))) (rest (rest (rest r))) → (e : Element) × ElementRow r e
    go [] a b c l = absurd (not_positive a)
    go (v ∷ []) a b c l = absurd (not_positive b)
    go (v ∷ w ∷ []) a b c l = absurd (missing c)
    go (v ∷ w ∷ u ∷ ws) a b c l =
        let row = element_row (counts-true v a) (counts-true w b) (subst (Number u) (sym l.count) (number-true u c)) l.all l.read
        (count-true (number_of w) (length l.ms) (ap (count_b (number_of w)) (omega arith) ∙ l.enough)) in
        let e : Element = record { number = number_of v; type = number_of w; nodes = l.ms } in
        (e, subst (λ x. ElementRow (v ∷ w ∷ u ∷ x) e) (sym l.parted) row)
