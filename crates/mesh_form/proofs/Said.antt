-- What is read straight from the words of a good row is what the row says (docs/GMSH.md, G12 to G15).
--   node-is, element-is : the node and the element of a row
--   wanted-is, wanted-none : the node numbers of a row of ours; none of another's
--   first_word, second_word, third-word : words by their places
--   skip-on        : one word less
--   padded n ws    == the numbers of the first n of ws, 2^32 for each that is missing
--   padded-is      : the same as a list that is filled up and cut
--   padded-step, padded-end : one number more; all of them
--   nine-is, nine-length : the numbers behind three words and the tags
--   size-six, size-nine, size-eight, size_none, size_small : the number of nodes, type by type
--   nine-enough    : the nine numbers have room for them
-- Assumes nothing.
use mathlib.Core.Path.{◌≡◌, refl, sym, ap, ◌∙◌}
use mathlib.Core.Bool.{cond}
use mathlib.Core.List.{List, [], ◌∷◌, ◌++◌, map, append-nil}
use Prim.Native.Nat.{ℕ, zero, suc, ◌+◌, ◌-◌, ◌≤◌, ◌<◌}
use native.Mathlib.Numerals.{add-one}
use native.Mathlib.Omega.{arith}
use borrow.Author.Tests.{eqb-true}
use lib.Dec.{eqb}
use lib.ListN.{length, set, take, drop, replicate, length-take, length-append}
use lib.Seq.{take_at, drop_at, take_all, append_snoc, take-suc-set, drop-nil, drop-drop, take-take}
use Rattle.mesh_text.specs.Rows.{first, rest, Pairs, no_pairs, pair}
use Rattle.mesh_text.specs.Tests.{number_of}
use Rattle.mesh_text.proofs.Rows.{by-test}
use Rattle.mesh_text.proofs.Grammar.{number-of}
use Rattle.mesh_form.specs.Mesh.{Row, Node, Element, Counts, NodeRow, node_row, NodeCount, ElementRow, element_row}
use Rattle.mesh_form.specs.Values.{word, id_of, type_of, tags_of, names_of, node_of, element_of, size_of_type, nine, wanted_of}
use Rattle.mesh_form.proofs.Marks.{none_is}

-- ---- words by their places
pub first_word : (r : Row) → first r ≡ word r 0
first_word [] = refl
first_word (w ∷ r) = refl

pub second_word : (r : Row) → first (rest r) ≡ word r 1
second_word [] = refl
second_word (w ∷ r) = first_word r

pub third-word : (r : Row) → first (rest (rest r)) ≡ word r 2
third-word [] = refl
third-word (w ∷ r) = second_word r

-- ---- behind so many words
pub skip-on : (n : ℕ) (r : Row) → 0 < n → drop n r ≡ drop (n - 1) (rest r)
skip-on zero r h = absurd (omega arith)
skip-on (suc n) [] h = sym (drop-nil (suc n - 1))
skip-on (suc n) (w ∷ r) h = let e : n ≡ suc n - 1 = omega arith in ap (λ k. drop k r) e

-- ---- numbers, filled up
unfoldable pub padded : ℕ → Row → List ℕ
padded zero ws = []
padded (suc n) ws = number_of (first ws) ∷ padded n (rest ws)

pub padded-is : (n m : ℕ) (ws : Row) → n ≤ m → padded n ws ≡ take n (map number_of ws ++ replicate m 4294967296)
unfolding padded
padded-is zero m ws h = refl
padded-is (suc n) zero ws h = absurd (omega arith)
padded-is (suc n) (suc m) [] h = ap (λ x. x ∷ padded n []) none_is ∙ ap (λ l. 4294967296 ∷ l) (padded-is n m [] (omega arith))
padded-is (suc n) (suc m) (w ∷ ws) h = ap (λ l. number_of w ∷ l) (padded-is n (suc m) ws (omega arith))

-- the numbers so far and those of the words left are all of them: one more, and the end
module _ (n i : ℕ) (ns all : List ℕ) (ws : Row) (e : all ≡ take i ns ++ padded (n - i) ws) where
  pub padded-step : (v : ℕ) (us : Row)
      → i < n
      → length ns ≡ n
      → v ≡ number_of (first ws)
      → us ≡ rest ws
      → all ≡ take (i + 1) (set ns i v) ++ padded (n - (i + 1)) us
  unfolding padded
  padded-step v us h k f g =
      let m : ℕ = n - (i + 1) in
      let one : n - i ≡ suc m = omega arith in
      e ∙ ap (λ j. take i ns ++ padded j ws) one
      ∙ ap (λ x. take i ns ++ (x ∷ padded m (rest ws))) (sym f)
      ∙ ap (λ x. take i ns ++ (v ∷ padded m x)) (sym g)
      ∙ sym (append_snoc (take i ns) v (padded m us))
      ∙ ap (λ l. l ++ padded m us) (sym (take-suc-set ns i v (omega arith)))
      ∙ ap (λ j. take j (set ns i v) ++ padded m us) (sym (add-one i))

  pub padded-end : n ≤ i → length ns ≡ n → ns ≡ all
  unfolding padded
  padded-end h k =
      let z : n - i ≡ 0 = omega arith in
      sym (e ∙ ap (λ j. take i ns ++ padded j ws) z ∙ append-nil (take i ns) ∙ take_all i ns (omega arith))

-- the numbers behind three words and the tags
pub nine-is : (r us vs : Row) (tags : ℕ)
    → tags ≡ tags_of r
    → us ≡ drop 3 r
    → vs ≡ drop tags us
    → take 9 (map number_of vs ++ replicate 9 4294967296) ≡ nine r
unfolding nine names_of
nine-is r us vs tags e f g =
    let h : vs ≡ drop (3 + tags_of r) r = g ∙ ap (drop tags) f ∙ drop-drop tags 3 r ∙ ap (λ n. drop (3 + n) r) e in
    ap (λ l. take 9 (map number_of l ++ replicate 9 4294967296)) h

pub nine-length : (r : Row) → length (nine r) ≡ 9
unfolding nine
nine-length r = omega (arith, length-take 9 (names_of r ++ replicate 9 4294967296), length-append (names_of r) (replicate 9 4294967296))

-- ---- nodes and elements
pub node-is : {r : Row} {n : Node} → NodeRow r n → n ≡ node_of r
node-is (node_row {a} {x} {y} {z} {n} c h k l) = ap (λ m. record { number = m; x = x; y = y; z = z }) (sym (number-of a n c.number))

pairs-are : {ws : Row} {ms : List ℕ} → Pairs Counts ws ms → map number_of ws ≡ ms
pairs-are no_pairs = refl
pairs-are (pair {a = w} {b = n} {l = ws} {m = ms} h p) = ap (λ m. m ∷ map number_of ws) (number-of w n h.number) ∙ ap (λ l. n ∷ l) (pairs-are p)

names-are : {r : Row} {e : Element} → ElementRow r e → names_of r ≡ e.nodes
unfolding names_of
names-are (element_row {a} {b} {c} {ts = ts} {ws = ws} ca cb nc h p q) =
    let three : 3 + length ts ≡ suc (suc (suc (length ts))) = omega arith in
    ap (λ n. map number_of (drop (3 + n) (a ∷ b ∷ c ∷ (ts ++ ws)))) (number-of c (length ts) nc)
    ∙ ap (λ n. map number_of (drop n (a ∷ b ∷ c ∷ (ts ++ ws)))) three
    ∙ ap (map number_of) (drop_at ts ws (length ts) refl)
    ∙ pairs-are p

type-is : {r : Row} {e : Element} → ElementRow r e → type_of r ≡ e.type
type-is (element_row {b = b} {k = k} ca cb nc h p q) = number-of b k cb.number

number_is : {r : Row} {e : Element} → ElementRow r e → id_of r ≡ e.number
number_is (element_row {a = a} {n = n} ca cb nc h p q) = number-of a n ca.number

pub element-is : {r : Row} {e : Element} → ElementRow r e → e ≡ element_of r
element-is {r} {e} h =
    ap (λ x. record { number = x; type = e.type; nodes = e.nodes }) (sym (number_is h))
    ∙ ap (λ x. record { number = id_of r; type = x; nodes = e.nodes }) (sym (type-is h))
    ∙ ap (λ x. record { number = id_of r; type = type_of r; nodes = x }) (sym (names-are h))

-- ---- types that are ours
pub types : (k : ℕ) (P : Type 0)
    → (k ≡ 9 → size_of_type k ≡ 6 → P)
    → (k ≡ 10 → size_of_type k ≡ 9 → P)
    → (k ≡ 16 → size_of_type k ≡ 8 → P)
    → (size_of_type k ≡ 0 → P)
    → P
unfolding size_of_type
types k P six nine eight other =
    let c : ℕ = cond (eqb k 16) 8 0 in
    let d : ℕ = cond (eqb k 10) 9 c in
    by-test (eqb k 9) P (λ a. six (eqb-true k 9 a) (ap (λ b. cond b 6 d) a))
    (λ a. let u : cond (eqb k 9) 6 d ≡ d = ap (λ b. cond b 6 d) a in
    by-test (eqb k 10) P (λ x. nine (eqb-true k 10 x) (u ∙ ap (λ b. cond b 9 c) x))
    (λ x. let v : d ≡ c = ap (λ b. cond b 9 c) x in
    by-test (eqb k 16) P (λ y. eight (eqb-true k 16 y) (u ∙ v ∙ ap (λ b. cond b 8 0) y))
    (λ y. other (u ∙ v ∙ ap (λ b. cond b 8 0) y))))

pub size_small : (k : ℕ) → size_of_type k ≤ 9
size_small k = types k (size_of_type k ≤ 9) (λ a e. omega arith) (λ a e. omega arith) (λ a e. omega arith) (λ e. omega arith)

-- a type of ours has as many numbers
size-count : (k n : ℕ) → NodeCount k n → (size_of_type k ≡ 0 → ⊥) → size_of_type k ≡ n
size-count k n h z =
    types k (size_of_type k ≡ n)
    (λ a e. e ∙ sym (h.six a))
    (λ a e. e ∙ sym (h.nine a))
    (λ a e. e ∙ sym (h.eight a))
    (λ e. absurd (z e))

nodes-count : {r : Row} {e : Element} → ElementRow r e → NodeCount e.type (length e.nodes)
nodes-count (element_row ca cb nc h p q) = q

pub wanted-is : {r : Row} {e : Element} → ElementRow r e → (size_of_type e.type ≡ 0 → ⊥) → wanted_of r ≡ e.nodes
unfolding wanted_of nine
wanted-is {r} {e} h z =
    let s : size_of_type e.type ≡ length e.nodes = size-count e.type (length e.nodes) (nodes-count h) z in
    let m = size_small e.type in
    ap (λ k. take (size_of_type k) (take 9 (names_of r ++ replicate 9 4294967296))) (type-is h)
    ∙ ap (λ l. take (size_of_type e.type) (take 9 (l ++ replicate 9 4294967296))) (names-are h)
    ∙ take-take (size_of_type e.type) 9 (e.nodes ++ replicate 9 4294967296) m
    ∙ take_at e.nodes (replicate 9 4294967296) (size_of_type e.type) (sym s)

pub wanted-none : {r : Row} {e : Element} → ElementRow r e → size_of_type e.type ≡ 0 → wanted_of r ≡ []
unfolding wanted_of
wanted-none {r} {e} h z = ap (λ k. take (size_of_type k) (nine r)) (type-is h) ∙ ap (λ k. take k (nine r)) z

-- ---- the code's branches
module _ (k : ℕ) where
  pub size-six : k ≡ 9 → 6 ≡ size_of_type k
  unfolding size_of_type
  size-six e = sym (ap size_of_type e)

  pub size-nine : k ≡ 10 → 9 ≡ size_of_type k
  unfolding size_of_type
  size-nine e = sym (ap size_of_type e)

  pub size-eight : k ≡ 16 → 8 ≡ size_of_type k
  unfolding size_of_type
  size-eight e = sym (ap size_of_type e)

  pub size_none : (k ≡ 9 → ⊥) → (k ≡ 10 → ⊥) → (k ≡ 16 → ⊥) → 0 ≡ size_of_type k
  size_none a b c = types k (0 ≡ size_of_type k) (λ e f. absurd (a e)) (λ e f. absurd (b e)) (λ e f. absurd (c e)) (λ e. sym e)

-- the nine have room for the nodes of a type that is ours
pub nine-enough : (k s : ℕ) (r : Row) (ns : List ℕ) → s ≡ size_of_type k → ns ≡ nine r → s ≤ length ns
nine-enough k s r ns e f = omega (arith, size_small k, ap length f, nine-length r)
