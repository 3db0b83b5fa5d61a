-- Node rows, one after the other: whether they are flat, and the row of a number.
--   flat-of        : the words of a row, one behind the other
--   flats-on, flats-off, flats-end : a row that is flat; one that is not; none is left
--   row_here, row_on, row-end : the row of a number; another; none is left
--   row-mem        : where no number repeats, a row with the number is its row
--   seats-set      : one place more
-- Assumes nothing.
use mathlib.Core.Path.{◌≡◌, refl, sym, ap, ◌∙◌, subst}
use mathlib.Core.Bool.{true, false, ◌&&◌, cond, true≢false}
use mathlib.Core.List.{List, [], ◌∷◌, map, Memᴰ}
use Prim.Native.Nat.{ℕ, zero, suc, ◌<◌}
use native.Mathlib.Omega.{arith}
use borrow.Author.Tests.{eqb-true, eq-eqb, ne_eqb}
use lib.Dec.{eqb}
use lib.ListN.{drop, set, get_or, length}
use Rattle.mesh_text.specs.Rows.{All, none, both, first, rest, line}
use Rattle.mesh_text.specs.Tests.{whole_b, zero_b}
use Rattle.mesh_text.proofs.Rows.{by-test}
use Rattle.mesh_text.proofs.Grammar.{and_both}
use Rattle.mesh_form.specs.declared.Cursor.{Cursor}
use Rattle.mesh_form.specs.Mesh.{Row, Repeats, here, later}
use Rattle.mesh_form.specs.Walk.{Found, items_from, node_rows, Reads}
use Rattle.mesh_form.specs.Values.{word, id_of}
use Rattle.mesh_form.proofs.Said.{second_word, third-word}
use Rattle.mesh_nodes.specs.Nodes.{flat_b, flats_b, row_of}
use Rattle.mesh_nodes.proofs.Passes.{by_kind, nodes-node, nodes-element}

fourth-word : (r : Row) → first (rest (rest (rest r))) ≡ word r 3
fourth-word [] = refl
fourth-word (w ∷ r) = third-word r

-- ---- flat rows
pub flat-of : (r r1 r2 r3 : Row) (x y z : List ℕ)
    → r1 ≡ rest r
    → r2 ≡ rest r1
    → r3 ≡ rest r2
    → x ≡ first r1
    → y ≡ first r2
    → z ≡ first r3
    → (whole_b x && (whole_b y && zero_b z)) ≡ flat_b r
unfolding flat_b
flat-of r r1 r2 r3 x y z a b c d e f =
    let two : r2 ≡ rest (rest r) = b ∙ ap rest a in
    let three : r3 ≡ rest (rest (rest r)) = c ∙ ap rest two in
    ap (λ w. whole_b w && (whole_b y && zero_b z)) (d ∙ ap first a ∙ second_word r)
    ∙ ap (λ w. whole_b (word r 1) && (whole_b w && zero_b z)) (e ∙ ap first two ∙ third-word r)
    ∙ ap (λ w. whole_b (word r 1) && (whole_b (word r 2) && zero_b w)) (f ∙ ap first three ∙ fourth-word r)

module _ (t : List ℕ) (c : Cursor) (f : Found) (a : Reads 2 t c f) (n : f.kind ≡ 0 → ⊥) where
  pub flats-on : cond (eqb f.kind 1) (flat_b (line (drop f.at t))) true ≡ true → flats_b (node_rows (items_from t c)) ≡ flats_b (node_rows (items_from t f.next))
  unfolding flats_b
  flats-on e =
      by_kind t c f a (flats_b (node_rows (items_from t c)) ≡ flats_b (node_rows (items_from t f.next))) n
      (λ k. ap flats_b (nodes-node t c f a k) ∙ ap (λ b. b && flats_b (node_rows (items_from t f.next))) (sym (ap (λ b. cond b (flat_b (line (drop f.at t))) true) (eq-eqb f.kind 1 k)) ∙ e))
      (λ k. ap flats_b (nodes-element t c f a k))

  pub flats-off : cond (eqb f.kind 1) (flat_b (line (drop f.at t))) true ≡ false → flats_b (node_rows (items_from t c)) ≡ false
  unfolding flats_b
  flats-off e =
      by_kind t c f a (flats_b (node_rows (items_from t c)) ≡ false) n
      (λ k. ap flats_b (nodes-node t c f a k) ∙ ap (λ b. b && flats_b (node_rows (items_from t f.next))) (sym (ap (λ b. cond b (flat_b (line (drop f.at t))) true) (eq-eqb f.kind 1 k)) ∙ e))
      (λ k. absurd (true≢false (sym (ap (λ b. cond b (flat_b (line (drop f.at t))) true) (ne_eqb f.kind 1 (λ o. absurd (omega arith)))) ∙ e)))

pub flats-none : flats_b [] ≡ true
unfolding flats_b
flats-none = refl

-- ---- the row of a number
pub row-none : (n : ℕ) → row_of n [] ≡ []
unfolding row_of
row-none n = refl

module _ (t : List ℕ) (c : Cursor) (f : Found) (a : Reads 2 t c f) (z : f.kind ≡ 0 → ⊥) (n : ℕ) where
  pub row_here : (eqb f.kind 1 && eqb (id_of (line (drop f.at t))) n) ≡ true → row_of n (node_rows (items_from t c)) ≡ line (drop f.at t)
  unfolding row_of
  row_here e =
      let b = and_both (eqb f.kind 1) _ e in
      ap (row_of n) (nodes-node t c f a (eqb-true f.kind 1 b.0))
      ∙ ap (λ x. cond x (line (drop f.at t)) (row_of n (node_rows (items_from t f.next)))) b.1

  pub row_on : (eqb f.kind 1 && eqb (id_of (line (drop f.at t))) n) ≡ false → row_of n (node_rows (items_from t c)) ≡ row_of n (node_rows (items_from t f.next))
  unfolding row_of
  row_on e =
      by_kind t c f a (row_of n (node_rows (items_from t c)) ≡ row_of n (node_rows (items_from t f.next))) z
      (λ k. ap (row_of n) (nodes-node t c f a k) ∙ ap (λ x. cond x (line (drop f.at t)) (row_of n (node_rows (items_from t f.next)))) (sym (ap (λ x. x && eqb (id_of (line (drop f.at t))) n) (eq-eqb f.kind 1 k)) ∙ e))
      (λ k. ap (row_of n) (nodes-element t c f a k))

-- a number of a row in the list
mem-number : {r : Row} {rs : List Row} → Memᴰ r rs → Memᴰ (id_of r) (map id_of rs)
mem-number (mathlib.Core.List.Memᴰ.head e) = mathlib.Core.List.Memᴰ.head (ap id_of e)
mem-number (mathlib.Core.List.Memᴰ.tail m) = mathlib.Core.List.Memᴰ.tail (mem-number m)

-- row-mem, r before what the recursion changes
row-among : (r : Row) (rs : List Row) (n : ℕ) → ¬ Repeats (map id_of rs) → Memᴰ r rs → id_of r ≡ n → r ≡ row_of n rs
unfolding row_of
row-among r rs n o (mathlib.Core.List.Memᴰ.head {x = q} {xs = l} e) i =
    e ∙ sym (ap (λ b. cond b q (row_of n l)) (eq-eqb (id_of q) n (ap id_of (sym e) ∙ i)))
row-among r rs n o (mathlib.Core.List.Memᴰ.tail {x = q} {xs = l} m) i =
    by-test (eqb (id_of q) n) (r ≡ row_of n (q ∷ l))
    (λ b. absurd (o (here tt (subst (λ k. Memᴰ k (map id_of l)) (i ∙ sym (eqb-true (id_of q) n b)) (mem-number m)))))
    (λ b. row-among r l n (λ p. o (later p)) m i ∙ sym (ap (λ x. cond x q (row_of n l)) b))

pub row-mem : (rs : List Row) (r : Row) (n : ℕ) → ¬ Repeats (map id_of rs) → Memᴰ r rs → id_of r ≡ n → r ≡ row_of n rs
row-mem rs r n o m i = row-among r rs n o m i

-- ---- places in a table
pub all_set : {P : ℕ → Type 0} {l : List ℕ} (k v : ℕ) → All P l → P v → All P (set l k v)
all_set k v none h = none
all_set zero v (both p a) h = both h a
all_set (suc k) v (both p a) h = both p (all_set k v a h)

pub all-at : {P : ℕ → Type 0} {l : List ℕ} (k : ℕ) → All P l → k < length l → P (get_or l k 0)
all-at k none h = absurd (omega arith)
all-at zero (both p a) h = p
all-at (suc k) (both p a) h = all-at k a (omega arith)

-- a node row that has been found is one of the text's
pub row_in : {r : Row} {rs qs : List Row} → rs ≡ r ∷ qs → Memᴰ r rs
row_in e = rw e (mathlib.Core.List.Memᴰ.head refl)

-- and so is each behind it
pub rows_behind : (t : List ℕ) (c : Cursor) (f : Found) → Reads 2 t c f → (f.kind ≡ 0 → ⊥)
    → (r : Row) → Memᴰ r (node_rows (items_from t f.next)) → Memᴰ r (node_rows (items_from t c))
rows_behind t c f a n r m =
    by_kind t c f a (Memᴰ r (node_rows (items_from t c))) n
    (λ k. subst (Memᴰ r) (sym (nodes-node t c f a k)) (mathlib.Core.List.Memᴰ.tail m))
    (λ k. subst (Memᴰ r) (sym (nodes-element t c f a k)) m)
