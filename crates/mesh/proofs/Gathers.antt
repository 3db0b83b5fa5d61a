-- A pass over the elements of a text, row by row.
--   row_other, row-passed, row-taken : what a row does, by its kind and its type
--   rows_left      : the element rows from a cursor on, by the row that is read
--   Fresh z b      == nothing is taken yet, and there is room for what a block can hold
--   Keeps level t z b s a c == what the pass has kept up to a cursor: the tally z and the bytes b have become s and a
--   keeps-start, keeps-next, keeps-halted, keeps-end : the first row, the next, one that is refused, and the end
-- Assumes nothing.
use mathlib.Core.Path.{◌≡◌, refl, sym, ap, ◌∙◌, subst}
use mathlib.Core.Bool.{cond}
use mathlib.Core.List.{List, [], ◌∷◌, ◌++◌, append-nil, append_assoc}
use Prim.Native.Nat.{ℕ, ◌+◌, ◌*◌, ◌≤◌, ◌<◌}
use native.Mathlib.Omega.{arith}
use borrow.Author.Tests.{eq-eqb, ne_eqb}
use lib.Dec.{eqb}
use lib.IntN.{ℤ}
use lib.ListN.{length, drop, length-append}
use Rattle.std.specs.Prelude.{Result, Ok}
use Rattle.faults.specs.declared.refusal.Refusal.{Refusal}
use Rattle.append.specs.Series.{Given}
use Rattle.append.proofs.Fronts.{passes_append, passes-few}
use Rattle.batch.specs.declared.Tally.{Tally}
use Rattle.batch.specs.Tallies.{Moved, Halted, Moves}
use Rattle.batch.proofs.Tallies.{moved_none, moved_more, moved-halted, halted-front}
use Rattle.mesh_text.specs.Rows.{All, none, both, line}
use Rattle.mesh_text.specs.Tests.{value_of}
use Rattle.mesh_text.proofs.Rows.{by-test}
use Rattle.mesh_form.specs.declared.Cursor.{Cursor}
use Rattle.mesh_form.specs.Mesh.{Row}
use Rattle.mesh_form.specs.Walk.{Found, items_in, items_from, element_rows, Reads}
use Rattle.mesh_form.specs.Values.{id_of, type_of, size_of_type}
use Rattle.mesh_nodes.specs.Nodes.{nodes_in}
use Rattle.mesh_nodes.proofs.Passes.{by_kind, elements-node, elements-element}
use Rattle.mesh_elements.specs.Rows.{given_of, givens_of, passed_of, elements_in}
use Rattle.mesh.specs.Taken.{rows_of, taken_in, passed_in}

-- ---- one row
rows_none : (k : ℕ) (r : Row) → (k ≡ 2 → ⊥) → rows_of k r ≡ []
rows_none k r n = ap (λ b. cond b (r ∷ []) []) (ne_eqb k 2 n)

rows-one : (k : ℕ) (r : Row) → k ≡ 2 → rows_of k r ≡ r ∷ []
rows-one k r e = ap (λ b. cond b (r ∷ []) []) (eq-eqb k 2 e)

module _ (level : ℕ) (rs : List Row) (r : Row) (s : Tally) (b a : List ℕ) where
  abbrev Rowed : Result Tally Refusal → List Row → Type 0
  Rowed u qs = Moves (givens_of level value_of rs qs) (passed_of qs) s b u a

  pub row_other : (u : Tally) (k : ℕ) → (k ≡ 2 → ⊥) → Moved [] 0 s b u a → Rowed (Ok u) (rows_of k r)
  unfolding givens_of passed_of
  row_other u k n m = subst (Rowed (Ok u)) (sym (rows_none k r n)) m

  pub row-passed : (u : Tally) (k : ℕ) → k ≡ 2 → size_of_type (type_of r) ≡ 0 → Moved [] 1 s b u a → Rowed (Ok u) (rows_of k r)
  unfolding givens_of passed_of
  row-passed u k e z m = subst (Rowed (Ok u)) (sym (rows-one k r e)) (rw (eq-eqb (size_of_type (type_of r)) 0 z) m)

  pub row-taken : (u : Result Tally Refusal) (k : ℕ) → k ≡ 2 → (size_of_type (type_of r) ≡ 0 → ⊥) → Moves (given_of level value_of rs r ∷ []) 0 s b u a → Rowed u (rows_of k r)
  unfolding givens_of passed_of
  row-taken u k e z m = subst (Rowed u) (sym (rows-one k r e)) (rw (ne_eqb (size_of_type (type_of r)) 0 z) m)

-- ---- rows one behind the other
givens-append : (level : ℕ) (v : List ℕ → ℤ) (rs qs us : List Row) → givens_of level v rs (qs ++ us) ≡ givens_of level v rs qs ++ givens_of level v rs us
unfolding givens_of
givens-append level v rs [] us = refl
givens-append level v rs (q ∷ qs) us =
    let ih = givens-append level v rs qs us in
    by-test (eqb (size_of_type (type_of q)) 0) (givens_of level v rs (q ∷ (qs ++ us)) ≡ givens_of level v rs (q ∷ qs) ++ givens_of level v rs us)
    (λ e. rw e ih)
    (λ e. rw e (ap (λ l. given_of level v rs q ∷ l) ih))

passed-append : (qs us : List Row) → passed_of (qs ++ us) ≡ passed_of qs + passed_of us
unfolding passed_of
passed-append [] us = omega arith
passed-append (q ∷ qs) us =
    let ih = passed-append qs us in
    by-test (eqb (size_of_type (type_of q)) 0) (passed_of (q ∷ (qs ++ us)) ≡ passed_of (q ∷ qs) + passed_of us)
    (λ e. rw e (omega arith))
    (λ e. rw e ih)

passed-one : (k : ℕ) (r : Row) → passed_of (rows_of k r) ≤ 1
unfolding passed_of
passed-one k r =
    by-test (eqb k 2) (passed_of (rows_of k r) ≤ 1)
    (λ e. rw e (by-test (eqb (size_of_type (type_of r)) 0) (passed_of (r ∷ []) ≤ 1) (λ f. rw f (omega arith)) (λ f. rw f (omega arith))))
    (λ e. rw e (omega arith))

module _ (t : List ℕ) (c : Cursor) (f : Found) (d : Reads 2 t c f) (n : f.kind ≡ 0 → ⊥) where
  pub rows_left : element_rows (items_from t c) ≡ rows_of f.kind (line (drop f.at t)) ++ element_rows (items_from t f.next)
  rows_left =
      by_kind t c f d (element_rows (items_from t c) ≡ rows_of f.kind (line (drop f.at t)) ++ element_rows (items_from t f.next)) n
      (λ k. elements-node t c f d k ∙ ap (λ l. l ++ element_rows (items_from t f.next)) (sym (rows_none f.kind (line (drop f.at t)) (λ e. absurd (omega arith)))))
      (λ k. elements-element t c f d k ∙ ap (λ l. l ++ element_rows (items_from t f.next)) (sym (rows-one f.kind (line (drop f.at t)) k)))

all-front : {P : Row → Type 0} (qs us : List Row) → All P (qs ++ us) → All P qs × All P us
all-front [] us h = (none, h)
all-front (q ∷ qs) us (both p h) = let r = all-front qs us h in (both p r.0, r.1)

-- ---- the pass
abbrev pub Fresh : Tally → List ℕ → Type 0
Fresh z b = (z.taken ≡ 0) × (z.count ≤ 800) × (64000 ≤ length b)

pub record Keeps (level : ℕ) (t : List ℕ) (z : Tally) (b : List ℕ) (s : Tally) (a : List ℕ) (c : Cursor) : Type 0 where
  pub done : List Given
  pub out : ℕ
  pub moved : Moved done out z b s a
  pub all-given : taken_in level t ≡ done ++ givens_of level value_of (nodes_in t) (element_rows (items_from t c))
  pub all-passed : passed_in t ≡ out + passed_of (element_rows (items_from t c))
  pub fit : All (λ r. id_of r < 4294967296) (element_rows (items_from t c))
  pub few : s.passed ≤ c.at

module _ (level : ℕ) (t : List ℕ) (z : Tally) (b : List ℕ) where
  pub keeps-start : (c : Cursor)
      → z.passed ≡ 0
      → All (λ r. id_of r < 4294967296) (elements_in t)
      → items_in t ≡ items_from t c
      → Keeps level t z b z b c
  keeps-start c p h e =
      record {
        done = [];
        out = 0;
        moved = moved_none z b;
        all-given = ap (λ l. givens_of level value_of (nodes_in t) (element_rows l)) e;
        all-passed = ap (λ l. passed_of (element_rows l)) e ∙ omega arith;
        fit = subst (λ l. All (λ q. id_of q < 4294967296) (element_rows l)) e h;
        few = omega arith;
      }

  module _ (h : Fresh z b) {s : Tally} {a : List ℕ} {c : Cursor} (k : Keeps level t z b s a c) where
    pub keeps-room : 80 * (z.taken + length k.done) ≤ length b
    keeps-room = omega (arith, h.0, h.1, h.2, passes-few h.1 k.moved.passes)

    -- the row that is read
    module _ (f : Found) (d : Reads 2 t c f) (n : f.kind ≡ 0 → ⊥) where
      abbrev row : Row
      row = line (drop f.at t)

      abbrev here : List Given
      here = givens_of level value_of (nodes_in t) (rows_of f.kind row)

      abbrev rest : List Given
      rest = givens_of level value_of (nodes_in t) (element_rows (items_from t f.next))

      pub keeps-fit : f.kind ≡ 2 → id_of row < 4294967296
      keeps-fit e = all_head (subst (All (λ q. id_of q < 4294967296)) (elements-element t c f d e) k.fit)
        where
          all_head : {q : Row} {qs : List Row} → All (λ p. id_of p < 4294967296) (q ∷ qs) → id_of q < 4294967296
          all_head (both p a) = p

      given-here : taken_in level t ≡ (k.done ++ here) ++ rest
      given-here =
          k.all-given
          ∙ ap (λ l. k.done ++ givens_of level value_of (nodes_in t) l) (rows_left t c f d n)
          ∙ ap (λ l. k.done ++ l) (givens-append level value_of (nodes_in t) (rows_of f.kind row) (element_rows (items_from t f.next)))
          ∙ sym (append_assoc k.done here rest)

      passed_here : passed_in t ≡ k.out + passed_of (rows_of f.kind row) + passed_of (element_rows (items_from t f.next))
      passed_here =
          let e = k.all-passed ∙ ap (λ l. k.out + passed_of l) (rows_left t c f d n) in
          let g = passed-append (rows_of f.kind row) (element_rows (items_from t f.next)) in
          omega (arith, e, g)

      pub keeps-next : {u : Tally} {v : List ℕ}
          → Moved here (passed_of (rows_of f.kind row)) s a u v
          → Keeps level t z b u v f.next
      keeps-next {u} {v} m =
          let p = passes_append k.moved.carried k.moved.passes m.passes in
          let q = passed-one f.kind row in
          let room : 80 * (z.taken + length k.done + length here) ≤ length b = omega (arith, h.0, h.1, h.2, passes-few h.1 p, length-append k.done here) in
          record {
            done = k.done ++ here;
            out = k.out + passed_of (rows_of f.kind row);
            moved = moved_more k.moved m room;
            all-given = given-here;
            all-passed = passed_here;
            fit = (all-front (rows_of f.kind row) (element_rows (items_from t f.next)) (subst (All (λ x. id_of x < 4294967296)) (rows_left t c f d n) k.fit)).1;
            few = omega (arith, m.left_out, k.few, q, d.onwards n);
          }

      pub keeps-halted : {e : ℕ} {v : List ℕ} → Halted here s a e v → Halted (taken_in level t) z b e v
      keeps-halted {e} {v} q =
          subst (λ l. Halted l z b e v) (sym given-here) (halted-front rest (moved-halted k.moved q keeps-room))

    pub keeps-end : element_rows (items_from t c) ≡ [] → Moved (taken_in level t) (passed_in t) z b s a
    unfolding givens_of passed_of
    keeps-end l =
        let g = k.all-given ∙ ap (λ qs. k.done ++ givens_of level value_of (nodes_in t) qs) l ∙ append-nil k.done in
        let p : passed_in t ≡ k.out = k.all-passed ∙ ap (λ qs. k.out + passed_of qs) l ∙ omega arith in
        subst (λ n. Moved (taken_in level t) n z b s a) (sym p) (subst (λ gs. Moved gs k.out z b s a) (sym g) k.moved)
