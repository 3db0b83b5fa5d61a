-- A text is of the form exactly if the walk over its rows says so.
--   Reached s q    == the walk from the state s on ends well, and its items are good rows
--   within-back, passing-back, back : a walk that ends well has gone over sections
--   form-true, form_of : form_b is Form
-- Assumes nothing.
use mathlib.Core.Path.{◌≡◌, refl, sym, ap, ◌∙◌, subst}
use mathlib.Core.Bool.{Bool, true, false, ◌&&◌, cond, true≢false}
use mathlib.Core.List.Memᴰ
use mathlib.Core.List.{List, [], ◌∷◌, ◌++◌, Memᴰ}
use mathlib.Core.Logic.{⊎_elim}
use Prim.Native.Nat.{ℕ, zero, suc, ◌≤◌, ◌<◌}
use native.Mathlib.Omega.{arith}
use borrow.Author.Tests.{ltb-true}
use lib.Dec.{ltb}
use lib.ListN.{length, length-append}
use Rattle.mesh_text.specs.Rows.{All, none, both, first, rest, is_nil, rows, Pairs, no_pairs, pair}
use Rattle.mesh_text.specs.Words.{Number}
use Rattle.mesh_text.specs.Tests.{same_b, number_of}
use Rattle.mesh_text.proofs.Rows.{by-test}
use Rattle.mesh_text.proofs.Grammar.{and_both, and-of, same_true, number-true}
use Rattle.mesh_form.specs.Mesh.{Row, mark, ended, format, nodes, elements, Node, Element, FormatRow, NodeRow, ElementRow, counted, Other, Form}
use Rattle.mesh_form.specs.Told.{Told, over, format_section, nodes_section, elements_section, other_section}
use Rattle.mesh_form.specs.Walk.{State, outside, before_format, behind_format, before_count, within, passing, bad, Item, step, items_at, final, items, opened, mark_b, end_b, format_b, node_b, element_b, named, name_of, all_b, done_b, form_b}
use Rattle.mesh_form.proofs.Steps.{opened-format, opened-nodes, opened-elements, opened-other}
use Rattle.mesh_form.proofs.Marks.{end-refl, end-true, false-other, mark-true, format-true}
use Rattle.mesh_form.proofs.RowTests.{node_of, node-true, element-of, element-true, missing}
use Rattle.mesh_form.proofs.Told.{form-told, told-form}
use Rattle.mesh_form.proofs.Unique.{Readings, none_read, node-read, element-read, Walks, sections-walk}

-- ---- from sections to the walk
readings-all : {l : List Item} {ns : List Node} {es : List Element} → Readings l ns es → all_b l ≡ true
unfolding all_b
readings-all none_read = refl
readings-all (node-read {r} h k) = and-of (node_b r) _ (node_of h) (readings-all k)
readings-all (element-read {r} h k) = and-of (element_b r) _ (element-of h) (readings-all k)

pub form_of : (t : List ℕ) {ns : List Node} {es : List Element} → Form t ns es → form_b (rows t) ≡ true
unfolding Walks done_b
form_of t h =
    let w = sections-walk (form-told h) in
    and-of (all_b (items (outside false) (rows t))) _ (readings-all w.1) (ap done_b w.0)

-- ---- from the walk to sections
record Reached (s : State) (q : List Row) : Type 0 where
  pub done : done_b (final s q) ≡ true
  pub good : all_b (items s q) ≡ true

reached-row : (s u : State) (r : Row) (q : List Row) → items_at s r ≡ [] → step s r ≡ u → Reached s (r ∷ q) → Reached u q
unfolding final items
reached-row s u r q i e h =
    record {
      done = ap (λ v. done_b (final v q)) (sym e) ∙ h.done;
      good = ap all_b (ap (λ v. items v q) (sym e) ∙ ap (λ l. l ++ items (step s r) q) (sym i)) ∙ h.good;
    }

final-bad : (q : List Row) → final bad q ≡ bad
unfolding final step
final-bad [] = refl
final-bad (r ∷ q) = final-bad q

reached-bad : (q : List Row) → Reached bad q → ⊥
unfolding done_b
reached-bad q h = true≢false (sym h.done ∙ ap done_b (final-bad q))

good_b : Bool → Row → Bool
good_b k r = cond k (node_b r) (element_b r)

-- the rows of a section, and its end
record Split (k : Bool) (n : ℕ) (q : List Row) : Type 0 where
  pub rs : List Row
  pub behind : List Row
  pub parted : q ≡ rs ++ (ended (named k) ∷ behind)
  pub count : length rs ≡ n
  pub good : All (λ r. good_b k r ≡ true) rs
  pub after : Reached (outside true) behind

within-back : (k : Bool) (n : ℕ) (q : List Row) → Reached (within k n) q → Split k n q
unfolding items_at step done_b final items all_b good_b
within-back k zero [] h = absurd (true≢false (sym h.done))
within-back k (suc n) [] h = absurd (true≢false (sym h.done))
within-back k zero (r ∷ q) h =
    by-test (end_b (named k) r) (Split k zero (r ∷ q))
    (λ e. record {
      rs = [];
      behind = q;
      parted = ap (λ x. x ∷ q) (end-true (named k) r e);
      count = refl;
      good = none;
      after = reached-row (within k zero) (outside true) r q refl (ap (λ b. cond b (outside true) bad) e) h;
    })
    (λ e. absurd (reached-bad q (reached-row (within k zero) bad r q refl (ap (λ b. cond b (outside true) bad) e) h)))
within-back k (suc n) (r ∷ q) h =
    let a = and_both (cond k (node_b r) (element_b r)) (all_b (items (within k n) q)) h.good in
    let ih = within-back k n q (record { done = h.done; good = a.1 }) in
    record {
      rs = r ∷ ih.rs;
      behind = ih.behind;
      parted = ap (λ l. r ∷ l) ih.parted;
      count = ap suc ih.count;
      good = both a.0 ih.good;
      after = ih.after;
    }

-- a section that is passed over
record Passed (s : Bool) (x : List ℕ) (q : List Row) : Type 0 where
  pub body : List Row
  pub behind : List Row
  pub parted : q ≡ body ++ (ended x ∷ behind)
  pub not_in : ¬ Memᴰ (ended x) body
  pub after : Reached (outside s) behind

passing-back : (s : Bool) (x : List ℕ) (q : List Row) → Reached (passing s x) q → Passed s x q
unfolding items_at step done_b final
passing-back s x [] h = absurd (true≢false (sym h.done))
passing-back s x (r ∷ q) h =
    by-test (end_b x r) (Passed s x (r ∷ q))
    (λ e. record {
      body = [];
      behind = q;
      parted = ap (λ y. y ∷ q) (end-true x r e);
      not_in = λ m. Memᴰ.not-nil m;
      after = reached-row (passing s x) (outside s) r q refl (ap (λ b. cond b (outside s) (passing s x)) e) h;
    })
    (λ e. let ih = passing-back s x q (reached-row (passing s x) (passing s x) r q refl (ap (λ b. cond b (outside s) (passing s x)) e) h) in
    record {
      body = r ∷ ih.body;
      behind = ih.behind;
      parted = ap (λ l. r ∷ l) ih.parted;
      not_in = λ m. ⊎_elim (λ i. true≢false (sym (end-refl x) ∙ ap (end_b x) i ∙ e)) ih.not_in (Memᴰ.cases_cons m);
      after = ih.after;
    })

-- rows that are good are rows of something
node-pairs : {rs : List Row} → All (λ r. good_b true r ≡ true) rs → (xs : List Node) × Pairs NodeRow rs xs
unfolding good_b
node-pairs none = ([], no_pairs)
node-pairs (both {a = r} h k) =
    let n = node-true r h in let ih = node-pairs k in (n.0 ∷ ih.0, pair n.1 ih.1)

element-pairs : {rs : List Row} → All (λ r. good_b false r ≡ true) rs → (xs : List Element) × Pairs ElementRow rs xs
unfolding good_b
element-pairs none = ([], no_pairs)
element-pairs (both {a = r} h k) =
    let n = element-true r h in let ih = element-pairs k in (n.0 ∷ ih.0, pair n.1 ih.1)

abbrev Sectioned : Bool → List Row → Type 0
Sectioned s q = (ns : List Node) × ((es : List Element) × Told s q ns es)

-- what a mark opens; the rows behind the section are read by `ih`
module _ (m : ℕ) (ih : (s : Bool) (q : List Row) → length q ≤ m → Reached (outside s) q → Sectioned s q) where
  back-format : (s : Bool) (q : List Row) → length q ≤ m → Reached before_format q → Sectioned s (mark format ∷ q)
  unfolding items_at step done_b final
  back-format s [] l h = absurd (true≢false (sym h.done))
  back-format s (r ∷ q) l h =
      by-test (format_b r) (Sectioned s (mark format ∷ r ∷ q))
      (λ e. behind q l (reached-row before_format behind_format r q refl (ap (λ b. cond b behind_format bad) e) h) (format-true r e))
      (λ e. absurd (reached-bad q (reached-row before_format bad r q refl (ap (λ b. cond b behind_format bad) e) h)))
    where
      behind : (q : List Row) → suc (length q) ≤ m → Reached behind_format q → FormatRow r → Sectioned s (mark format ∷ r ∷ q)
      behind [] l h f = absurd (true≢false (sym h.done))
      behind (u ∷ q) l h f =
          by-test (end_b format u) (Sectioned s (mark format ∷ r ∷ u ∷ q))
          (λ e. let w = ih true q (omega arith) (reached-row behind_format (outside true) u q refl (ap (λ b. cond b (outside true) bad) e) h) in
          (w.0, (w.1.0, subst (λ x. Told s (mark format ∷ r ∷ x ∷ q) w.0 w.1.0) (sym (end-true format u e)) (format_section f w.1.1))))
          (λ e. absurd (reached-bad q (reached-row behind_format bad u q refl (ap (λ b. cond b (outside true) bad) e) h)))

  -- a count, and the rows behind it
  counted-rows : (k : Bool) (r : Row) (q : List Row) → Reached (before_count k) (r ∷ q) → (c : List ℕ) × ((r ≡ c ∷ []) × (Number c (number_of c) × Split k (number_of c) q))
  unfolding items_at step
  counted-rows k r q h =
      by-test (is_nil (rest r) && ltb (number_of (first r)) 4294967296) ((c : List ℕ) × ((r ≡ c ∷ []) × (Number c (number_of c) × Split k (number_of c) q)))
      (λ e. let a = and_both (is_nil (rest r)) (ltb (number_of (first r)) 4294967296) e in
      one r a.0 (ltb-true (number_of (first r)) 4294967296 a.1)
      (within-back k (number_of (first r)) q (reached-row (before_count k) (within k (number_of (first r))) r q refl (ap (λ b. cond b (within k (number_of (first r))) bad) e) h)))
      (λ e. absurd (reached-bad q (reached-row (before_count k) bad r q refl (ap (λ b. cond b (within k (number_of (first r))) bad) e) h)))
    where
      one : (r : Row) → is_nil (rest r) ≡ true → number_of (first r) < 4294967296 → Split k (number_of (first r)) q
          → (c : List ℕ) × ((r ≡ c ∷ []) × (Number c (number_of c) × Split k (number_of c) q))
      one [] e l s = absurd (missing l)
      one (c ∷ []) e l s = (c, (refl, (number-true c l, s)))
      one (c ∷ d ∷ r) e l s = absurd (true≢false (sym e))

  back-nodes : (q : List Row) → length q ≤ m → Reached (before_count true) q → Sectioned true (mark nodes ∷ q)
  unfolding done_b final
  back-nodes [] l h = absurd (true≢false (sym h.done))
  back-nodes (r ∷ q) l h =
      let a = counted-rows true r q h in
      let s = a.1.1.1 in
      let p = node-pairs s.good in
      let w = ih true s.behind (omega (arith, ap length s.parted, length-append s.rs (ended nodes ∷ s.behind))) s.after in
      let e : r ∷ q ≡ ((a.0 ∷ []) ∷ s.rs) ++ (ended nodes ∷ s.behind) = ap (λ x. x ∷ q) a.1.0 ∙ ap (λ x. (a.0 ∷ []) ∷ x) s.parted in (
        p.0 ++ w.0,
        (
          w.1.0,
          subst (λ x. Told true (mark nodes ∷ x) (p.0 ++ w.0) w.1.0) (sym e)
              (nodes_section (counted (subst (Number a.0) (sym s.count) a.1.1.0) p.1) w.1.1),
        ),
      )

  back-elements : (q : List Row) → length q ≤ m → Reached (before_count false) q → Sectioned true (mark elements ∷ q)
  unfolding done_b final
  back-elements [] l h = absurd (true≢false (sym h.done))
  back-elements (r ∷ q) l h =
      let a = counted-rows false r q h in
      let s = a.1.1.1 in
      let p = element-pairs s.good in
      let w = ih true s.behind (omega (arith, ap length s.parted, length-append s.rs (ended elements ∷ s.behind))) s.after in
      let e : r ∷ q ≡ ((a.0 ∷ []) ∷ s.rs) ++ (ended elements ∷ s.behind) = ap (λ x. x ∷ q) a.1.0 ∙ ap (λ x. (a.0 ∷ []) ∷ x) s.parted in (
        w.0,
        (
          p.0 ++ w.1.0,
          subst (λ x. Told true (mark elements ∷ x) w.0 (p.0 ++ w.1.0)) (sym e)
              (elements_section (counted (subst (Number a.0) (sym s.count) a.1.1.0) p.1) w.1.1),
        ),
      )

  back-other : (s : Bool) (x : List ℕ) (q : List Row) → length q ≤ m → Other x → Reached (passing s x) q → Sectioned s (mark x ∷ q)
  back-other s x q l o h =
      let p = passing-back s x q h in
      let w = ih s p.behind (omega (arith, ap length p.parted, length-append p.body (ended x ∷ p.behind))) p.after in
      (w.0, (w.1.0, subst (λ y. Told s (mark x ∷ y) w.0 w.1.0) (sym p.parted) (other_section o p.not_in w.1.1)))

  -- a section that needs a format before it
  seen : (s k : Bool) (x : List ℕ) (q : List Row) → Reached (cond s (before_count k) bad) q → (Reached (before_count k) q → Sectioned true (mark x ∷ q)) → Sectioned s (mark x ∷ q)
  seen true k x q h f = f h
  seen false k x q h f = absurd (reached-bad q h)

  back-mark : (s : Bool) (x : List ℕ) (q : List Row) → length q ≤ m → Reached (opened s x) q → Sectioned s (mark x ∷ q)
  back-mark s x q l h =
      by-test (same_b x format) (Sectioned s (mark x ∷ q))
      (λ e. subst (λ y. Sectioned s (mark y ∷ q)) (sym (same_true x format e)) (back-format s q l (subst (λ u. Reached u q) (opened-format s x e) h)))
      (λ e. by-test (same_b x nodes) (Sectioned s (mark x ∷ q))
      (λ f. subst (λ y. Sectioned s (mark y ∷ q)) (sym (same_true x nodes f)) (seen s true nodes q (subst (λ u. Reached u q) (opened-nodes s x e f) h) (back-nodes q l)))
      (λ f. by-test (same_b x elements) (Sectioned s (mark x ∷ q))
      (λ g. subst (λ y. Sectioned s (mark y ∷ q)) (sym (same_true x elements g)) (seen s false elements q (subst (λ u. Reached u q) (opened-elements s x e f g) h) (back-elements q l)))
      (λ g. back-other s x q l (record { not_format = false-other x format e; not_nodes = false-other x nodes f; not_elements = false-other x elements g }) (subst (λ u. Reached u q) (opened-other s x e f g) h))))

-- no row is left
back_none : (s : Bool) → Reached (outside s) [] → Sectioned s []
unfolding done_b final
back_none true h = ([], ([], over))
back_none false h = absurd (true≢false (sym h.done))

turn : (m : ℕ) → ((s : Bool) (q : List Row) → length q ≤ m → Reached (outside s) q → Sectioned s q)
    → (s : Bool) (q : List Row) → length q ≤ suc m → Reached (outside s) q → Sectioned s q
unfolding items_at step
turn m ih s [] l h = back_none s h
turn m ih s (r ∷ q) l h =
    by-test (mark_b r) (Sectioned s (r ∷ q))
    (λ e. subst (λ x. Sectioned s (x ∷ q)) (sym (mark-true r e))
    (back-mark m ih s (name_of r) q (omega arith) (reached-row (outside s) (opened s (name_of r)) r q refl (ap (λ b. cond b (opened s (name_of r)) bad) e) h)))
    (λ e. absurd (reached-bad q (reached-row (outside s) bad r q refl (ap (λ b. cond b (opened s (name_of r)) bad) e) h)))

none_left : (s : Bool) (q : List Row) → length q ≤ 0 → Reached (outside s) q → Sectioned s q
none_left s [] l h = back_none s h
none_left s (r ∷ q) l h = absurd (omega arith)

back : (m : ℕ) (s : Bool) (q : List Row) → length q ≤ m → Reached (outside s) q → Sectioned s q
back zero = none_left
back (suc m) = turn m (back m)

pub form-true : (t : List ℕ) → form_b (rows t) ≡ true → (ns : List Node) × ((es : List Element) × Form t ns es)
form-true t e =
    let a = and_both (all_b (items (outside false) (rows t))) (done_b (final (outside false) (rows t))) e in
    let w = back (length (rows t)) false (rows t) (omega arith) (record { done = a.1; good = a.0 }) in
    (w.0, (w.1.0, told-form w.1.1))
