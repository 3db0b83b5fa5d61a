-- A text has one reading (docs/GMSH.md, G4 to G15).
--   node-unique, element-unique : a row says one thing
--   Readings is ns es == the items are rows of the nodes ns and the elements es
--   sections-walk  : the walk over sections ends well, and its items are rows of their nodes and elements
--   form-unique, mesh-unique : so there are no two readings
-- Assumes nothing.
use mathlib.Core.Path.{◌≡◌, refl, sym, ap, ◌∙◌, subst}
use mathlib.Core.Bool.{Bool, true, false, cond}
use mathlib.Core.List.{List, [], ◌∷◌, ◌++◌, Memᴰ}
use Prim.Native.Nat.{ℕ}
use lib.Dec.{ltb}
use borrow.Author.Tests.{lt-ltb}
use lib.ListN.{length, drop}
use lib.Seq.{drop_at}
use Rattle.mesh_text.specs.Rows.{first, rest, Pairs, no_pairs, pair}
use Rattle.text.specs.Writing.{reads}
use Rattle.mesh_text.specs.Words.{Number}
use Rattle.mesh_text.proofs.Rows.{by-test}
use Rattle.mesh_text.proofs.Grammar.{number-of}
use Rattle.mesh_form.specs.Mesh.{Row, mark, ended, format, nodes, elements, Node, Element, Counts, NodeRow, node_row, ElementRow, element_row, counted, Form, Mesh}
use Rattle.mesh_form.specs.Told.{Told, over, format_section, nodes_section, elements_section, other_section}
use Rattle.mesh_form.specs.Walk.{State, outside, before_format, behind_format, before_count, within, passing, bad, Item, step, items_at, final, items, opened, mark_b, end_b}
use Rattle.mesh_form.proofs.Steps.{opened-other}
use Rattle.mesh_form.proofs.Marks.{end-refl, end-true, other-false, format-of}
use Rattle.mesh_form.proofs.Told.{form-told}

-- ---- rows
counts-unique : {w : List ℕ} {n m : ℕ} → Counts w n → Counts w m → n ≡ m
counts-unique c d = c.number.value ∙ sym d.number.value

pub node-unique : {r : Row} {n m : Node} → NodeRow r n → NodeRow r m → n ≡ m
node-unique (node_row {x = x} {y = y} {z = z} c h k l) (node_row d i j o) = ap (λ n. record { number = n; x = x; y = y; z = z }) (counts-unique c d)

pairs-unique : {A B : Type 0} {P : A → B → Type 0} {l : List A} {m n : List B} → ((a : A) (b c : B) → P a b → P a c → b ≡ c) → Pairs P l m → Pairs P l n → m ≡ n
pairs-unique f no_pairs no_pairs = refl
pairs-unique f (pair {a} {b} {m = m} h k) (pair {b = c} {m = n} i j) = ap (λ x. x ∷ m) (f a b c h i) ∙ ap (λ l. c ∷ l) (pairs-unique f k j)

-- tags and numbers, parted by the count of the tags
same_parts : {A : Type 0} (ts ws us vs : List A) → length ts ≡ length us → ts ++ ws ≡ us ++ vs → ws ≡ vs
same_parts ts ws us vs e f = sym (drop_at ts ws (length ts) refl) ∙ ap (drop (length ts)) f ∙ drop_at us vs (length ts) (sym e)

same-element : {n m k l : ℕ} {ns ms : List ℕ}
    → n ≡ m
    → k ≡ l
    → ns ≡ ms
    → ◌≡◌ {A = Element} (record { number = n; type = k; nodes = ns }) (record { number = m; type = l; nodes = ms })
same-element {m = m} {k = k} {l = l} {ns = ns} en ek em =
    ap (λ x. record { number = x; type = k; nodes = ns }) en
    ∙ ap (λ x. record { number = m; type = x; nodes = ns }) ek
    ∙ ap (λ x. record { number = m; type = l; nodes = x }) em

pub element-unique : {r s : Row} {e f : Element} → ElementRow r e → ElementRow s f → r ≡ s → e ≡ f
element-unique
    (element_row {a} {b} {c} {n} {k} {ts} {ws} {ms} ca cb cc' h p q)
    (element_row {a = a'} {b = b'} {c = c'} {n = n'} {k = k'} {ts = us} {ws = vs} {ms = ms'} da db dc i p' q') eq =
    let ea : a ≡ a' = ap first eq in
    let eb : b ≡ b' = ap (λ r. first (rest r)) eq in
    let ec : c ≡ c' = ap (λ r. first (rest (rest r))) eq in
    let et : ts ++ ws ≡ us ++ vs = ap (λ r. rest (rest (rest r))) eq in
    let el : length ts ≡ length us = cc'.value ∙ ap reads ec ∙ sym dc.value in
    let ew : ws ≡ vs = same_parts ts ws us vs el et in
    let en : n ≡ n' = ca.number.value ∙ ap reads ea ∙ sym da.number.value in
    let ek : k ≡ k' = cb.number.value ∙ ap reads eb ∙ sym db.number.value in
    let em : ms ≡ ms' = pairs-unique (λ a b c. counts-unique {w = a} {n = b} {m = c}) (subst (λ l. Pairs Counts l ms) ew p) p' in
    same-element en ek em

-- ---- items
pub data Readings : List Item → List Node → List Element → Type 0 where
  none_read : Readings [] [] []
  node-read : {r : Row} {n : Node} {l : List Item} {ns : List Node} {es : List Element}
      → NodeRow r n → Readings l ns es → Readings (record { node = true; row = r } ∷ l) (n ∷ ns) es
  element-read : {r : Row} {e : Element} {l : List Item} {ns : List Node} {es : List Element}
      → ElementRow r e → Readings l ns es → Readings (record { node = false; row = r } ∷ l) ns (e ∷ es)

readings-unique : {l : List Item} {ns ms : List Node} {es fs : List Element} → Readings l ns es → Readings l ms fs → (ns ≡ ms) × (es ≡ fs)
readings-unique none_read none_read = (refl, refl)
readings-unique (node-read {ns = ns} h a) (node-read {n = m} k b) =
    let u = readings-unique a b in (ap (λ n. n ∷ ns) (node-unique h k) ∙ ap (λ l. m ∷ l) u.0, u.1)
readings-unique (element-read {es = es} h a) (element-read {e = f} k b) =
    let u = readings-unique a b in (u.0, ap (λ e. e ∷ es) (element-unique h k refl) ∙ ap (λ l. f ∷ l) u.1)

-- ---- the walk over sections
-- it ends well, and its items are read as ns and es
unfoldable pub Walks : State → List Row → List Node → List Element → Type 0
Walks s q ns es = (final s q ≡ outside true) × Readings (items s q) ns es

-- a row that is no item
walks-row : (s u : State) (r : Row) (q : List Row) (ns : List Node) (es : List Element)
    → items_at s r ≡ []
    → step s r ≡ u
    → Walks u q ns es
    → Walks s (r ∷ q) ns es
unfolding Walks final items
walks-row s u r q ns es i e w = (
  ap (λ v. final v q) e ∙ w.0,
  subst (λ l. Readings l ns es) (ap (λ v. items v q) (sym e) ∙ ap (λ l. l ++ items (step s r) q) (sym i)) w.1,
)

-- the rows of a section
walks-nodes : {rs : List Row} {xs : List Node} (q : List Row) (ns : List Node) (es : List Element)
    → Pairs NodeRow rs xs
    → Walks (within true 0) q ns es
    → Walks (within true (length rs)) (rs ++ q) (xs ++ ns) es
unfolding Walks final items items_at step
walks-nodes q ns es no_pairs w = w
walks-nodes q ns es (pair h p) w = let v = walks-nodes q ns es p w in (v.0, node-read h v.1)

walks-elements : {rs : List Row} {xs : List Element} (q : List Row) (ns : List Node) (es : List Element)
    → Pairs ElementRow rs xs
    → Walks (within false 0) q ns es
    → Walks (within false (length rs)) (rs ++ q) ns (xs ++ es)
unfolding Walks final items items_at step
walks-elements q ns es no_pairs w = w
walks-elements q ns es (pair h p) w = let v = walks-elements q ns es p w in (v.0, element-read h v.1)

count-step : (k : Bool) (c : List ℕ) (n : ℕ) → Number c n → step (before_count k) (c ∷ []) ≡ within k n
unfolding step
count-step k c n h =
    let e = number-of c n h in
    ap (λ m. cond (ltb m 4294967296) (within k m) bad) e ∙ ap (λ b. cond b (within k n) bad) (lt-ltb n 4294967296 h.small)

-- the body of a section that is passed over
walks-passed : (s : Bool) (x : List ℕ) (b q : List Row) (ns : List Node) (es : List Element)
    → ¬ Memᴰ (ended x) b
    → Walks (passing s x) q ns es
    → Walks (passing s x) (b ++ q) ns es
unfolding items_at step
walks-passed s x [] q ns es n w = w
walks-passed s x (r ∷ b) q ns es n w =
    let no : end_b x r ≡ false = by-test (end_b x r) (end_b x r ≡ false) (λ e. absurd (n (Memᴰ.head (sym (end-true x r e))))) (λ e. e) in
    walks-row (passing s x) (passing s x) r (b ++ q) ns es refl (ap (λ c. cond c (outside s) (passing s x)) no)
    (walks-passed s x b q ns es (λ m. n (Memᴰ.tail m)) w)

pub sections-walk : {s : Bool} {q : List Row} {ns : List Node} {es : List Element} → Told s q ns es → Walks (outside s) q ns es
unfolding items_at step mark_b opened end_b Walks final items
sections-walk over = (refl, none_read)
sections-walk (format_section {s} {r} {q} {ns} {es} h w) =
    walks-row (outside s) before_format (mark format) (r ∷ ended format ∷ q) ns es refl refl
    (walks-row before_format behind_format r (ended format ∷ q) ns es refl (ap (λ b. cond b behind_format bad) (format-of h))
    (walks-row behind_format (outside true) (ended format) q ns es refl refl (sections-walk w)))
sections-walk (nodes_section {q = q} {ns = ns} {es = es} (counted {c} {rs} {xs} h p) w) =
    walks-row (outside true) (before_count true) (mark nodes) ((c ∷ []) ∷ (rs ++ (ended nodes ∷ q))) (xs ++ ns) es refl refl
    (walks-row (before_count true) (within true (length rs)) (c ∷ []) (rs ++ (ended nodes ∷ q)) (xs ++ ns) es refl (count-step true c (length rs) h)
    (walks-nodes (ended nodes ∷ q) ns es p
    (walks-row (within true 0) (outside true) (ended nodes) q ns es refl refl (sections-walk w))))
sections-walk (elements_section {q = q} {ns = ns} {es = es} (counted {c} {rs} {xs} h p) w) =
    walks-row (outside true) (before_count false) (mark elements) ((c ∷ []) ∷ (rs ++ (ended elements ∷ q))) ns (xs ++ es) refl refl
    (walks-row (before_count false) (within false (length rs)) (c ∷ []) (rs ++ (ended elements ∷ q)) ns (xs ++ es) refl (count-step false c (length rs) h)
    (walks-elements (ended elements ∷ q) ns es p
    (walks-row (within false 0) (outside true) (ended elements) q ns es refl refl (sections-walk w))))
sections-walk (other_section {s} {x} {b} {q} {ns} {es} o n w) =
    walks-row (outside s) (passing s x) (mark x) (b ++ (ended x ∷ q)) ns es refl
    (opened-other s x (other-false x format o.not_format) (other-false x nodes o.not_nodes) (other-false x elements o.not_elements))
    (walks-passed s x b (ended x ∷ q) ns es n
    (walks-row (passing s x) (outside s) (ended x) q ns es refl (ap (λ c. cond c (outside s) (passing s x)) (end-refl x)) (sections-walk w)))

-- ---- one reading
pub form-unique : {t : List ℕ} {ns ms : List Node} {es fs : List Element} → Form t ns es → Form t ms fs → (ns ≡ ms) × (es ≡ fs)
unfolding Walks
form-unique a b = readings-unique (sections-walk (form-told a)).1 (sections-walk (form-told b)).1

pub mesh-unique : {t : List ℕ} {ns ms : List Node} {es fs : List Element} → Mesh t ns es → Mesh t ms fs → (ns ≡ ms) × (es ≡ fs)
mesh-unique a b = form-unique a.form b.form
