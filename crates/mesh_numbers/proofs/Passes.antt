-- A pass over the rows of a text.
--   gather-app     : the numbers of items and of further items
--   node_row, other_row, wanted-row, unwanted-row, wanted-size : the numbers of a row, by its kind
--   marks-nil, marks-one, marks-join : marking no number, one, and one list and then another
--   looks-nil, looks-one, looks-join, looks-more : looking them up
--   marked-looks   : look-ups behind a pass of marks
--   marks-on, looks_on : a row, and what is behind it
-- Assumes nothing.
use mathlib.Core.Path.{◌≡◌, refl, sym, ap, ◌∙◌, subst}
use mathlib.Core.Bool.{true, false, ◌||◌, cond, or-false, or_assoc}
use mathlib.Core.List.{List, [], ◌∷◌, ◌++◌, append-nil, append_assoc}
use Prim.Native.Nat.{ℕ, ◌+◌, ◌<◌, min}
use native.Mathlib.Numerals.{add-one}
use borrow.Author.Tests.{eq-eqb, ne_eqb}
use lib.Dec.{eqb, ltb}
use lib.ListN.{length, get_or, take, drop}
use lib.Seq.{take-suc}
use Rattle.mesh_text.specs.Rows.{line}
use Rattle.mesh_text.proofs.Rows.{by-test}
use Rattle.mesh_form.specs.declared.Cursor.{Cursor}
use Rattle.mesh_form.specs.Mesh.{Row}
use Rattle.mesh_form.specs.Values.{id_of, type_of, size_of_type, nine, wanted_of}
use Rattle.mesh_form.specs.Walk.{Found, Item, items_of, items_from, Reads}
use Rattle.mesh_numbers.specs.declared.Pass.{Pass}
use Rattle.mesh_numbers.specs.Bits.{width}
use Rattle.mesh_numbers.specs.Numbers.{gather, node_number, wanted_by}
use Rattle.mesh_numbers.specs.Windows.{marked_b, marks, marks_all, dup_b, lack_b, lacks_b, above_b, start, Marks, Looks, Lacks}
use Rattle.mesh_numbers.proofs.Flags.{marks-all-width}

-- ---- numbers of items
pub gather-app : (g : Item → List ℕ) (l m : List Item) → gather g (l ++ m) ≡ gather g l ++ gather g m
unfolding gather
gather-app g [] m = refl
gather-app g (i ∷ l) m = ap (λ x. g i ++ x) (gather-app g l m) ∙ sym (append_assoc (g i) (gather g l) (gather g m))

module _ (k : ℕ) (r : Row) where
  node : Item
  node = record { node = true; row = r }

  element : Item
  element = record { node = false; row = r }

  kind-one : k ≡ 1 → items_of k r ≡ node ∷ []
  unfolding node
  kind-one h = ap (λ b. cond b (node ∷ []) (cond (eqb k 2) (record { node = false; row = r } ∷ []) [])) (eq-eqb k 1 h)

  pub node_row : k ≡ 1 → gather node_number (items_of k r) ≡ id_of r ∷ []
  unfolding gather node_number node
  node_row h = ap (gather node_number) (kind-one h)

  pub other_row : (k ≡ 1 → ⊥) → gather node_number (items_of k r) ≡ []
  unfolding gather node_number node element
  other_row h =
      ap (λ b. gather node_number (cond b (node ∷ []) (cond (eqb k 2) (element ∷ []) []))) (ne_eqb k 1 h)
      ∙ by-test (eqb k 2) (gather node_number (cond (eqb k 2) (element ∷ []) []) ≡ [])
      (λ e. ap (λ b. gather node_number (cond b (element ∷ []) [])) e)
      (λ e. ap (λ b. gather node_number (cond b (element ∷ []) [])) e)

  pub wanted-row : k ≡ 2 → gather wanted_by (items_of k r) ≡ wanted_of r
  unfolding gather wanted_by node element
  wanted-row h =
      ap (λ n. gather wanted_by (items_of n r)) h ∙ append-nil (wanted_of r)

  pub unwanted-row : (k ≡ 2 → ⊥) → gather wanted_by (items_of k r) ≡ []
  unfolding gather wanted_by node element
  unwanted-row h =
      ap (λ b. gather wanted_by (cond (eqb k 1) (node ∷ []) (cond b (element ∷ []) []))) (ne_eqb k 2 h)
      ∙ by-test (eqb k 1) (gather wanted_by (cond (eqb k 1) (node ∷ []) []) ≡ [])
      (λ e. ap (λ b. gather wanted_by (cond b (node ∷ []) [])) e)
      (λ e. ap (λ b. gather wanted_by (cond b (node ∷ []) [])) e)

-- the numbers of a row of ours are the first of nine
pub wanted-size : (r : Row) (size : ℕ) → size ≡ size_of_type (type_of r) → wanted_of r ≡ take size (nine r)
unfolding wanted_of
wanted-size r size e = ap (λ k. take k (nine r)) (sym e)

-- ---- one list of numbers and then another
dup-app : (base : ℕ) (fs l m : List ℕ) → dup_b base fs (l ++ m) ≡ (dup_b base fs l || dup_b base (marks_all base fs l) m)
unfolding dup_b marks_all
dup-app base fs [] m = refl
dup-app base fs (n ∷ l) m =
    ap (λ b. marked_b base fs n || b) (dup-app base (marks base fs n) l m)
    ∙ sym (or_assoc (marked_b base fs n) (dup_b base (marks base fs n) l) (dup_b base (marks_all base (marks base fs n) l) m))

marks-app : (base : ℕ) (fs l m : List ℕ) → marks_all base fs (l ++ m) ≡ marks_all base (marks_all base fs l) m
unfolding marks_all
marks-app base fs [] m = refl
marks-app base fs (n ∷ l) m = marks-app base (marks base fs n) l m

lacks-app : (base : ℕ) (fs l m : List ℕ) → lacks_b base fs (l ++ m) ≡ (lacks_b base fs l || lacks_b base fs m)
unfolding lacks_b
lacks-app base fs [] m = refl
lacks-app base fs (n ∷ l) m = ap (λ b. lack_b base fs n || b) (lacks-app base fs l m) ∙ sym (or_assoc (lack_b base fs n) (lacks_b base fs l) (lacks_b base fs m))

above-app : (lim a : ℕ) (l m : List ℕ) → above_b lim a (l ++ m) ≡ above_b lim (above_b lim a l) m
unfolding above_b
above-app lim a [] m = refl
above-app lim a (n ∷ l) m = above-app lim (cond (ltb n lim) a (min a n)) l m

-- ---- marks
module _ (base lim : ℕ) (fs : List ℕ) (p : Pass) where
  pub marks-nil : (l : List ℕ) → l ≡ [] → Marks base lim fs p l p fs
  unfolding dup_b marks_all above_b
  marks-nil l z = subst (λ m. Marks base lim fs p m p fs) (sym z) (record { found = sym (or-false p.found); above = refl; flags = refl })

  pub marks-one : (l : List ℕ) (n : ℕ) (r : Pass) (hs : List ℕ)
      → l ≡ n ∷ []
      → r.found ≡ (p.found || marked_b base fs n)
      → r.above ≡ cond (ltb n lim) p.above (min p.above n)
      → hs ≡ marks base fs n
      → Marks base lim fs p l r hs
  unfolding dup_b marks_all above_b
  marks-one l n r hs z e f g =
      subst (λ m. Marks base lim fs p m r hs) (sym z)
      (record { found = e ∙ ap (λ b. p.found || b) (sym (or-false (marked_b base fs n))); above = f; flags = g })

  pub marks-join : (l m : List ℕ) (r s : Pass) (hs js : List ℕ)
      → Marks base lim fs p l r hs
      → Marks base lim hs r m s js
      → Marks base lim fs p (l ++ m) s js
  marks-join l m r s hs js a b =
      record {
        found =
            b.found
            ∙ ap (λ x. x || dup_b base hs m) a.found
            ∙ or_assoc p.found (dup_b base fs l) (dup_b base hs m)
            ∙ ap (λ x. p.found || (dup_b base fs l || dup_b base x m)) a.flags
            ∙ ap (λ x. p.found || x) (sym (dup-app base fs l m));
        above = b.above ∙ ap (λ x. above_b lim x m) a.above ∙ sym (above-app lim p.above l m);
        flags = b.flags ∙ ap (λ x. marks_all base x m) a.flags ∙ sym (marks-app base fs l m);
      }

  -- ---- look-ups
  pub looks-nil : (l : List ℕ) → l ≡ [] → Looks base lim fs p l p
  unfolding lacks_b above_b
  looks-nil l z = subst (λ m. Looks base lim fs p m p) (sym z) (record { found = sym (or-false p.found); above = refl })

  pub looks-one : (n : ℕ) (r : Pass)
      → r.found ≡ (p.found || lack_b base fs n)
      → r.above ≡ cond (ltb n lim) p.above (min p.above n)
      → Looks base lim fs p (n ∷ []) r
  unfolding lacks_b above_b
  looks-one n r e f = record { found = e ∙ ap (λ b. p.found || b) (sym (or-false (lack_b base fs n))); above = f }

  pub looks-join : (l m : List ℕ) (r s : Pass)
      → Looks base lim fs p l r
      → Looks base lim fs r m s
      → Looks base lim fs p (l ++ m) s
  looks-join l m r s a b =
      record {
        found =
            b.found
            ∙ ap (λ x. x || lacks_b base fs m) a.found
            ∙ or_assoc p.found (lacks_b base fs l) (lacks_b base fs m)
            ∙ ap (λ x. p.found || x) (sym (lacks-app base fs l m));
        above = b.above ∙ ap (λ x. above_b lim x m) a.above ∙ sym (above-app lim p.above l m);
      }

-- one more of a list
pub looks-more : (base lim : ℕ) (fs : List ℕ) (p q r : Pass) (ns : List ℕ) (k : ℕ)
    → k < length ns
    → Looks base lim fs p (take k ns) q
    → r.found ≡ (q.found || lack_b base fs (get_or ns k 0))
    → r.above ≡ cond (ltb (get_or ns k 0) lim) q.above (min q.above (get_or ns k 0))
    → Looks base lim fs p (take (k + 1) ns) r
looks-more base lim fs p q r ns k h a e f =
    subst (λ l. Looks base lim fs p l r) (sym (ap (λ n. take n ns) (add-one k) ∙ take-suc ns k 0 h))
    (looks-join base lim fs p (take k ns) (get_or ns k 0 ∷ []) q r a (looks-one base lim fs q (get_or ns k 0) r e f))

-- ---- marks, and then look-ups
pub marked-looks : (base : ℕ) (fs l hs w : List ℕ) (r s : Pass)
    → Marks base (base + width fs) fs start l r hs
    → Looks base (base + width hs) hs start w s
    → Lacks base fs l w s
marked-looks base fs l hs w r s a b =
    record {
      found = b.found ∙ ap (λ x. lacks_b base x w) a.flags;
      above = b.above ∙ ap (λ u. above_b (base + u) 4294967296 w) (ap width a.flags ∙ marks-all-width base fs l);
    }

-- ---- a row, and what is behind it
module _ (t : List ℕ) (c : Cursor) (f : Found) (a : Reads 2 t c f) where
  row : List Item
  row = items_of f.kind (line (drop f.at t))

  gather-on : (g : Item → List ℕ) → gather g (items_from t c) ≡ gather g row ++ gather g (items_from t f.next)
  unfolding row
  gather-on g = ap (gather g) a.rest_items ∙ gather-app g row (items_from t f.next)

  module _ (base lim : ℕ) (fs : List ℕ) (p r s : Pass) where
    pub marks-on : (hs js : List ℕ)
        → Marks base lim fs p (gather node_number (items_of f.kind (line (drop f.at t)))) r hs
        → Marks base lim hs r (gather node_number (items_from t f.next)) s js
        → Marks base lim fs p (gather node_number (items_from t c)) s js
    unfolding row
    marks-on hs js m k =
        subst (λ l. Marks base lim fs p l s js) (sym (gather-on node_number))
        (marks-join base lim fs p (gather node_number row) (gather node_number (items_from t f.next)) r s hs js m k)

    pub looks_on : Looks base lim fs p (gather wanted_by (items_of f.kind (line (drop f.at t)))) r
        → Looks base lim fs r (gather wanted_by (items_from t f.next)) s
        → Looks base lim fs p (gather wanted_by (items_from t c)) s
    unfolding row
    looks_on m k =
        subst (λ l. Looks base lim fs p l s) (sym (gather-on wanted_by))
        (looks-join base lim fs p (gather wanted_by row) (gather wanted_by (items_from t f.next)) r s m k)
