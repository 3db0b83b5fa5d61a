-- A pass over the items of a text, one after the other.
--   kind-some      : a row of nodes or elements is one
--   text_kept, gives-reads : what an iterator over the text gives, as what is read there
--   left t f       == the items from the row found on
--   left-start, left-next : all of a text, and those behind a row
--   left_end       : none are left
--   start-items, gives_none : an iterator over a text begins with all; where it gives none, none are left
--   left-node, left-element : the first of them, by the kind of the row found
-- Assumes nothing.
use mathlib.Core.Path.{◌≡◌, refl, sym, ap, ◌∙◌, subst}
use mathlib.Core.Bool.{true, false}
use mathlib.Core.List.{List, [], ◌∷◌, ◌++◌}
use Prim.Native.Nat.{ℕ}
use lib.ListN.{drop}
use Rattle.mesh_text.specs.Rows.{line}
use Rattle.mesh_form.specs.declared.Cursor.{Cursor}
use Rattle.mesh_form.specs.declared.Part.TheVariants.{Outside}
use Rattle.std.specs.Prelude.{Option, None}
use native.Mathlib.Omega.{arith}
use Rattle.mesh_form.specs.declared.Kind.{Kind}
use Rattle.mesh_form.specs.declared.Kind.TheVariants.{Node, Element}
use Rattle.mesh_form.specs.declared.Item.{Item}
use Rattle.mesh_form.specs.declared.items.Items.{Items}
use Rattle.mesh_form.specs.Items.{Gives, found_item}
use Rattle.mesh_form.specs.Walk.{Found, kind_number, Item as RowItem, items, items_of, items_from, items_in, meaning, Reads}

-- a row of nodes or elements is one
pub kind-some : (k : Kind) → kind_number k ≡ 0 → ⊥
kind-some Node e = absurd (omega arith)
kind-some Element e = absurd (omega arith)

-- what an iterator over the text gives, as what is read there
module _ (t : List ℕ) (a b : Items) (i : Option Item) (e : a.t.now ≡ t) (g : Gives a i b) where
  pub text_kept : b.t.now ≡ t
  text_kept = ap (λ x. x.now) g.same ∙ e

  pub gives-reads : Reads 2 t a.c (found_item i b.c)
  gives-reads = subst (λ x. Reads 2 x a.c (found_item i b.c)) e g.reads

unfoldable pub left : List ℕ → Found → List RowItem
left t f = items_of f.kind (line (drop f.at t)) ++ items_from t f.next

module _ (t : List ℕ) (f : Found) where
  pub left-next : {m : ℕ} (c : Cursor) → Reads m t c f → items_from t c ≡ left t f
  unfolding left
  left-next c a = a.rest_items

  pub left-start : {m : ℕ} → Reads m t (record { at = 0; part = Outside false }) f → items_in t ≡ left t f
  unfolding left meaning
  left-start a = a.rest_items

  pub left_end : {m : ℕ} (c : Cursor) → Reads m t c f → f.kind ≡ 0 → left t f ≡ []
  unfolding left items
  left_end c a e =
      ap (λ k. items_of k (line (drop f.at t)) ++ items_from t f.next) e
      ∙ ap (items (meaning t f.next.part)) (a.none_left e)

  pub left-node : f.kind ≡ 1 → left t f ≡ record { node = true; row = line (drop f.at t) } ∷ items_from t f.next
  unfolding left
  left-node e = ap (λ k. items_of k (line (drop f.at t)) ++ items_from t f.next) e

  pub left-element : f.kind ≡ 2 → left t f ≡ record { node = false; row = line (drop f.at t) } ∷ items_from t f.next
  unfolding left
  left-element e = ap (λ k. items_of k (line (drop f.at t)) ++ items_from t f.next) e

-- ---- a pass by an iterator
pub start-items : (t : List ℕ) (a : Items) → a.c ≡ record { at = 0; part = Outside false } → items_in t ≡ items_from t a.c
unfolding meaning
start-items t a e = ap (items_from t) (sym e)

pub gives_none : (t : List ℕ) (a b : Items) → a.t.now ≡ t → Gives a None b → items_from t a.c ≡ []
gives_none t a b e g =
    let r = gives-reads t a b None e g in
    left-next t _ a.c r ∙ left_end t _ a.c r refl
