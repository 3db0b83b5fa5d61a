-- The form, item by item.
--   answer t f, answer_from t c == what is left to be tested from the row found on, and from the cursor on
--   answer-start, answer-on, answer-off, answer-end : the row found; a good row; a bad one; none is left
-- Assumes nothing.
use mathlib.Core.Path.{◌≡◌, refl, ap, ◌∙◌}
use mathlib.Core.Bool.{Bool, true, false, ◌&&◌, cond}
use mathlib.Core.List.{List, ◌++◌}
use Prim.Native.Nat.{ℕ, ◌≤◌}
use native.Mathlib.Omega.{arith}
use borrow.Author.Tests.{eqb-false, eq-eqb}
use lib.Dec.{eqb}
use lib.ListN.{drop}
use Rattle.mesh_text.specs.Rows.{line}
use Rattle.mesh_text.proofs.Rows.{by-test}
use Rattle.mesh_form.specs.declared.Cursor.{Cursor}
use Rattle.mesh_form.specs.Mesh.{Row}
use Rattle.mesh_form.specs.Walk.{Found, Item, node_b, element_b, all_b, done_b, items, final, items_of, items_from, final_from, meaning, Reads}

unfoldable pub answer : List ℕ → Found → Bool
answer t f = all_b (items_of f.kind (line (drop f.at t)) ++ items_from t f.next) && done_b (final_from t f.next)

pub answer-start : (t : List ℕ) (m : ℕ) (c : Cursor) (f : Found) → Reads m t c f → (all_b (items_from t c) && done_b (final_from t c)) ≡ answer t f
unfolding answer
answer-start t m c f a =
    ap (λ l. all_b l && done_b (final_from t c)) a.rest_items
    ∙ ap (λ s. all_b (items_of f.kind (line (drop f.at t)) ++ items_from t f.next) && done_b s) a.rest_final

-- a row of nodes or elements has one item
good_b : ℕ → Row → Bool
good_b k r = cond (eqb k 1) (node_b r) (element_b r)

item-one : (k : ℕ) (r : Row) (l : List Item) → (k ≡ 0 → ⊥) → k ≤ 2 → all_b (items_of k r ++ l) ≡ (good_b k r && all_b l)
unfolding all_b good_b
item-one k r l n h =
    by-test (eqb k 1) (all_b (items_of k r ++ l) ≡ (good_b k r && all_b l))
    (λ e. rw e refl)
    (λ e. let y = eqb-false k 1 e in let two : k ≡ 2 = omega arith in rw (e, eq-eqb k 2 two) refl)

-- the same from a cursor on
unfoldable pub answer_from : List ℕ → Cursor → Bool
answer_from t c = all_b (items_from t c) && done_b (final_from t c)

module _ (t : List ℕ) (c : Cursor) (f : Found) (a : Reads 2 t c f) where
  answer-one : (f.kind ≡ 0 → ⊥) → answer_from t c
      ≡ ((good_b f.kind (line (drop f.at t)) && all_b (items_from t f.next)) && done_b (final_from t f.next))
  unfolding answer answer_from
  answer-one n =
      answer-start t 2 c f a
      ∙ ap (λ b. b && done_b (final_from t f.next)) (item-one f.kind (line (drop f.at t)) (items_from t f.next) n a.kinds)

  pub answer-on : (f.kind ≡ 0 → ⊥)
      → cond (eqb f.kind 1) (node_b (line (drop f.at t))) (element_b (line (drop f.at t))) ≡ true
      → answer_from t c ≡ answer_from t f.next
  unfolding good_b answer_from
  answer-on n e = answer-one n ∙ ap (λ x. (x && all_b (items_from t f.next)) && done_b (final_from t f.next)) e

  pub answer-off : (f.kind ≡ 0 → ⊥)
      → cond (eqb f.kind 1) (node_b (line (drop f.at t))) (element_b (line (drop f.at t))) ≡ false
      → answer_from t c ≡ false
  unfolding good_b
  answer-off n e = answer-one n ∙ ap (λ x. (x && all_b (items_from t f.next)) && done_b (final_from t f.next)) e

  pub answer-end : f.kind ≡ 0 → answer_from t c ≡ done_b (meaning t f.next.part)
  unfolding answer answer_from items final all_b
  answer-end e =
      answer-start t 2 c f a
      ∙ ap (λ k. all_b (items_of k (line (drop f.at t)) ++ items_from t f.next) && done_b (final_from t f.next)) e
      ∙ ap (λ q. all_b (items (meaning t f.next.part) q) && done_b (final (meaning t f.next.part) q)) (a.none_left e)
