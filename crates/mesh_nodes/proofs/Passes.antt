-- Rows of nodes and of elements, from a cursor on.
--   Node f, Element f == what the kind of a row found that is one says
--   by_kind        : it is the one or the other
--   nodes-left, elements-left : the first of them
-- Assumes nothing.
use mathlib.Core.Path.{◌≡◌, ap, ◌∙◌}
use mathlib.Core.List.{List, [], ◌∷◌}
use Prim.Native.Nat.{ℕ}
use native.Mathlib.Omega.{arith}
use borrow.Author.Tests.{eqb-true, eqb-false}
use lib.Dec.{eqb}
use lib.ListN.{drop}
use Rattle.mesh_text.specs.Rows.{line}
use Rattle.mesh_text.proofs.Rows.{by-test}
use Rattle.std.specs.Prelude.{None}
use Rattle.mesh_form.specs.declared.Cursor.{Cursor}
use Rattle.mesh_form.specs.declared.items.Items.{Items}
use Rattle.mesh_form.specs.Items.{Gives}
use Rattle.mesh_form.specs.Walk.{Found, items_from, node_rows, element_rows, Reads}
use Rattle.mesh_form.proofs.Passes.{left-next, left-node, left-element, gives_none}

module _ (t : List ℕ) (c : Cursor) (f : Found) (a : Reads 2 t c f) where
  pub by_kind : (P : Type 0) → (f.kind ≡ 0 → ⊥) → (f.kind ≡ 1 → P) → (f.kind ≡ 2 → P) → P
  by_kind P n one two =
      by-test (eqb f.kind 1) P (λ e. one (eqb-true f.kind 1 e))
      (λ e. let m = eqb-false f.kind 1 e in two (omega (arith, a.kinds)))

  pub nodes-node : f.kind ≡ 1 → node_rows (items_from t c) ≡ line (drop f.at t) ∷ node_rows (items_from t f.next)
  unfolding node_rows
  nodes-node e = ap node_rows (left-next t f c a ∙ left-node t f e)

  pub nodes-element : f.kind ≡ 2 → node_rows (items_from t c) ≡ node_rows (items_from t f.next)
  unfolding node_rows
  nodes-element e = ap node_rows (left-next t f c a ∙ left-element t f e)

  pub elements-node : f.kind ≡ 1 → element_rows (items_from t c) ≡ element_rows (items_from t f.next)
  unfolding element_rows
  elements-node e = ap element_rows (left-next t f c a ∙ left-node t f e)

  pub elements-element : f.kind ≡ 2 → element_rows (items_from t c) ≡ line (drop f.at t) ∷ element_rows (items_from t f.next)
  unfolding element_rows
  elements-element e = ap element_rows (left-next t f c a ∙ left-element t f e)

-- none is left
module _ (t : List ℕ) (a b : Items) (e : a.t.now ≡ t) (g : Gives a None b) where
  pub nodes-end : node_rows (items_from t a.c) ≡ []
  unfolding node_rows
  nodes-end = ap node_rows (gives_none t a b e g)

  pub elements-end : element_rows (items_from t a.c) ≡ []
  unfolding element_rows
  elements-end = ap element_rows (gives_none t a b e g)
