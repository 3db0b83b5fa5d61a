-- Code 14: what is tested of the node rows is what it says of the nodes (docs/GMSH.md, G17).
--   flat-true, flat-of : of one row
--   flats-true, flats-all : where the test is true, each node is flat, and none is not
--   flats-false, flats-of : where it is false, some node is not flat; where there is none, it is true
-- Assumes nothing.
use mathlib.Core.Path.{◌≡◌, refl, sym, ap, ◌∙◌, subst}
use mathlib.Core.Bool.{true, false, ◌&&◌, true≢false}
use mathlib.Core.List.{List, ◌∷◌, Memᴰ}
use Prim.Native.Nat.{ℕ}
use Rattle.mesh_text.specs.Tests.{value_of, whole_b, zero_b}
use Rattle.mesh_text.proofs.Rows.{by-test}
use Rattle.mesh_text.proofs.Grammar.{and_both, and-of, whole-true, whole_of, zero-true, zero_of}
use Rattle.mesh_text.specs.Rows.{Pairs, no_pairs, pair}
use Rattle.mesh_form.specs.Mesh.{Row, Node, Element, NodeRow, node_row, Form}
use Rattle.mesh_nodes.specs.Nodes.{flat_b, flats_b, nodes_in}
use Rattle.mesh_elements.specs.Takings.{Flat, NotFlat}
use Rattle.mesh_elements.proofs.Rows.{form-nodes}

-- ---- a row
pub flat-true : {r : Row} {n : Node} → NodeRow r n → flat_b r ≡ true → Flat n
unfolding flat_b
flat-true (node_row {x = x} {y = y} {z = z} c h k l) e =
    let a = and_both (whole_b x) (whole_b y && zero_b z) e in
    let b = and_both (whole_b y) (zero_b z) a.1 in
    record {
      x_whole = (value_of x, whole-true x a.0);
      y_whole = (value_of y, whole-true y b.0);
      z_zero = zero-true z b.1;
    }

pub flat-of : {r : Row} {n : Node} → NodeRow r n → Flat n → flat_b r ≡ true
unfolding flat_b
flat-of (node_row {x = x} {y = y} {z = z} c h k l) f =
    and-of (whole_b x) (whole_b y && zero_b z) (whole_of f.x_whole.1).0
    (and-of (whole_b y) (zero_b z) (whole_of f.y_whole.1).0 (zero_of z f.z_zero))

-- ---- rows
rows_true : {rs : List Row} {ns : List Node} → Pairs NodeRow rs ns → flats_b rs ≡ true → {n : Node} → Memᴰ n ns → Flat n
unfolding flats_b
rows_true no_pairs e {n = n} m = elim m [ ]
rows_true (pair {a = r} {l = rs} h p) e (Memᴰ.head i) = subst Flat (sym i) (flat-true h (and_both (flat_b r) (flats_b rs) e).0)
rows_true (pair {a = r} {l = rs} h p) e (Memᴰ.tail m) = rows_true p (and_both (flat_b r) (flats_b rs) e).1 m

rows-false : {rs : List Row} {ns : List Node} → Pairs NodeRow rs ns → flats_b rs ≡ false → NotFlat ns
unfolding flats_b
rows-false no_pairs e = absurd (true≢false e)
rows-false (pair {a = r} {b = n} {l = rs} {m = ns} h p) e =
    by-test (flat_b r) (NotFlat (n ∷ ns))
    (λ i. let w = rows-false p (ap (λ b. b && flats_b rs) (sym i) ∙ e) in (w.0, (Memᴰ.tail w.1.0, w.1.1)))
    (λ i. (n, (Memᴰ.head refl, λ f. true≢false (sym (flat-of h f) ∙ i))))

-- ---- of a text
module _ {t : List ℕ} {ns : List Node} {es : List Element} (h : Form t ns es) where
  pub flats-true : flats_b (nodes_in t) ≡ true → (n : Node) → Memᴰ n ns → Flat n
  flats-true e n m = rows_true (form-nodes h) e m

  pub flats-false : flats_b (nodes_in t) ≡ false → NotFlat ns
  flats-false e = rows-false (form-nodes h) e

  pub flats-of : ¬ NotFlat ns → flats_b (nodes_in t) ≡ true
  flats-of f = by-test (flats_b (nodes_in t)) (flats_b (nodes_in t) ≡ true) (λ e. e) (λ e. absurd (f (flats-false e)))

  pub flats-all : flats_b (nodes_in t) ≡ true → ¬ NotFlat ns
  flats-all e w = w.1.1 (flats-true e w.0 w.1.0)
