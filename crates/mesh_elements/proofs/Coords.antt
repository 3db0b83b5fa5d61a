-- The coordinates of an element's row, two a turn.
--   coord-x, coord-y : x and y of our node k
--   name-is        : its number
--   fill-two       : both stored
--   listed-sized, listed-few, listed-small : the places in Gmsh's order, as many as the type has nodes, nine at most, each below nine
-- Assumes nothing.
use mathlib.Core.Path.{◌≡◌, ap, ◌∙◌, subst}
use mathlib.Core.List.{List}
use Prim.Native.Nat.{ℕ, ◌+◌, ◌*◌, ◌/◌, ◌%◌, ◌<◌, ◌≤◌}
use native.Mathlib.Omega.{arith}
use lib.IntN.{ℤ}
use Rattle.mesh_form.specs.Mesh.{Row}
use lib.ListN.{get_or, set, length}
use Rattle.algebra.specs.Fill.{Filled}
use Rattle.algebra.proofs.Fill.{fill_more}
use Rattle.mesh_form.specs.Values.{word, type_of, nine, size_of_type}
use Rattle.mesh_form.proofs.Said.{size_small}
use Rattle.mesh_nodes.specs.Nodes.{row_of}
use Rattle.mesh_elements.specs.Orders.{order}
use Rattle.mesh_elements.proofs.Orders.{order-sized, order-some, order_small}
use Rattle.mesh_elements.specs.Rows.{name_of, coord_of}

module _ (v : List ℕ → ℤ) (rs : List Row) (r : Row) (k : ℕ) where
  pub coord-x : (q : Row) → q ≡ row_of (name_of r k) rs → v (word q 1) ≡ coord_of v rs r (2 * k)
  unfolding coord_of
  coord-x q e =
      let h : k ≡ 2 * k / 2 = omega arith in
      let m : 1 ≡ 1 + 2 * k % 2 = omega arith in
      ap (λ p. v (word p 1)) e
      ∙ ap (λ i. v (word (row_of (name_of r i) rs) 1)) h
      ∙ ap (λ i. v (word (row_of (name_of r (2 * k / 2)) rs) i)) m

  pub coord-y : (q : Row) → q ≡ row_of (name_of r k) rs → v (word q 2) ≡ coord_of v rs r (2 * k + 1)
  unfolding coord_of
  coord-y q e =
      let h : k ≡ (2 * k + 1) / 2 = omega arith in
      let m : 2 ≡ 1 + (2 * k + 1) % 2 = omega arith in
      ap (λ p. v (word p 2)) e
      ∙ ap (λ i. v (word (row_of (name_of r i) rs) 2)) h
      ∙ ap (λ i. v (word (row_of (name_of r ((2 * k + 1) / 2)) rs) i)) m

-- the number of our node k, read from a row
pub name-is : (r : Row) (names : List ℕ) (kind j k : ℕ) → names ≡ nine r → kind ≡ type_of r → j ≡ get_or (order kind) k 0 → get_or names j 0 ≡ name_of r k
unfolding name_of
name-is r names kind j k e f g =
    ap (λ l. get_or l j 0) e ∙ ap (λ i. get_or (nine r) i 0) (g ∙ ap (λ n. get_or (order n) k 0) f)

-- two numbers more
pub fill-two : {n : ℕ} (k : ℕ) {f : ℕ → ℤ} {l : List ℤ} {x y : ℤ} → Filled n (2 * k) f l → 2 * k + 1 < n → x ≡ f (2 * k) → y ≡ f (2 * k + 1)
    → Filled n (2 * (k + 1)) f (set (set l (2 * k) x) (2 * k + 1) y)
fill-two {n} k {f} {l} {x} {y} p h a b =
    let two : 2 * k + 1 + 1 ≡ 2 * (k + 1) = omega arith in
    subst (λ m. Filled n m f (set (set l (2 * k) x) (2 * k + 1) y)) two (fill_more (fill_more p (omega arith) a) h b)

-- the places in Gmsh's order
module _ (k : ℕ) (l : List ℕ) (e : l ≡ order k) where
  pub listed-sized : length l ≡ size_of_type k
  listed-sized = ap length e ∙ order-sized k

  pub listed-few : length l ≤ 9
  listed-few = omega (arith, listed-sized, size_small k)

  pub listed-small : (i : ℕ) → i < length l → get_or l i 0 < 9
  listed-small i h = omega (arith, order_small k i (order-some k i (omega (arith, ap length e))), ap (λ m. get_or m i 0) e)
