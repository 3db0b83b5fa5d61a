-- The coordinates that are read for an element of ours are those of its nodes, in our order (docs/GMSH.md, G24).
--   mem-stable     : a number that is not missing in a list is in it
--   AtRow ns n r   == the node of number n stands where the row r says
--   at_row         : the node of a number stands where its row says
--   list-points    : numbers that are the coordinates of nodes, two by two
--   names-length, name-at : an element of ours has as many nodes as its kind; those that are read are its own
--   element-points : the coordinates of an element of ours
-- Assumes nothing.
use mathlib.Core.Path.{◌≡◌, refl, sym, ap, ◌∙◌, subst}
use mathlib.Core.Bool.{cond}
use mathlib.Core.List.Memᴰ
use mathlib.Core.List.{List, [], ◌∷◌, ◌++◌, map, Memᴰ}
use mathlib.Core.Logic.{⊎_elim}
use Prim.Native.Nat.{ℕ, zero, suc, ◌+◌, ◌*◌, ◌<◌}
use native.Mathlib.Omega.{arith}
use borrow.Author.Tests.{eqb-true, eqb-false}
use lib.Dec.{eqb}
use lib.IntN.{ℤ}
use lib.ListN.{length, get_or, replicate, length-take, length-append}
use lib.Seq.{get_or-take}
use Rattle.algebra.specs.Fill.{list_to}
use Rattle.mesh_text.specs.Words.{WholeValue}
use Rattle.mesh_text.specs.Tests.{value_of}
use Rattle.mesh_text.proofs.Rows.{by-test}
use Rattle.mesh_text.proofs.Grammar.{whole_of}
use Rattle.mesh_text.specs.Rows.{Pairs, no_pairs, pair}
use Rattle.mesh_form.specs.Mesh.{Row, Node, NodeRow, ElementRow, numbers_of}
use Rattle.mesh_form.specs.Values.{word, id_of, type_of, names_of, element_of, size_of_type, nine, wanted_of}
use Rattle.mesh_form.proofs.Said.{node-is, size_small, wanted-is}
use Rattle.mesh_nodes.specs.Nodes.{row_of}
use Rattle.mesh_elements.specs.Orders.{order, reordered}
use Rattle.mesh_elements.specs.Takings.{IsWhole, Flat, At, Points, no_points, point}
use Rattle.mesh_elements.specs.Rows.{name_of, coord_of, coords_of}
use Rattle.mesh_elements.proofs.Orders.{order-length, order-within}
use Rattle.mesh_elements.proofs.Coords.{coord-x, coord-y}

-- ---- numbers in a list
pub mem-stable : (n : ℕ) (l : List ℕ) → ¬ ¬ Memᴰ n l → Memᴰ n l
mem-stable n [] f = absurd (f Memᴰ.not-nil)
mem-stable n (m ∷ l) f =
    by-test (eqb n m) (Memᴰ n (m ∷ l))
    (λ e. Memᴰ.head (eqb-true n m e))
    (λ e. Memᴰ.tail (mem-stable n l (λ g. f (λ k. ⊎_elim (eqb-false n m e) g (Memᴰ.cases_cons k)))))

mem-at : (l : List ℕ) (j : ℕ) → j < length l → Memᴰ (get_or l j 0) l
mem-at [] j h = absurd (omega arith)
mem-at (n ∷ l) zero h = Memᴰ.head refl
mem-at (n ∷ l) (suc j) h = Memᴰ.tail (mem-at l j (omega arith))

-- ---- the node of a number
whole-value : (w : List ℕ) → IsWhole w → WholeValue w (value_of w)
whole-value w h = subst (WholeValue w) (sym (whole_of h.1).1) h.1

-- the node of number n stands where the row r says
abbrev pub AtRow : List Node → ℕ → Row → Type 0
AtRow ns n r = At ns n (value_of (word r 1)) (value_of (word r 2))

at_first-is : {r : Row} {n : Node} (m : ℕ) (ns : List Node) → NodeRow r n → Flat n → id_of r ≡ m → AtRow (n ∷ ns) m r
at_first-is {r} {n} m ns h f e =
    let i = node-is h in
    record {
      node = n;
      listed = Memᴰ.head refl;
      numbered = ap (λ o. o.number) i ∙ e;
      x_is = subst (λ o. WholeValue n.x (value_of o.x)) i (whole-value n.x f.x_whole);
      y_is = subst (λ o. WholeValue n.y (value_of o.y)) i (whole-value n.y f.y_whole);
    }

at-later : {ns : List Node} {m : ℕ} {x y : ℤ} (n : Node) → At ns m x y → At (n ∷ ns) m x y
at-later n a = record { node = a.node; listed = Memᴰ.tail a.listed; numbered = a.numbered; x_is = a.x_is; y_is = a.y_is }

pub at_row : {rs : List Row} {ns : List Node} (m : ℕ)
    → Pairs NodeRow rs ns
    → ((n : Node) → Memᴰ n ns → Flat n)
    → Memᴰ m (numbers_of ns)
    → AtRow ns m (row_of m rs)
unfolding row_of
at_row m no_pairs f i = absurd (Memᴰ.not-nil i)
at_row m (pair {a = r} {b = n} {l = rs} {m = ns} h p) f i =
    let is : n.number ≡ id_of r = ap (λ o. o.number) (node-is h) in
    by-test (eqb (id_of r) m) (AtRow (n ∷ ns) m (row_of m (r ∷ rs)))
    (λ e. subst (AtRow (n ∷ ns) m) (sym (ap (λ b. cond b r (row_of m rs)) e))
    (at_first-is m ns h (f n (Memᴰ.head refl)) (eqb-true (id_of r) m e)))
    (λ e. let j = ⊎_elim (λ k. absurd (eqb-false (id_of r) m e (sym (k ∙ is)))) (λ k. k) (Memᴰ.cases_cons i) in
    subst (AtRow (n ∷ ns) m) (sym (ap (λ b. cond b r (row_of m rs)) e)) (at-later n (at_row m p (λ o k. f o (Memᴰ.tail k)) j)))

-- ---- two by two
list-front : (n : ℕ) (f : ℕ → ℤ) → list_to (suc n) f ≡ f 0 ∷ list_to n (λ i. f (suc i))
list-front zero f = refl
list-front (suc n) f = ap (λ l. l ++ (f (suc n) ∷ [])) (list-front n f)

list-two : (n : ℕ) (f : ℕ → ℤ) → f 0 ∷ f 1 ∷ list_to (2 * n) (λ i. f (suc (suc i))) ≡ list_to (2 * suc n) f
list-two n f =
    let e : suc (suc (2 * n)) ≡ 2 * suc n = omega arith in
    sym (list-front (suc (2 * n)) f ∙ ap (λ l. f 0 ∷ l) (list-front (2 * n) (λ i. f (suc i)))) ∙ ap (λ m. list_to m f) e

pub list-points : {ns : List Node} (js : List ℕ) (name : ℕ → ℕ) (f : ℕ → ℤ)
    → ((i : ℕ) → i < length js → At ns (name (get_or js i 0)) (f (2 * i)) (f (2 * i + 1)))
    → Points ns (map name js) (list_to (2 * length js) f)
list-points [] name f h = no_points
list-points {ns} (j ∷ js) name f h =
    subst (Points ns (name j ∷ map name js)) (list-two (length js) f)
    (point (h 0 (omega arith))
    (list-points js name (λ i. f (suc (suc i)))
    (λ i k. let x : 2 * suc i ≡ suc (suc (2 * i)) = omega arith in
    let y : 2 * suc i + 1 ≡ suc (suc (2 * i + 1)) = omega arith in
    subst (λ m. At ns (name (get_or js i 0)) (f (suc (suc (2 * i)))) (f m)) y
    (subst (λ m. At ns (name (get_or js i 0)) (f m) (f (2 * suc i + 1))) x (h (suc i) (omega arith))))))

-- ---- an element of ours
module _ (r : Row) (h : ElementRow r (element_of r)) (o : ¬ (size_of_type (type_of r) ≡ 0)) where
  pub names-length : length (names_of r) ≡ size_of_type (type_of r)
  unfolding wanted_of nine
  names-length =
      let pad : List ℕ = replicate 9 4294967296 in
      let l : length pad ≡ 9 = refl in
      sym (ap length (wanted-is h o)) ∙ length-take (size_of_type (type_of r)) (nine r)
      ∙ omega (arith, size_small (type_of r), length-take 9 (names_of r ++ pad), length-append (names_of r) pad)

  pub name-at : (i : ℕ) → get_or (names_of r) (get_or (order (type_of r)) i 0) 0 ≡ name_of r i
  unfolding wanted_of name_of
  name-at i =
      let j = get_or (order (type_of r)) i 0 in
      sym (ap (λ l. get_or l j 0) (wanted-is h o)) ∙ get_or-take (size_of_type (type_of r)) (nine r) j 0 (order-within (type_of r) i o)

  -- of nodes that are flat, among them the element's
  module _ {rs : List Row} {ns : List Node}
      (p : Pairs NodeRow rs ns)
      (f : (n : Node) → Memᴰ n ns → Flat n)
      (m : (n : ℕ) → Memᴰ n (names_of r) → Memᴰ n (numbers_of ns)) where
    node_at : (i : ℕ)
        → At ns (get_or (names_of r) (get_or (order (type_of r)) i 0) 0) (coord_of value_of rs r (2 * i)) (coord_of value_of rs r (2 * i + 1))
    node_at i =
        let j = get_or (order (type_of r)) i 0 in
        let n = get_or (names_of r) j 0 in
        let k = m n (mem-at (names_of r) j (omega (arith, names-length, order-within (type_of r) i o))) in
        let q = row_of n rs in
        let e : q ≡ row_of (name_of r i) rs = ap (λ n. row_of n rs) (name-at i) in
        subst (λ y. At ns n (coord_of value_of rs r (2 * i)) y) (coord-y value_of rs r i q e)
        (subst (λ x. At ns n x (value_of (word q 2))) (coord-x value_of rs r i q e) (at_row n p f k))

    pub element-points : Points ns (reordered (type_of r) (names_of r)) (coords_of value_of rs r)
    element-points =
        subst (λ n. Points ns (reordered (type_of r) (names_of r)) (list_to (2 * n) (coord_of value_of rs r))) (order-length (type_of r) o)
        (list-points (order (type_of r)) (λ j. get_or (names_of r) j 0) (coord_of value_of rs r) (λ i l. node_at i))
