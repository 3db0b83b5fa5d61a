-- What is read from the rows of a text is what is taken of its mesh, and nothing else is (02, Ask 1).
--   takings        : what is read from the rows is taken of the mesh
--   takings-unique : and only that, where no number stands twice
--   takings-fit    : its ids fit four bytes
--   takings-count  : each element is taken or passed over
-- Assumes nothing.
use mathlib.Core.Path.{◌≡◌, refl, sym, ap, ◌∙◌, subst}
use mathlib.Core.Bool.{cond}
use mathlib.Core.List.Memᴰ
use mathlib.Core.List.{List, ◌∷◌, map, Memᴰ}
use Prim.Native.Nat.{ℕ, suc, ◌+◌, ◌<◌}
use native.Mathlib.Omega.{arith}
use borrow.Author.Tests.{eqb-true, eqb-false}
use lib.Dec.{eqb}
use lib.IntN.{ℤ}
use lib.ListN.{length}
use Rattle.append.specs.Series.{Given, IdsFit}
use Rattle.mesh_text.specs.Rows.{All, none, both, Pairs}
use Rattle.mesh_text.specs.Words.{WholeValue}
use Rattle.mesh_text.specs.Tests.{value_of}
use Rattle.mesh_text.proofs.Rows.{by-test}
use Rattle.mesh_text.proofs.Grammar.{whole_of}
use Rattle.mesh_form.specs.Mesh.{Row, Node, Element, NodeRow, ElementRow, Form, Repeats, here, later, numbers_of}
use Rattle.mesh_form.specs.Values.{type_of, names_of, element_of, size_of_type}
use Rattle.mesh_nodes.specs.Nodes.{nodes_in}
use Rattle.mesh_numbers.specs.Numbers.{Unlisted}
use Rattle.mesh_elements.specs.Takings.{Flat, NotFlat, Points, no_points, point, Takings, nothing, taken, passed}
use Rattle.mesh_elements.specs.Rows.{given_of, givens_of, passed_of, elements_in}
use Rattle.mesh_elements.proofs.Rows.{form-nodes, elements-are, element-rows}
use Rattle.mesh_elements.proofs.Flats.{flats-true, flats-of}
use Rattle.mesh_elements.proofs.Points.{mem-stable, element-points}

-- ---- row by row
unlisted-later : (ns : List Node) {es : List Element} (e : Element) → Unlisted ns es → Unlisted ns (e ∷ es)
unlisted-later ns e w =
    record { element = w.element; number = w.number; given = Memᴰ.tail w.given; ours = w.ours; wants = w.wants; absent = w.absent }

takings-same : {level : ℕ} {ns : List Node} {es : List Element} {gs hs : List Given} {p q : ℕ}
    → gs ≡ hs
    → p ≡ q
    → Takings level ns es gs p
    → Takings level ns es hs q
takings-same {level} {ns} {es} {hs = hs} {p = p} e f w = subst (Takings level ns es hs) f (subst (λ l. Takings level ns es l p) e w)

module _ (level : ℕ) {rs : List Row} {ns : List Node} (p : Pairs NodeRow rs ns) (f : (n : Node) → Memᴰ n ns → Flat n) where
  rows-takings : {qs : List Row} → All (λ r. ElementRow r (element_of r)) qs → ¬ Unlisted ns (map element_of qs)
      → Takings level ns (map element_of qs) (givens_of level value_of rs qs) (passed_of qs)
  unfolding givens_of passed_of
  rows-takings none n = nothing
  rows-takings (both {a = r} {l = qs} h a) n =
      let k = size_of_type (type_of r) in
      let gs = givens_of level value_of rs qs in
      let c = passed_of qs in
      let ih = rows-takings a (λ w. n (unlisted-later ns (element_of r) w)) in
      by-test (eqb k 0) (Takings level ns (map element_of (r ∷ qs)) (givens_of level value_of rs (r ∷ qs)) (passed_of (r ∷ qs)))
      (λ e. takings-same (sym (ap (λ b. cond b gs (given_of level value_of rs r ∷ gs)) e)) (sym (ap (λ b. cond b (suc c) c) e))
      (passed (λ o. o (eqb-true k 0 e)) ih))
      (λ e. let o = eqb-false k 0 e in
      let l : (m : ℕ) → Memᴰ m (names_of r) → Memᴰ m (numbers_of ns) =
      λ m i. mem-stable m (numbers_of ns) (λ x. n (record { element = element_of r; number = m; given = Memᴰ.head refl; ours = o; wants = i; absent = x })) in
      takings-same (sym (ap (λ b. cond b gs (given_of level value_of rs r ∷ gs)) e)) (sym (ap (λ b. cond b (suc c) c) e))
      (taken o (element-points r h o p f l) ih))

pub takings : (level : ℕ) {t : List ℕ} {ns : List Node} {es : List Element} → Form t ns es → ¬ NotFlat ns → ¬ Unlisted ns es
    → Takings level ns es (givens_of level value_of (nodes_in t) (elements_in t)) (passed_of (elements_in t))
takings level {t} {ns} {es} h f n =
    let e = elements-are h in
    subst (λ l. Takings level ns l (givens_of level value_of (nodes_in t) (elements_in t)) (passed_of (elements_in t))) e
    (rows-takings level (form-nodes h) (flats-true h (flats-of h f)) (element-rows h) (λ w. n (subst (Unlisted ns) e w)))

-- ---- nothing else
node-once : {a b : Node} {ns : List Node} → ¬ Repeats (numbers_of ns) → a.number ≡ b.number → Memᴰ a ns → Memᴰ b ns → a ≡ b
node-once o e (Memᴰ.head i) (Memᴰ.head j) = i ∙ sym j
node-once {a} {b} o e (Memᴰ.head {xs = l} i) (Memᴰ.tail m) =
    absurd (o (here tt (subst (λ k. Memᴰ k (numbers_of l)) (sym e ∙ ap (λ n. n.number) i) (Memᴰ.map (λ n. n.number) m))))
node-once {a} {b} o e (Memᴰ.tail {xs = l} m) (Memᴰ.head j) =
    absurd (o (here tt (subst (λ k. Memᴰ k (numbers_of l)) (e ∙ ap (λ n. n.number) j) (Memᴰ.map (λ n. n.number) m))))
node-once o e (Memᴰ.tail m) (Memᴰ.tail k) = node-once (λ r. o (later r)) e m k

whole_unique : {v w : List ℕ} {x y : ℤ} → WholeValue v x → WholeValue w y → v ≡ w → x ≡ y
whole_unique h k e = sym (whole_of h).1 ∙ ap value_of e ∙ (whole_of k).1

points-unique : {ns : List Node} {ms : List ℕ} {xs ys : List ℤ} → ¬ Repeats (numbers_of ns) → Points ns ms xs → Points ns ms ys → xs ≡ ys
points-unique o no_points no_points = refl
points-unique o (point {x = x} {y = y} {xs = xs} a p) (point {x = u} {y = v} b q) =
    let e = node-once o (a.numbered ∙ sym b.numbered) a.listed b.listed in
    ap (λ z. z ∷ y ∷ xs) (whole_unique a.x_is b.x_is (ap (λ n. n.x) e))
    ∙ ap (λ z. u ∷ z ∷ xs) (whole_unique a.y_is b.y_is (ap (λ n. n.y) e))
    ∙ ap (λ l. u ∷ v ∷ l) (points-unique o p q)

pub takings-unique : {level : ℕ} {ns : List Node} {es : List Element} {gs hs : List Given} {p q : ℕ} → ¬ Repeats (numbers_of ns)
    → Takings level ns es gs p
    → Takings level ns es hs q
    → (gs ≡ hs) × (p ≡ q)
takings-unique o nothing nothing = (refl, refl)
takings-unique {level} o (taken {e = e} {gs = gs} h a v) (taken {xs = xs} k b w) =
    let u = takings-unique o v w in (
      ap (λ l. record { id = e.number; kind = size_of_type e.type; limit = level; coords = l } ∷ gs) (points-unique o a b)
          ∙ ap (λ l. record { id = e.number; kind = size_of_type e.type; limit = level; coords = xs } ∷ l) u.0,
      u.1,
    )
takings-unique o (taken h a v) (passed k w) = absurd (k h)
takings-unique o (passed h v) (taken k b w) = absurd (h k)
takings-unique o (passed h v) (passed k w) = let u = takings-unique o v w in (u.0, ap suc u.1)

-- ---- how large, how many
pub takings-fit : {level : ℕ} {ns : List Node} {es : List Element} {gs : List Given} {p : ℕ} → Takings level ns es gs p
    → All (λ e. e.number < 4294967296) es
    → IdsFit gs
takings-fit nothing none = tt
takings-fit (taken h a w) (both l k) = (l, takings-fit w k)
takings-fit (passed h w) (both l k) = takings-fit w k

pub takings-count : {level : ℕ} {ns : List Node} {es : List Element} {gs : List Given} {p : ℕ} → Takings level ns es gs p → length gs + p ≡ length es
takings-count nothing = refl
takings-count (taken h a w) = let i = takings-count w in omega arith
takings-count (passed h w) = let i = takings-count w in omega arith
