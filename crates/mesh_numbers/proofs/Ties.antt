-- In a text of the form the numbers are those of its nodes, and those wanted are those of its elements (docs/GMSH.md, G18 and G19).
--   numbers-are, wanted-are : the numbers of a text of the form
--   twice-is       : `twice` answers whether a number stands twice among its nodes
--   unlisted-is    : `unlisted` answers whether an element of ours wants a number that no node has
--   unlisted-iff   : the same as an equivalence
-- Assumes nothing.
use mathlib.Core.Path.{◌≡◌, refl, sym, ap, ◌∙◌, subst}
use mathlib.Core.Bool.{Bool, true, false, cond}
use mathlib.Core.List.Memᴰ
use mathlib.Core.List.{List, [], ◌∷◌, ◌++◌, Memᴰ}
use mathlib.Core.Logic.{⊎_elim}
use Prim.Native.Nat.{ℕ, ◌<◌}
use borrow.Author.Tests.{eqb-true, eqb-false, ne_eqb}
use lib.Dec.{eqb}
use Rattle.mesh_text.specs.Rows.{All, none, both, Pairs, no_pairs, pair}
use Rattle.mesh_text.proofs.Rows.{by-test}
use Rattle.mesh_text.proofs.Grammar.{number-of}
use Rattle.mesh_form.specs.Mesh.{Row, Node, Element, Counts, node_row, ElementRow, element_row, Form, RepeatsIn, here, later, Repeats, numbers_of}
use Rattle.mesh_form.specs.Values.{size_of_type, wanted_of}
use Rattle.mesh_form.specs.Walk.{Item}
use Rattle.mesh_form.proofs.Said.{wanted-is, wanted-none}
use Rattle.mesh_form.proofs.Told.{form-told}
use Rattle.mesh_form.proofs.Unique.{Readings, none_read, node-read, element-read, Walks, sections-walk}
use Rattle.mesh_numbers.specs.Numbers.{gather, node_number, wanted_by, numbers, wanted, wanted_of_all, Repeated, Missing, Unlisted, Listed}

-- ---- the numbers of nodes
readings-numbers : {l : List Item} {ns : List Node} {es : List Element} → Readings l ns es → gather node_number l ≡ numbers_of ns
unfolding gather node_number
readings-numbers none_read = refl
readings-numbers (node-read {l = l} (node_row {a} {n = n} c h k m) r) =
    ap (λ x. x ∷ gather node_number l) (number-of a n c.number) ∙ ap (λ x. n ∷ x) (readings-numbers r)
readings-numbers (element-read h r) = readings-numbers r

readings-small : {l : List Item} {ns : List Node} {es : List Element} → Readings l ns es → All (λ n. n.number < 4294967296) ns
readings-small none_read = none
readings-small (node-read (node_row c h k m) r) = both c.number.small (readings-small r)
readings-small (element-read h r) = readings-small r

pub numbers-are : (t : List ℕ) {ns : List Node} {es : List Element} → Form t ns es → numbers t ≡ numbers_of ns
unfolding numbers Walks
numbers-are t h = readings-numbers (sections-walk (form-told h)).1

repeats-small : (ns : List Node) → All (λ n. n.number < 4294967296) ns → Repeats (numbers_of ns)
    → RepeatsIn (λ n. n < 4294967296) (numbers_of ns)
repeats-small ns none r = elim r [ ]
repeats-small ns (both h k) (here p m) = here h m
repeats-small ns (both {l = l} h k) (later r) = later (repeats-small l k r)

pub twice-is : (t : List ℕ) (r : Bool) {ns : List Node} {es : List Element}
    → Form t ns es
    → Repeated (numbers t) r
    → (r ≡ true → Repeats (numbers_of ns)) × (r ≡ false → ¬ Repeats (numbers_of ns))
unfolding Walks
twice-is t r {ns = ns} h a =
    let e = numbers-are t h in (
      (λ y. subst Repeats e (a.yes y)),
      λ y z. a.no y (subst (RepeatsIn (λ n. n < 4294967296)) (sym e) (repeats-small ns (readings-small (sections-walk (form-told h)).1) z)),
    )

-- ---- the numbers that elements want
row-wanted : {r : Row} {e : Element} (l : List ℕ) → ElementRow r e → wanted_of r ++ l ≡ cond (eqb (size_of_type e.type) 0) l (e.nodes ++ l)
row-wanted {r} {e} l h =
    by-test (eqb (size_of_type e.type) 0) (wanted_of r ++ l ≡ cond (eqb (size_of_type e.type) 0) l (e.nodes ++ l))
    (λ z. ap (λ x. x ++ l) (wanted-none h (eqb-true _ 0 z)) ∙ sym (ap (λ b. cond b l (e.nodes ++ l)) z))
    (λ z. ap (λ x. x ++ l) (wanted-is h (eqb-false _ 0 z)) ∙ sym (ap (λ b. cond b l (e.nodes ++ l)) z))

readings-wanted : {l : List Item} {ns : List Node} {es : List Element} → Readings l ns es → gather wanted_by l ≡ wanted_of_all es
unfolding gather wanted_by wanted_of_all
readings-wanted none_read = refl
readings-wanted (node-read h r) = readings-wanted r
readings-wanted (element-read {e = e} {l = l} {es = es} h r) =
    row-wanted (gather wanted_by l) h
    ∙ ap (λ m. cond (eqb (size_of_type e.type) 0) m (e.nodes ++ m)) (readings-wanted r)

pub wanted-are : (t : List ℕ) {ns : List Node} {es : List Element} → Form t ns es → wanted t ≡ wanted_of_all es
unfolding wanted Walks
wanted-are t h = readings-wanted (sections-walk (form-told h)).1

-- all of them are numbers below 2^32
pairs_small : {ws : Row} {ms : List ℕ} {n : ℕ} → Pairs Counts ws ms → Memᴰ n ms → n < 4294967296
pairs_small no_pairs i = absurd (Memᴰ.not-nil i)
pairs_small (pair h p) (Memᴰ.head e) = subst (λ m. m < 4294967296) (sym e) h.number.small
pairs_small (pair h p) (Memᴰ.tail i) = pairs_small p i

element-small : {r : Row} {e : Element} {n : ℕ} → ElementRow r e → Memᴰ n e.nodes → n < 4294967296
element-small (element_row ca cb nc h p q) i = pairs_small p i

elements-small : {l : List Item} {ns : List Node} {es : List Element} {e : Element} {n : ℕ}
    → Readings l ns es
    → Memᴰ e es
    → Memᴰ n e.nodes
    → n < 4294967296
elements-small none_read i j = absurd (Memᴰ.not-nil i)
elements-small (node-read h r) i j = elements-small r i j
elements-small {n = n} (element-read h r) (Memᴰ.head f) j = element-small h (subst (λ x. Memᴰ n x.nodes) f j)
elements-small (element-read h r) (Memᴰ.tail i) j = elements-small r i j

-- a number is among them exactly where an element of ours has it
record Wants (es : List Element) (n : ℕ) : Type 0 where
  pub element : Element
  pub given : Memᴰ element es
  pub ours : ¬ (size_of_type element.type ≡ 0)
  pub wants : Memᴰ n element.nodes

wants-later : (e : Element) (es : List Element) (n : ℕ) → Wants es n → Wants (e ∷ es) n
wants-later e es n w = record { element = w.element; given = Memᴰ.tail w.given; ours = w.ours; wants = w.wants }

all_true : (es : List Element) (n : ℕ) → Memᴰ n (wanted_of_all es) → Wants es n
unfolding wanted_of_all
all_true [] n i = absurd (Memᴰ.not-nil i)
all_true (e ∷ es) n i =
    by-test (eqb (size_of_type e.type) 0) (Wants (e ∷ es) n)
    (λ z. wants-later e es n (all_true es n (subst (Memᴰ n) (ap (λ b. cond b (wanted_of_all es) (e.nodes ++ wanted_of_all es)) z) i)))
    (λ z. ⊎_elim
    (λ j. record { element = e; given = Memᴰ.head refl; ours = eqb-false _ 0 z; wants = j })
    (λ j. wants-later e es n (all_true es n j))
    (Memᴰ.append_cases e.nodes (subst (Memᴰ n) (ap (λ b. cond b (wanted_of_all es) (e.nodes ++ wanted_of_all es)) z) i)))

-- the same, e before what the recursion changes
all-among : {e : Element} {es : List Element} {n : ℕ}
    → Memᴰ e es
    → ¬ (size_of_type e.type ≡ 0)
    → Memᴰ n e.nodes
    → Memᴰ n (wanted_of_all es)
unfolding wanted_of_all
all-among {n = n} (Memᴰ.head {x = d} {xs = es} f) z i =
    subst (Memᴰ n) (sym (ap (λ b. cond b (wanted_of_all es) (d.nodes ++ wanted_of_all es)) (ne_eqb (size_of_type d.type) 0 (λ y. z (ap (λ x. size_of_type x.type) f ∙ y)))))
    (Memᴰ.append_left (wanted_of_all es) (subst (λ x. Memᴰ n x.nodes) f i))
all-among {n = n} (Memᴰ.tail {x = d} {xs = es} j) z i =
    let ih = all-among j z i in
    by-test (eqb (size_of_type d.type) 0) (Memᴰ n (cond (eqb (size_of_type d.type) 0) (wanted_of_all es) (d.nodes ++ wanted_of_all es)))
    (λ y. subst (Memᴰ n) (sym (ap (λ b. cond b (wanted_of_all es) (d.nodes ++ wanted_of_all es)) y)) ih)
    (λ y. subst (Memᴰ n) (sym (ap (λ b. cond b (wanted_of_all es) (d.nodes ++ wanted_of_all es)) y)) (Memᴰ.append_right d.nodes ih))

all_of : {es : List Element} {e : Element} {n : ℕ}
    → Memᴰ e es
    → ¬ (size_of_type e.type ≡ 0)
    → Memᴰ n e.nodes
    → Memᴰ n (wanted_of_all es)
all_of i z j = all-among i z j

pub unlisted-is : (t : List ℕ) (r : Bool) {ns : List Node} {es : List Element}
    → Form t ns es
    → Missing (numbers t) (wanted t) r
    → (r ≡ true → Unlisted ns es) × (r ≡ false → Listed ns es)
unfolding Walks
unlisted-is t r {ns = ns} {es = es} h a =
    let en = numbers-are t h in
    let ew = wanted-are t h in (
      (λ y. let m = a.yes y in
          let w = all_true es m.0 (subst (Memᴰ m.0) ew m.1.0) in
          record {
            element = w.element;
            number = m.0;
            given = w.given;
            ours = w.ours;
            wants = w.wants;
            absent = λ i. m.1.1 (subst (Memᴰ m.0) (sym en) i);
          }),
      λ y e i z n j. subst (Memᴰ n) en (a.no y n (subst (Memᴰ n) (sym ew) (all_of i z j)) (elements-small (sections-walk (form-told h)).1 i j)),
    )

pub unlisted-iff : (t : List ℕ) (r : Bool) {ns : List Node} {es : List Element}
    → Form t ns es
    → Missing (numbers t) (wanted t) r
    → (r ≡ true → Unlisted ns es) × (Unlisted ns es → r ≡ true)
unlisted-iff t r {ns = ns} {es = es} h a =
    let u = unlisted-is t r h a in
    (u.0, λ x. by-test r (r ≡ true) (λ e. e) (λ e. absurd (x.absent (u.1 e x.element x.given x.ours x.number x.wants))))
