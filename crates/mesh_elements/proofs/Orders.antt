-- Each node of ours stands where Gmsh's picture has it (docs/GMSH.md, G24).
--   by-type        : the three types that are ours
--   order-six, order-nine, order-eight, order_none : their orders, and none for another type
--   order-sized, order-some : as many as the type has nodes, none for another type
--   order-length, order-within, order_small : as many as the kind has nodes, each one of them; and one of nine
--   gmsh-length    : Gmsh's picture of a type has as many places as its elements have nodes
--   order-places   : the node that is taken for ours stands at the place of ours
--   order-only     : and no other order has that
-- Assumes nothing.
use mathlib.Core.Path.{◌≡◌, refl, sym, ap, ◌∙◌, subst}
use mathlib.Core.Bool.{Bool, true, ◌&&◌}
use mathlib.Core.List.{List, [], ◌∷◌, map}
use Prim.Native.Nat.{ℕ, zero, suc, ◌+◌, ◌*◌, ◌<◌}
use native.Mathlib.Omega.{arith}
use borrow.Author.Tests.{eqb-true, eqb-false, ltb-true, ne_eqb}
use lib.Dec.{eqb, ltb}
use lib.ListN.{length, get_or}
use Rattle.mesh_text.specs.Rows.{All, none, both}
use Rattle.mesh_text.proofs.Rows.{by-test}
use Rattle.mesh_text.proofs.Grammar.{and_both}
use Rattle.mesh_form.specs.Values.{size_of_type}
use Rattle.mesh_form.proofs.Said.{size-six, size-nine, size-eight, size_none, size_small}
use Rattle.mesh_elements.specs.Orders.{Place, at, gmsh_places, our_places, order}

pub by-type : (k : ℕ) (P : Type 0) → ¬ (size_of_type k ≡ 0) → (k ≡ 9 → P) → (k ≡ 10 → P) → (k ≡ 16 → P) → P
by-type k P n a b c =
    by-test (eqb k 9) P (λ e. a (eqb-true k 9 e))
    (λ e. by-test (eqb k 10) P (λ f. b (eqb-true k 10 f))
    (λ f. by-test (eqb k 16) P (λ g. c (eqb-true k 16 g))
    (λ g. absurd (n (sym (size_none k (eqb-false k 9 e) (eqb-false k 10 f) (eqb-false k 16 g)))))))

module _ (k : ℕ) where
  pub order-six : k ≡ 9 → order 9 ≡ order k
  order-six e = sym (ap order e)

  pub order-nine : k ≡ 10 → order 10 ≡ order k
  order-nine e = sym (ap order e)

  pub order-eight : k ≡ 16 → order 16 ≡ order k
  order-eight e = sym (ap order e)

  pub order_none : ¬ (k ≡ 9) → ¬ (k ≡ 10) → ¬ (k ≡ 16) → [] ≡ order k
  unfolding order
  order_none a b c = rw (ne_eqb k 9 a, ne_eqb k 10 b, ne_eqb k 16 c) refl

  pub order-length : ¬ (size_of_type k ≡ 0) → length (order k) ≡ size_of_type k
  unfolding order
  order-length n =
      by-type k (length (order k) ≡ size_of_type k) n
      (λ e. sym (ap length (order-six e)) ∙ size-six k e)
      (λ e. sym (ap length (order-nine e)) ∙ size-nine k e)
      (λ e. sym (ap length (order-eight e)) ∙ size-eight k e)

  -- and none for another type
  pub order-sized : length (order k) ≡ size_of_type k
  order-sized =
      by-test (eqb (size_of_type k) 0) (length (order k) ≡ size_of_type k)
      (λ z. let e = eqb-true (size_of_type k) 0 z in
      sym (ap length (order_none (λ a. absurd (omega (arith, size-six k a))) (λ a. absurd (omega (arith, size-nine k a))) (λ a. absurd (omega (arith, size-eight k a))))) ∙ sym e)
      (λ z. order-length (eqb-false (size_of_type k) 0 z))

  -- nodes of which there are some
  pub order-some : (j : ℕ) → j < length (order k) → ¬ (size_of_type k ≡ 0)
  order-some j h z = absurd (omega (arith, order-sized))

-- ---- each a place of Gmsh's
abbrev below_b : ℕ → List ℕ → Bool
below_b m [] = true
below_b m (n ∷ l) = ltb n m && below_b m l

below_at : (m : ℕ) (l : List ℕ) (j : ℕ) → 0 < m → below_b m l ≡ true → get_or l j 0 < m
below_at m [] j h e = h
below_at m (n ∷ l) zero h e = ltb-true n m (and_both (ltb n m) (below_b m l) e).0
below_at m (n ∷ l) (suc j) h e = below_at m l j h (and_both (ltb n m) (below_b m l) e).1

Below : ℕ → Type 0
Below k = below_b (size_of_type k) (order k) ≡ true

six-below : Below 9
unfolding Below order size_of_type
six-below = refl

nine-below : Below 10
unfolding Below order size_of_type
nine-below = refl

eight-below : Below 16
unfolding Below order size_of_type
eight-below = refl

order_below : (k : ℕ) → ¬ (size_of_type k ≡ 0) → Below k
order_below k n =
    by-type k (Below k) n
    (λ e. subst Below (sym e) six-below)
    (λ e. subst Below (sym e) nine-below)
    (λ e. subst Below (sym e) eight-below)

above : (n : ℕ) → ¬ (n ≡ 0) → 0 < n
above zero z = absurd (z refl)
above (suc n) z = omega arith

pub order-within : (k j : ℕ) → ¬ (size_of_type k ≡ 0) → get_or (order k) j 0 < size_of_type k
unfolding Below
order-within k j n = below_at (size_of_type k) (order k) j (above (size_of_type k) n) (order_below k n)

pub order_small : (k j : ℕ) → ¬ (size_of_type k ≡ 0) → get_or (order k) j 0 < 9
order_small k j n = omega (arith, order-within k j n, size_small k)

-- ---- by their places; a place past the list's end is one that no node has
abbrev pub placed : ℕ → List ℕ → List Place
placed k js = map (λ j. get_or (gmsh_places k) j (at 3 3)) js

Sized : ℕ → Type 0
Sized k = length (gmsh_places k) ≡ size_of_type k

six-sized : Sized 9
unfolding Sized gmsh_places size_of_type
six-sized = refl

nine-sized : Sized 10
unfolding Sized gmsh_places size_of_type
nine-sized = refl

eight-sized : Sized 16
unfolding Sized gmsh_places size_of_type
eight-sized = refl

pub gmsh-length : (k : ℕ) → ¬ (size_of_type k ≡ 0) → length (gmsh_places k) ≡ size_of_type k
unfolding Sized
gmsh-length k n =
    by-type k (length (gmsh_places k) ≡ size_of_type k) n
    (λ e. subst Sized (sym e) six-sized)
    (λ e. subst Sized (sym e) nine-sized)
    (λ e. subst Sized (sym e) eight-sized)

Places : ℕ → Type 0
Places k = placed k (order k) ≡ our_places (size_of_type k)

six-places : Places 9
unfolding Places gmsh_places our_places order size_of_type
six-places = refl

nine-places : Places 10
unfolding Places gmsh_places our_places order size_of_type
nine-places = refl

eight-places : Places 16
unfolding Places gmsh_places our_places order size_of_type
eight-places = refl

pub order-places : (k : ℕ) → ¬ (size_of_type k ≡ 0) → placed k (order k) ≡ our_places (size_of_type k)
unfolding Places
order-places k n =
    by-type k (placed k (order k) ≡ our_places (size_of_type k)) n
    (λ e. subst Places (sym e) six-places)
    (λ e. subst Places (sym e) nine-places)
    (λ e. subst Places (sym e) eight-places)

-- ---- by no other order: from a place back to its number
-- f j is j for each j below n
abbrev fixed_b : (ℕ → ℕ) → ℕ → Bool
fixed_b f zero = true
fixed_b f (suc n) = eqb (f n) n && fixed_b f n

fixed-at : (f : ℕ → ℕ) (n j : ℕ) → fixed_b f n ≡ true → j < n → f j ≡ j
fixed-at f zero j e h = absurd (omega arith)
fixed-at f (suc n) j e h =
    let b = and_both (eqb (f n) n) (fixed_b f n) e in
    by-test (eqb j n) (f j ≡ j)
    (λ i. subst (λ m. f m ≡ m) (sym (eqb-true j n i)) (eqb-true (f n) n b.0))
    (λ i. fixed-at f n j b.1 (let d = eqb-false j n i in omega arith))

-- places in rows of three, and a table of their numbers
abbrev back : List ℕ → Place → ℕ
back table p = get_or table (p.along + 3 * p.up) 0

abbrev returned : ℕ → List ℕ → ℕ → ℕ
returned k table j = back table (get_or (gmsh_places k) j (at 3 3))

record Table (k : ℕ) (table : List ℕ) : Type 0 where
  pub inverse : fixed_b (returned k table) (length (gmsh_places k)) ≡ true
  pub ours : map (back table) (our_places (size_of_type k)) ≡ order k

six-table : Table 9 (0 ∷ 3 ∷ 1 ∷ 5 ∷ 4 ∷ 0 ∷ 2 ∷ [])
unfolding gmsh_places our_places order size_of_type
six-table = record { inverse = refl; ours = refl }

nine-table : Table 10 (0 ∷ 4 ∷ 1 ∷ 7 ∷ 8 ∷ 5 ∷ 3 ∷ 6 ∷ 2 ∷ [])
unfolding gmsh_places our_places order size_of_type
nine-table = record { inverse = refl; ours = refl }

eight-table : Table 16 (0 ∷ 4 ∷ 1 ∷ 7 ∷ 8 ∷ 5 ∷ 3 ∷ 6 ∷ 2 ∷ [])
unfolding gmsh_places our_places order size_of_type
eight-table = record { inverse = refl; ours = refl }

Only : ℕ → Type 0
Only k = (js : List ℕ) → All (λ j. j < length (gmsh_places k)) js → placed k js ≡ our_places (size_of_type k) → js ≡ order k

all_back : {k : ℕ} {table js : List ℕ} → Table k table → All (λ j. j < length (gmsh_places k)) js → js ≡ map (back table) (placed k js)
all_back t none = refl
all_back {k} {table} t (both {a = j} {l = js} h a) =
    ap (λ i. i ∷ js) (sym (fixed-at (returned k table) (length (gmsh_places k)) j t.inverse h))
    ∙ ap (λ l. returned k table j ∷ l) (all_back t a)

table-only : {k : ℕ} {table : List ℕ} → Table k table → Only k
unfolding Only
table-only {table = table} t js a e = all_back t a ∙ ap (map (back table)) e ∙ t.ours

pub order-only : (k : ℕ) → ¬ (size_of_type k ≡ 0) → (js : List ℕ)
    → All (λ j. j < length (gmsh_places k)) js
    → placed k js ≡ our_places (size_of_type k)
    → js ≡ order k
unfolding Only
order-only k n js a e =
    by-type k (Only k) n
    (λ i. subst Only (sym i) (table-only six-table))
    (λ i. subst Only (sym i) (table-only nine-table))
    (λ i. subst Only (sym i) (table-only eight-table)) js a e
