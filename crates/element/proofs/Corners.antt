-- Corners at one place (02, Ask 9).
--   corner-nodes     : the corners are the nodes that 01 names so
--   SameOne xs a ks  == the node a stands where one of the nodes ks does
--   one_none, one-first, one_later, one-not : node by node
--   two_none, two-first, two-later, two-not : two of a list stand at one place: its first one and another, or two of the others
--   merged, merged-is, not-merged : whether two corners stand at one place, as a test that computes
--   three-of, four-of : what holds of the three corners of a triangle, or of the four of a quad, holds of each
--   collapsed-moved, moved-collapsed : corners stand at one place wherever the origin is
-- For all kinds. Assumes nothing.
use mathlib.Core.Path.{◌≡◌, refl, sym, ◌∙◌, ap}
use mathlib.Core.Bool.{Bool, true, false, not, ◌&&◌, ◌||◌}
use mathlib.Core.List.{List, [], ◌∷◌, map}
use Prim.Native.Nat.{ℕ, zero, suc, ◌+◌, ◌*◌, ◌<◌, zero-le, suc-le-suc}
use native.Mathlib.Nat as N
use native.Mathlib.Omega.{arith}
use lib.Dec.{T, eqb, lit<, eqb→eq}
use lib.Ieee.Fits.{eq→eqb}
use lib.IntN.{ℤ, pos, negsuc, nat_abs, ◌+ℤ◌, ◌-ℤ◌, +ℤ_invr}
use lib.ListN.{length, get_or}
use Rattle.algebra.specs.Expr.{var, ◌⊖◌, ◌⊕◌}
use Rattle.algebra.proofs.Ring.{eq-of-sub}
use Rattle.algebra.proofs.Solve.{solve}
use Rattle.element.specs.Kinds.{Kind, six, eight, nine, ten, node_count}
use Rattle.element.specs.Plane.{Vec, ◌-ᵥ◌}
use Rattle.element.specs.Nodes.{node, A0, A1, A2, A9, A8}
use Rattle.element.specs.Origin.{moved_by}
use Rattle.element.specs.Corners.{corners, corner, SamePlace, SameTwo, Collapsed}
use Rattle.element.proofs.Plane.{vec-eq}
use Rattle.element.proofs.Origin.{moved-node}

pub corner-nodes : (xs : List ℤ)
    → (map (node xs) (corners six) ≡ A0 xs ∷ A1 xs ∷ A2 xs ∷ [])
    × (map (node xs) (corners eight) ≡ A8 xs 0 0 ∷ A8 xs 2 0 ∷ A8 xs 0 2 ∷ A8 xs 2 2 ∷ [])
    × (map (node xs) (corners nine) ≡ A9 xs 0 0 ∷ A9 xs 2 0 ∷ A9 xs 0 2 ∷ A9 xs 2 2 ∷ [])
    × (map (node xs) (corners ten) ≡ A0 xs ∷ A1 xs ∷ A2 xs ∷ [])
corner-nodes xs = (refl, refl, refl, refl)

-- ---- two of a list
-- the node a stands where one of the nodes ks does
pub record SameOne (xs : List ℤ) (a : ℕ) (ks : List ℕ) : Type 0 where
  pub place : ℕ
  pub within : place < length ks
  pub together : SamePlace xs a (get_or ks place 0)

module _ (xs : List ℤ) (a : ℕ) where
  pub one_none : ¬ SameOne xs a []
  one_none c = N.not-suc-le-zero c.within

  module _ (b : ℕ) (ks : List ℕ) where
    pub one-first : SamePlace xs a b → SameOne xs a (b ∷ ks)
    one-first e = record { place = 0; within = suc-le-suc zero-le; together = e }

    pub one_later : SameOne xs a ks → SameOne xs a (b ∷ ks)
    one_later c = record { place = suc c.place; within = suc-le-suc c.within; together = c.together }

    pub one-not : ¬ SamePlace xs a b → ¬ SameOne xs a ks → ¬ SameOne xs a (b ∷ ks)
    one-not f g c = go c.place c.within c.together
      where
        go : (i : ℕ) → i < suc (length ks) → SamePlace xs a (get_or (b ∷ ks) i 0) → ⊥
        go zero l e = f e
        go (suc i) l e = g (record { place = i; within = N.le_of_suc-le-suc l; together = e })

pub two_none : (xs : List ℤ) → ¬ SameTwo xs []
two_none xs c = N.not-suc-le-zero c.within

module _ (xs : List ℤ) (a : ℕ) (ks : List ℕ) where
  pub two-first : SameOne xs a ks → SameTwo xs (a ∷ ks)
  two-first c =
      record {
        first = 0;
        second = suc c.place;
        before = suc-le-suc zero-le;
        within = suc-le-suc c.within;
        together = c.together;
      }

  pub two-later : SameTwo xs ks → SameTwo xs (a ∷ ks)
  two-later c =
      record {
        first = suc c.first;
        second = suc c.second;
        before = suc-le-suc c.before;
        within = suc-le-suc c.within;
        together = c.together;
      }

  pub two-not : ¬ SameOne xs a ks → ¬ SameTwo xs ks → ¬ SameTwo xs (a ∷ ks)
  two-not f g c = go c.first c.second c.before c.within c.together
    where
      go : (i j : ℕ) → i < j → j < suc (length ks) → SamePlace xs (get_or (a ∷ ks) i 0) (get_or (a ∷ ks) j 0) → ⊥
      go i zero h l e = N.not-suc-le-zero h
      go zero (suc j) h l e = f (record { place = j; within = N.le_of_suc-le-suc l; together = e })
      go (suc i) (suc j) h l e =
          g (record { first = i; second = j; before = N.le_of_suc-le-suc h; within = N.le_of_suc-le-suc l; together = e })

-- ---- as a test
abbrev Tells : Bool → Type 0 → Type 0
Tells b A = (T b → A) × (T (not b) → ¬ A)

-- of two tests the one or the other, and the one and the other
tells-or : {A B C : Type 0} (a b : Bool) → (A → C) → (B → C) → (¬ A → ¬ B → ¬ C) → Tells a A → Tells b B → Tells (a || b) C
tells-or true b f g h p q = ((λ t. f (p.0 tt)), λ t. absurd t)
tells-or false true f g h p q = ((λ t. g (q.0 tt)), λ t. absurd t)
tells-or false false f g h p q = ((λ t. absurd t), λ t. h (p.1 tt) (q.1 tt))

tells-and : {A B C : Type 0} (a b : Bool) → (A → B → C) → (C → A) → (C → B) → Tells a A → Tells b B → Tells (a && b) C
tells-and true true f g h p q = ((λ t. f (p.0 tt) (q.0 tt)), λ t. absurd t)
tells-and true false f g h p q = ((λ t. absurd t), λ t c. q.1 tt (h c))
tells-and false b f g h p q = ((λ t. absurd t), λ t c. p.1 tt (g c))

abbrev equal : ℤ → ℤ → Bool
equal x y = eqb (nat_abs (x -ℤ y)) 0

equal-tells : (x y : ℤ) → Tells (equal x y) (x ≡ y)
equal-tells x y = (
  (λ t. eq-of-sub x y (zero_of (x -ℤ y) (eqb→eq (nat_abs (x -ℤ y)) 0 t))),
  λ t e. T_not (equal x y) t (eq→eqb (ap nat_abs (ap (λ z. z -ℤ y) e ∙ +ℤ_invr y))),
)
  where
    zero_of : (z : ℤ) → nat_abs z ≡ 0 → z ≡ pos 0
    zero_of (pos n) e = ap pos e
    zero_of (negsuc n) e = absurd (let h : suc n ≡ 0 = e in omega arith)

    T_not : (b : Bool) → T (not b) → T b → ⊥
    T_not true s t = s
    T_not false s t = t

abbrev same_by : List ℤ → ℕ → ℕ → Bool
same_by xs a b = equal (node xs a).x (node xs b).x && equal (node xs a).y (node xs b).y

same-tells : (xs : List ℤ) (a b : ℕ) → Tells (same_by xs a b) (SamePlace xs a b)
same-tells xs a b =
    let u = node xs a in let v = node xs b in
    tells-and (equal u.x v.x) (equal u.y v.y) vec-eq (λ e. ap (λ (w : Vec). w.x) e) (λ e. ap (λ (w : Vec). w.y) e)
    (equal-tells u.x v.x) (equal-tells u.y v.y)

abbrev one_by : List ℤ → ℕ → List ℕ → Bool
one_by xs a [] = false
one_by xs a (b ∷ ks) = same_by xs a b || one_by xs a ks

one-tells : (xs : List ℤ) (a : ℕ) (ks : List ℕ) → Tells (one_by xs a ks) (SameOne xs a ks)
one-tells xs a [] = ((λ t. absurd t), λ t. one_none xs a)
one-tells xs a (b ∷ ks) =
    tells-or (same_by xs a b) (one_by xs a ks) (one-first xs a b ks) (one_later xs a b ks) (one-not xs a b ks) (same-tells xs a b) (one-tells xs a ks)

abbrev two_by : List ℤ → List ℕ → Bool
two_by xs [] = false
two_by xs (a ∷ ks) = one_by xs a ks || two_by xs ks

two-tells : (xs : List ℤ) (ks : List ℕ) → Tells (two_by xs ks) (SameTwo xs ks)
two-tells xs [] = ((λ t. absurd t), λ t. two_none xs)
two-tells xs (a ∷ ks) =
    tells-or (one_by xs a ks) (two_by xs ks) (two-first xs a ks) (two-later xs a ks) (two-not xs a ks) (one-tells xs a ks) (two-tells xs ks)

abbrev pub merged : Kind → List ℤ → Bool
merged k xs = two_by xs (corners k)

pub merged-is : (k : Kind) (xs : List ℤ) → T (merged k xs) → Collapsed k xs
merged-is k xs = (two-tells xs (corners k)).0

pub not-merged : (k : Kind) (xs : List ℤ) → T (not (merged k xs)) → ¬ Collapsed k xs
not-merged k xs = (two-tells xs (corners k)).1

-- ---- wherever the origin is
-- what holds of the four corners of a quad holds of each
pub three-of : (P : ℕ → Type 0) → P 0 → P 1 → P 2 → (i : ℕ) → i < 3 → P i
three-of P a b c zero h = a
three-of P a b c (suc zero) h = b
three-of P a b c (suc (suc zero)) h = c
three-of P a b c (suc (suc (suc i))) h = absurd (omega arith)

pub four-of : (P : ℕ → Type 0) → P 0 → P 1 → P 2 → P 3 → (i : ℕ) → i < 4 → P i
four-of P a b c d zero h = a
four-of P a b c d (suc zero) h = b
four-of P a b c d (suc (suc zero)) h = c
four-of P a b c d (suc (suc (suc zero))) h = d
four-of P a b c d (suc (suc (suc (suc i)))) h = absurd (omega arith)

corner-small : (k : Kind) (i : ℕ) → i < length (corners k) → 2 * corner k i + 1 < 2 * node_count k
corner-small six i h = three-of (λ i. 2 * corner six i + 1 < 12) (lit< tt) (lit< tt) (lit< tt) i h
corner-small eight i h = four-of (λ i. 2 * corner eight i + 1 < 16) (lit< tt) (lit< tt) (lit< tt) (lit< tt) i h
corner-small nine i h = four-of (λ i. 2 * corner nine i + 1 < 18) (lit< tt) (lit< tt) (lit< tt) (lit< tt) i h
corner-small ten i h = three-of (λ i. 2 * corner ten i + 1 < 20) (lit< tt) (lit< tt) (lit< tt) i h

less-cancel : (v : Vec) {a b : Vec} → a -ᵥ v ≡ b -ᵥ v → a ≡ b
less-cancel v {a} {b} e = vec-eq (one a.x b.x v.x (ap (λ (c : Vec). c.x) e)) (one a.y b.y v.y (ap (λ (c : Vec). c.y) e))
  where
    back : (x z : ℤ) → x ≡ x -ℤ z +ℤ z
    back x z = solve (x ∷ z ∷ []) (var 0) ((var 0 ⊖ var 1) ⊕ var 1) tt

    one : (x y z : ℤ) → x -ℤ z ≡ y -ℤ z → x ≡ y
    one x y z f = back x z ∙ ap (λ w. w +ℤ z) f ∙ sym (back y z)

module _ (a b : ℤ) (k : Kind) (xs : List ℤ) (e : length xs ≡ 2 * node_count k) where
  corner-moved : (i : ℕ) → i < length (corners k) → node (moved_by a b xs) (corner k i) ≡ node xs (corner k i) -ᵥ record { x = a; y = b }
  corner-moved i h = moved-node a b xs (corner k i) (rw e (corner-small k i h))

  pub collapsed-moved : Collapsed k xs → Collapsed k (moved_by a b xs)
  collapsed-moved c =
      let v : Vec = record { x = a; y = b } in
      record {
        first = c.first;
        second = c.second;
        before = c.before;
        within = c.within;
        together = corner-moved c.first (N.lt_trans c.before c.within) ∙ ap (λ (u : Vec). u -ᵥ v) c.together ∙ sym (corner-moved c.second c.within);
      }

  pub moved-collapsed : Collapsed k (moved_by a b xs) → Collapsed k xs
  moved-collapsed c =
      record {
        first = c.first;
        second = c.second;
        before = c.before;
        within = c.within;
        together = less-cancel (record { x = a; y = b })
            (sym (corner-moved c.first (N.lt_trans c.before c.within)) ∙ c.together ∙ corner-moved c.second c.within);
      }
