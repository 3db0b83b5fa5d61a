-- J and the control values do not move with the origin (02, Ask 7).
--   moved_length, moved_at, first-length, first-at : the moved list, place by place
--   axis-at          : the first node's number along the axis of a place
--   moved-node, first-node : node by node: a vector is taken from each, and from the first node on it is the first node
--   first-moved      : from the first node a list is the same wherever it is moved to
--   numbers-all      : a list is that of its own numbers
--   jacobian-moved   : J from the nodes stays, at every place
--   values_moved, values-first : so do the control values
--   each_first, inside-first : differences are at most twice as large
--   node-count       : a kind's number is its node count
-- For all kinds. Assumes nothing.
use mathlib.Core.Path.{◌≡◌, refl, sym, ◌∙◌, ap, ap₂, subst}
use mathlib.Core.Bool.{Bool, true, false, cond}
use mathlib.Core.List.{List, [], ◌∷◌}
use mathlib.Core.Logic.{◌⊎◌, inl, inr}
use Prim.Native.Nat.{ℕ, zero, suc, ◌+◌, ◌*◌, ◌%◌, ◌≤◌, ◌<◌}
use native.Mathlib.Nat as N
use native.Mathlib.Omega.{arith}
use borrow.Author.Tests.{eqb-true, eqb-false}
use lib.Dec.{eqb}
use lib.IntN.{ℤ, pos, ◌-ℤ◌, ◌*ℤ◌}
use lib.ListN.{length}
use lib.Seq.{ext_get_or}
use Rattle.algebra.specs.Expr.{Expr, exprs, var, ◌⊖◌}
use Rattle.algebra.specs.Within.{Each}
use Rattle.algebra.proofs.Solve.{solve}
use Rattle.algebra.proofs.Fill.{length-list_to, get_d-list_to}
use Rattle.algebra.proofs.Within.{within--, each_of, each-≤}
use Rattle.element.specs.Kinds.{Kind, six, eight, nine, ten, node_count, kind_of, NotKind, coordinate_limit, scale}
use Rattle.element.specs.Plane.{◌-ᵥ◌}
use Rattle.element.specs.Nodes.{node, place8}
use Rattle.element.specs.Places.{Place}
use Rattle.element.specs.Cubic as C3
use Rattle.element.specs.Cubic.{J10}
use Rattle.element.specs.Jacobian.{slopeξ, slopeη, J6, slope_u, slope_v, J9, fourfold8, J8, jacobian}
use Rattle.element.specs.Control.{control_values, at}
use Rattle.element.specs.Origin.{by_axis, moved_by, from_first, Inside}
use Rattle.element.proofs.Plane.{vec-eq}
use Rattle.element.proofs.Formulas as E
use Rattle.element.proofs.CubicFormulas as C
use Rattle.element.proofs.Sums.{node_e, A9E, A8E, numbers}
use Rattle.element.proofs.Places.{control-is-J}
use Rattle.element.proofs.Values.{values_length, values-only}

-- ---- place by place
pub moved_length : (a b : ℤ) (xs : List ℤ) → length (moved_by a b xs) ≡ length xs
moved_length a b xs = length-list_to (length xs) (λ k. at xs k -ℤ by_axis a b k)

pub moved_at : (a b : ℤ) (xs : List ℤ) (k : ℕ) → k < length xs → at (moved_by a b xs) k ≡ at xs k -ℤ by_axis a b k
moved_at a b xs k h = get_d-list_to (length xs) (λ k. at xs k -ℤ by_axis a b k) k h

pub axis-at : (xs : List ℤ) (k : ℕ) → at xs (k % 2) ≡ by_axis (at xs 0) (at xs 1) k
axis-at xs k = go (k % 2) (let h : k % 2 < 2 = omega arith in h)
  where
    go : (r : ℕ) → r < 2 → at xs r ≡ cond (eqb r 0) (at xs 0) (at xs 1)
    go zero h = refl
    go (suc zero) h = refl
    go (suc (suc r)) h = absurd (omega arith)

pub first-at : (xs : List ℤ) (k : ℕ) → k < length xs → at (from_first xs) k ≡ at xs k -ℤ at xs (k % 2)
first-at xs k h = moved_at (at xs 0) (at xs 1) xs k h ∙ ap (λ z. at xs k -ℤ z) (sym (axis-at xs k))

-- ---- node by node
axis-x : (a b : ℤ) (k : ℕ) → by_axis a b (2 * k) ≡ a
axis-x a b k = ap (λ m. cond (eqb m 0) a b) (let e : 2 * k % 2 ≡ 0 = omega arith in e)

axis-y : (a b : ℤ) (k : ℕ) → by_axis a b (2 * k + 1) ≡ b
axis-y a b k = ap (λ m. cond (eqb m 0) a b) (let e : (2 * k + 1) % 2 ≡ 1 = omega arith in e)

pub moved-node : (a b : ℤ) (xs : List ℤ) (k : ℕ) → 2 * k + 1 < length xs → node (moved_by a b xs) k ≡ node xs k -ᵥ record { x = a; y = b }
moved-node a b xs k h =
    vec-eq (moved_at a b xs (2 * k) (omega arith) ∙ ap (λ z. at xs (2 * k) -ℤ z) (axis-x a b k))
    (moved_at a b xs (2 * k + 1) h ∙ ap (λ z. at xs (2 * k + 1) -ℤ z) (axis-y a b k))

pub first-node : (xs : List ℤ) (k : ℕ) → 2 * k + 1 < length xs → node (from_first xs) k ≡ node xs k -ᵥ node xs 0
first-node xs k h = moved-node (at xs 0) (at xs 1) xs k h

-- ---- from the first node
pub first-length : (xs : List ℤ) → length (from_first xs) ≡ length xs
first-length xs = moved_length (at xs 0) (at xs 1) xs

pub first-moved : (a b : ℤ) (xs : List ℤ) → from_first (moved_by a b xs) ≡ from_first xs
first-moved a b xs =
    let ys = moved_by a b xs in
    ext_get_or (pos 0) (from_first ys) (from_first xs) (first-length ys ∙ moved_length a b xs ∙ sym (first-length xs))
    (λ k h. go k (rw (first-length ys, moved_length a b xs) at h))
  where
    go : (k : ℕ) → k < length xs → at (from_first (moved_by a b xs)) k ≡ at (from_first xs) k
    go k h =
        let c = by_axis a b k in
        let l : k % 2 < length xs = omega arith in
        let e : k % 2 % 2 ≡ k % 2 = omega arith in
        first-at (moved_by a b xs) k (rw (moved_length a b xs) h)
        ∙ ap₂ ◌-ℤ◌ (moved_at a b xs k h) (moved_at a b xs (k % 2) l ∙ ap (λ m. at xs (k % 2) -ℤ cond (eqb m 0) a b) e)
        ∙ solve (at xs k ∷ at xs (k % 2) ∷ c ∷ []) ((var 0 ⊖ var 2) ⊖ (var 1 ⊖ var 2)) (var 0 ⊖ var 1) tt
        ∙ sym (first-at xs k h)

-- ---- the list of its own numbers
numbers-length : (c : List ℤ) (n k : ℕ) → length (numbers c k n) ≡ n
numbers-length c zero k = refl
numbers-length c (suc n) k = ap suc (numbers-length c n (k + 1))

numbers-at : (c : List ℤ) (n k i : ℕ) → i < n → at (numbers c k n) i ≡ at c (k + i)
numbers-at c zero k i h = absurd (N.not-suc-le-zero h)
numbers-at c (suc n) k zero h = ap (at c) (let e : k ≡ k + 0 = omega arith in e)
numbers-at c (suc n) k (suc i) h = numbers-at c n (k + 1) i (N.le_of_suc-le-suc h) ∙ ap (at c) (let e : k + 1 + i ≡ k + suc i = omega arith in e)

pub numbers-all : (n : ℕ) (xs : List ℤ) → length xs ≡ n → numbers xs 0 n ≡ xs
numbers-all n xs e =
    ext_get_or (pos 0) (numbers xs 0 n) xs (numbers-length xs n 0 ∙ sym e)
    (λ i h. numbers-at xs n 0 i (rw (numbers-length xs n 0) at h) ∙ ap (at xs) (let e : 0 + i ≡ i = omega arith in e))

-- ---- J: by the ring solver. a and b stand first, then the place, then the coordinates from variable n on
abbrev pub moved_e : ℕ → ℕ → E.Pair Expr
moved_e n k = E.less exprs (node_e n k) (record { x = var 0; y = var 1 })

module _ (a b : ℤ) (xs : List ℤ) where
  J6-moved : (p q r : ℕ) → J6 (moved_by a b (numbers xs 0 12)) p q r ≡ J6 (numbers xs 0 12) p q r
  unfolding J6 slopeξ slopeη
  J6-moved p q r =
      solve
      (a ∷ b ∷ pos p ∷ pos q ∷ pos r ∷ numbers xs 0 12)
      (E.J6 exprs (moved_e 5) (var 2) (var 3) (var 4))
      (E.J6 exprs (node_e 5) (var 2) (var 3) (var 4)) tt

  J9-moved : (p m q n : ℕ) → J9 (moved_by a b (numbers xs 0 18)) p m q n ≡ J9 (numbers xs 0 18) p m q n
  unfolding J9 slope_u slope_v
  J9-moved p m q n =
      solve
      (a ∷ b ∷ pos p ∷ pos m ∷ pos q ∷ pos n ∷ numbers xs 0 18)
      (E.JQ exprs (λ i j. moved_e 6 (i + 3 * j)) (var 2) (var 3) (var 4) (var 5))
      (E.JQ exprs (A9E 6) (var 2) (var 3) (var 4) (var 5)) tt

  J8-moved : (p m q n : ℕ) → J8 (moved_by a b (numbers xs 0 16)) p m q n ≡ J8 (numbers xs 0 16) p m q n
  unfolding J8 slope_u slope_v fourfold8
  J8-moved p m q n =
      solve
      (a ∷ b ∷ pos p ∷ pos m ∷ pos q ∷ pos n ∷ numbers xs 0 16)
      (E.JQ exprs (E.fourfold exprs (λ i j. moved_e 6 (place8 i j)) (E.centre_node exprs (λ i j. moved_e 6 (place8 i j)))) (var 2) (var 3) (var 4) (var 5))
      (E.JQ exprs (E.fourfold exprs (A8E 6) (E.centre_node exprs (A8E 6))) (var 2) (var 3) (var 4) (var 5)) tt

  J10-moved : (p q r : ℕ) → J10 (moved_by a b (numbers xs 0 20)) p q r ≡ J10 (numbers xs 0 20) p q r
  unfolding J10 C3.slopeξ C3.slopeη
  J10-moved p q r =
      solve
      (a ∷ b ∷ pos p ∷ pos q ∷ pos r ∷ numbers xs 0 20)
      (C.J10 exprs (C.R10 exprs (moved_e 5)) (var 2) (var 3) (var 4))
      (C.J10 exprs (C.R10 exprs (node_e 5)) (var 2) (var 3) (var 4)) tt

  pub jacobian-moved : (k : Kind) → length xs ≡ 2 * node_count k → (x : Place k) → jacobian k (moved_by a b xs) x ≡ jacobian k xs x
  jacobian-moved six e x =
      subst (λ (l : List ℤ). J6 (moved_by a b l) x.p x.q x.r ≡ J6 l x.p x.q x.r) (numbers-all 12 xs e)
      (J6-moved x.p x.q x.r)
  jacobian-moved eight e x =
      subst (λ (l : List ℤ). J8 (moved_by a b l) x.p x.m x.q x.n ≡ J8 l x.p x.m x.q x.n) (numbers-all 16 xs e)
      (J8-moved x.p x.m x.q x.n)
  jacobian-moved nine e x =
      subst (λ (l : List ℤ). J9 (moved_by a b l) x.p x.m x.q x.n ≡ J9 l x.p x.m x.q x.n) (numbers-all 18 xs e)
      (J9-moved x.p x.m x.q x.n)
  jacobian-moved ten e x =
      subst (λ (l : List ℤ). J10 (moved_by a b l) x.p x.q x.r ≡ J10 l x.p x.q x.r) (numbers-all 20 xs e)
      (J10-moved x.p x.q x.r)

  -- the control values are the only ones whose sum is the scaled J
  pub values_moved : (k : Kind) → length xs ≡ 2 * node_count k → control_values k (moved_by a b xs) ≡ control_values k xs
  values_moved k e =
      values-only k xs (control_values k (moved_by a b xs)) (values_length k (moved_by a b xs))
      (λ x. control-is-J k (moved_by a b xs) x ∙ ap (λ z. pos (scale k 0) *ℤ z) (jacobian-moved k e x))

pub values-first : (k : Kind) (xs : List ℤ) → length xs ≡ 2 * node_count k → control_values k (from_first xs) ≡ control_values k xs
values-first k xs e = values_moved (at xs 0) (at xs 1) xs k e

-- ---- sizes
pub each_first : {n : ℕ} {xs : List ℤ} → Each n xs → Each (n + n) (from_first xs)
each_first {n} {xs} p =
    each_of
    (λ k h.
    let l : k < length xs = rw (first-length xs) at h in
    rw (first-at xs k l) (within-- (p.at k) (p.at (k % 2))))

pub inside-first : {k : Kind} {xs : List ℤ} → Inside k xs → Each (coordinate_limit k + coordinate_limit k) (from_first xs)
inside-first {k} {xs} p = go p.range
  where
    go : Each (coordinate_limit k) xs ⊎ Each (coordinate_limit k) (from_first xs) → Each (coordinate_limit k + coordinate_limit k) (from_first xs)
    go (inl e) = each_first e
    go (inr e) = each-≤ e (N.le-add_right (coordinate_limit k) (coordinate_limit k))

-- ---- the kind of a number
pub node-count : (n : ℕ) → ¬ NotKind n → node_count (kind_of n) ≡ n
node-count n f = go (eqb n 6) (eqb n 8) (eqb n 10) (eqb n 9) refl refl refl refl
  where
    go : (x y t z : Bool) → eqb n 6 ≡ x → eqb n 8 ≡ y → eqb n 10 ≡ t → eqb n 9 ≡ z
        → node_count (cond x six (cond y eight (cond t ten nine))) ≡ n
    go true y t z p q s r = sym (eqb-true n 6 p)
    go false true t z p q s r = sym (eqb-true n 8 q)
    go false false true z p q s r = sym (eqb-true n 10 s)
    go false false false true p q s r = sym (eqb-true n 9 r)
    go false false false false p q s r = absurd (f ((eqb-false n 6 p, eqb-false n 8 q, eqb-false n 9 r), eqb-false n 10 s))
