-- The formulas of specs/Cubic.antt and specs/Lagrange.antt once more, over the operations of any ring, as Formulas.antt has those
-- of the other kinds. Assumes nothing.
use mathlib.Core.Bool.{cond, ◌&&◌}
use Prim.Native.Nat.{ℕ, zero, suc, ◌+◌, ◌*◌, ◌-◌, ◌/◌}
use lib.Dec.{eqb}
use Rattle.algebra.specs.Ops.{Ops}
use Rattle.forms.specs.Binomials.{multinomial}
use Rattle.element.proofs.Formulas.{Pair, plus, less, by, det, sum, power}

module _ {A : Type 0} (o : Ops A) where
  open o use {add as ◌⊞◌, sub as ◌⊟◌, mul as ◌⊠◌, num}

  infixl 60 ◌⊞◌ ◌⊟◌ ◌+ₚ◌ ◌-ₚ◌
  infixl 70 ◌⊠◌ ◌*ₚ◌
  abbrev ◌+ₚ◌ : Pair A → Pair A → Pair A
  a +ₚ b = plus o a b

  abbrev ◌-ₚ◌ : Pair A → Pair A → Pair A
  a -ₚ b = less o a b

  abbrev ◌*ₚ◌ : A → Pair A → Pair A
  k *ₚ a = by o k a

  abbrev pub sum3 : ℕ → (ℕ → ℕ → ℕ → A) → A
  sum3 n f = sum o (suc n) (λ i. sum o (suc n - i) (λ j. f i j (n - i - j)))

  abbrev pub sum3P : ℕ → (ℕ → ℕ → ℕ → Pair A) → Pair A
  sum3P n f = record { x = sum3 n (λ i j k. (f i j k).x); y = sum3 n (λ i j k. (f i j k).y) }

  -- ---- control points from the nodes N 0 .. N 9
  module _ (N : ℕ → Pair A) where
    abbrev pub beside : ℕ → ℕ → ℕ → ℕ → Pair A
    beside a m n b = num 2 *ₚ (num 18 *ₚ N m -ₚ num 5 *ₚ N a -ₚ num 9 *ₚ N n +ₚ num 2 *ₚ N b)

    abbrev pub inner : Pair A
    inner =
        num 54 *ₚ N 9 +ₚ num 4 *ₚ (N 0 +ₚ N 1 +ₚ N 2)
        -ₚ num 9 *ₚ (N 3 +ₚ N 4 +ₚ N 5 +ₚ N 6 +ₚ N 7 +ₚ N 8)

    abbrev pub R10 : ℕ → ℕ → ℕ → Pair A
    R10 zero zero k = num 12 *ₚ N 2
    R10 zero (suc zero) k = beside 2 6 5 1
    R10 zero (suc (suc zero)) k = beside 1 5 6 2
    R10 zero (suc (suc (suc j))) k = num 12 *ₚ N 1
    R10 (suc zero) zero k = beside 2 7 8 0
    R10 (suc zero) (suc zero) k = inner
    R10 (suc zero) (suc (suc j)) k = beside 1 4 3 0
    R10 (suc (suc zero)) zero k = beside 0 8 7 2
    R10 (suc (suc zero)) (suc j) k = beside 0 3 4 1
    R10 (suc (suc (suc i))) j k = num 12 *ₚ N 0

    abbrev corner : A → A → A
    corner w p = p ⊠ (num 3 ⊠ p ⊟ w) ⊠ (num 3 ⊠ p ⊟ num 2 ⊠ w)

    abbrev near : A → A → A → A
    near w p q = num 9 ⊠ (p ⊠ q ⊠ (num 3 ⊠ p ⊟ w))

    abbrev pub lagrange : A → A → A → Pair A
    lagrange p q r =
        let w : A = p ⊞ q ⊞ r in
        corner w p *ₚ N 0 +ₚ corner w q *ₚ N 1 +ₚ corner w r *ₚ N 2
        +ₚ near w p q *ₚ N 3 +ₚ near w q p *ₚ N 4 +ₚ near w q r *ₚ N 5 +ₚ near w r q *ₚ N 6
        +ₚ near w r p *ₚ N 7 +ₚ near w p r *ₚ N 8 +ₚ (num 54 ⊠ (p ⊠ q ⊠ r)) *ₚ N 9

  -- ---- what control points give
  abbrev pub blend : A → A → A → ℕ → ℕ → ℕ → A
  blend p q r i j k = num (multinomial i j k) ⊠ (power o p i ⊠ power o q j ⊠ power o r k)

  module _ (R : ℕ → ℕ → ℕ → Pair A) where
    abbrev pub along : ℕ → ℕ → ℕ → Pair A
    along i j k = R i (j + 1) k -ₚ R (i + 1) j k

    abbrev pub aside : ℕ → ℕ → ℕ → Pair A
    aside i j k = R i j (k + 1) -ₚ R (i + 1) j k

    abbrev pub blended : ℕ → A → A → A → Pair A
    blended n p q r = sum3P n (λ i j k. blend p q r i j k *ₚ R i j k)

    abbrev pub term10 : ℕ → ℕ → ℕ → ℕ → ℕ → ℕ → ℕ → ℕ → ℕ → A
    term10 I J K i1 j1 k1 i2 j2 k2 =
        cond (eqb (i1 + i2) I && eqb (j1 + j2) J && eqb (k1 + k2) K)
        (num (multinomial i1 j1 k1 * multinomial i2 j2 k2) ⊠ det o (along i1 j1 k1) (aside i2 j2 k2)) (num 0)

    abbrev pub value10 : ℕ → ℕ → ℕ → A
    value10 I J K =
        num (12 / multinomial I J K) ⊠ sum3 2 (λ i1 j1 k1. sum3 2 (λ i2 j2 k2. term10 I J K i1 j1 k1 i2 j2 k2))

    abbrev pub J10 : A → A → A → A
    J10 p q r = det o (sum3P 2 (λ i j k. blend p q r i j k *ₚ along i j k)) (sum3P 2 (λ i j k. blend p q r i j k *ₚ aside i j k))

  abbrev pub sum10 : (ℕ → ℕ → ℕ → A) → A → A → A → A
  sum10 c p q r = sum3 4 (λ I J K. c I J K ⊠ blend p q r I J K)
