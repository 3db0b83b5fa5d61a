-- The formulas of specs/ once more, over the operations of any ring: at expressions they are what the solver reads. Each
-- is the definition of specs/ at ℤ by computing, which the laws in Sums.antt rest on. Assumes nothing.
use mathlib.Core.Bool.{cond, ◌&&◌}
use mathlib.Core.List.{List, [], ◌∷◌}
use Prim.Native.Nat.{ℕ, zero, suc, ◌+◌, ◌*◌, ◌-◌, ◌/◌}
use lib.Dec.{eqb}
use Rattle.algebra.specs.Ops.{Ops}
use Rattle.forms.specs.Binomials.{choose}

pub record Pair (A : Type 0) : Type 0 where
  pub x : A
  pub y : A

module _ {A : Type 0} (o : Ops A) where
  open o use {add as ◌⊞◌, sub as ◌⊟◌, mul as ◌⊠◌, num}

  infixl 60 ◌⊞◌ ◌⊟◌
  infixl 70 ◌⊠◌
  -- ---- the plane
  abbrev pub plus : Pair A → Pair A → Pair A
  plus a b = record { x = a.x ⊞ b.x; y = a.y ⊞ b.y }

  abbrev pub less : Pair A → Pair A → Pair A
  less a b = record { x = a.x ⊟ b.x; y = a.y ⊟ b.y }

  abbrev pub by : A → Pair A → Pair A
  by k a = record { x = k ⊠ a.x; y = k ⊠ a.y }

  abbrev pub det : Pair A → Pair A → A
  det a b = a.x ⊠ b.y ⊟ a.y ⊠ b.x

  abbrev pub sum : ℕ → (ℕ → A) → A
  sum zero f = num 0
  sum (suc n) f = sum n f ⊞ f n

  abbrev pub sum_p : ℕ → (ℕ → Pair A) → Pair A
  sum_p n f = record { x = sum n (λ i. (f i).x); y = sum n (λ i. (f i).y) }

  -- ---- triangle, with the nodes N 0 .. N 5
  module _ (N : ℕ → Pair A) where
    abbrev pub slopeξ : A → A → A → Pair A
    slopeξ p q r =
        plus (plus (less (by (num 4 ⊠ q ⊟ (p ⊞ q ⊞ r)) (N 1)) (by (num 4 ⊠ p ⊟ (p ⊞ q ⊞ r)) (N 0))) (by (num 4 ⊠ (p ⊟ q)) (N 3)))
        (by (num 4 ⊠ r) (less (N 4) (N 5)))

    abbrev pub slopeη : A → A → A → Pair A
    slopeη p q r =
        plus (plus (less (by (num 4 ⊠ r ⊟ (p ⊞ q ⊞ r)) (N 2)) (by (num 4 ⊠ p ⊟ (p ⊞ q ⊞ r)) (N 0))) (by (num 4 ⊠ (p ⊟ r)) (N 5)))
        (by (num 4 ⊠ q) (less (N 4) (N 3)))

    abbrev pub J6 : A → A → A → A
    J6 p q r = det (slopeξ p q r) (slopeη p q r)

    abbrev pub doubled : ℕ → Pair A
    doubled k = by (num 2) (N k)

    abbrev pub between : ℕ → ℕ → ℕ → Pair A
    between m a b = less (less (by (num 4) (N m)) (N a)) (N b)

    abbrev pub a6 : ℕ → Pair A
    a6 zero = less (between 3 0 1) (doubled 0)
    a6 (suc zero) = less (doubled 1) (between 3 0 1)
    a6 (suc (suc k)) = less (between 4 1 2) (between 5 0 2)

    abbrev pub b6 : ℕ → Pair A
    b6 zero = less (between 5 0 2) (doubled 0)
    b6 (suc zero) = less (between 4 1 2) (between 3 0 1)
    b6 (suc (suc k)) = less (doubled 2) (between 5 0 2)

    -- c00, c11, c22, c01, c12, c02
    abbrev pub c6 : ℕ → A
    c6 zero = num 2 ⊠ det (a6 0) (b6 0)
    c6 (suc zero) = num 2 ⊠ det (a6 1) (b6 1)
    c6 (suc (suc zero)) = num 2 ⊠ det (a6 2) (b6 2)
    c6 (suc (suc (suc zero))) = det (a6 0) (b6 1) ⊞ det (a6 1) (b6 0)
    c6 (suc (suc (suc (suc zero)))) = det (a6 1) (b6 2) ⊞ det (a6 2) (b6 1)
    c6 (suc (suc (suc (suc (suc k))))) = det (a6 0) (b6 2) ⊞ det (a6 2) (b6 0)

  abbrev pub sum6 : (ℕ → A) → A → A → A → A
  sum6 c p q r =
      c 0 ⊠ (p ⊠ p) ⊞ c 1 ⊠ (q ⊠ q) ⊞ c 2 ⊠ (r ⊠ r) ⊞ num 2 ⊠ (c 3 ⊠ (p ⊠ q) ⊞ c 4 ⊠ (q ⊠ r) ⊞ c 5 ⊠ (p ⊠ r))

  -- ---- quad
  abbrev pub s : A → A → ℕ → A
  s p m zero = (m ⊟ p) ⊠ (m ⊟ num 2 ⊠ p)
  s p m (suc zero) = num 4 ⊠ p ⊠ (m ⊟ p)
  s p m (suc (suc i)) = p ⊠ (num 2 ⊠ p ⊟ m)

  abbrev pub s' : A → A → ℕ → A
  s' p m zero = num 4 ⊠ p ⊟ num 3 ⊠ m
  s' p m (suc zero) = num 4 ⊠ m ⊟ num 8 ⊠ p
  s' p m (suc (suc i)) = num 4 ⊠ p ⊟ m

  module _ (N : ℕ → ℕ → Pair A) (p m q n : A) where
    abbrev pub slope_u : Pair A
    slope_u = sum_p 3 (λ i. sum_p 3 (λ j. by (s' p m i ⊠ s q n j) (N i j)))

    abbrev pub slope_v : Pair A
    slope_v = sum_p 3 (λ i. sum_p 3 (λ j. by (s p m i ⊠ s' q n j) (N i j)))

    abbrev pub JQ : A
    JQ = det slope_u slope_v

  module _ (N : ℕ → ℕ → Pair A) where
    abbrev pub edge_sum : Pair A
    edge_sum = plus (plus (plus (N 1 0) (N 0 1)) (N 2 1)) (N 1 2)

    abbrev pub corner_sum : Pair A
    corner_sum = plus (plus (plus (N 0 0) (N 2 0)) (N 0 2)) (N 2 2)

    abbrev pub centre9 : Pair A
    centre9 = plus (less (by (num 16) (N 1 1)) (by (num 4) edge_sum)) corner_sum

    abbrev pub centre8 : Pair A
    centre8 = less (by (num 4) edge_sum) (by (num 3) corner_sum)

    abbrev pub centre_node : Pair A
    centre_node = less (by (num 2) edge_sum) corner_sum

    abbrev pub fourfold : Pair A → ℕ → ℕ → Pair A
    fourfold c i j = cond (eqb i 1 && eqb j 1) c (by (num 4) (N i j))

    abbrev pub edge : Pair A → Pair A → Pair A → Pair A
    edge m a b = less (less (by (num 8) m) (by (num 2) a)) (by (num 2) b)

    abbrev pub points : Pair A → ℕ → ℕ → Pair A
    points c zero zero = by (num 4) (N 0 0)
    points c (suc zero) zero = edge (N 1 0) (N 0 0) (N 2 0)
    points c (suc (suc i)) zero = by (num 4) (N 2 0)
    points c zero (suc zero) = edge (N 0 1) (N 0 0) (N 0 2)
    points c (suc zero) (suc zero) = c
    points c (suc (suc i)) (suc zero) = edge (N 2 1) (N 2 0) (N 2 2)
    points c zero (suc (suc j)) = by (num 4) (N 0 2)
    points c (suc zero) (suc (suc j)) = edge (N 1 2) (N 0 2) (N 2 2)
    points c (suc (suc i)) (suc (suc j)) = by (num 4) (N 2 2)

  module _ (R : ℕ → ℕ → Pair A) where
    abbrev pub term : ℕ → ℕ → ℕ → ℕ → ℕ → ℕ → A
    term I J i1 i2 j1 j2 =
        cond (eqb (i1 + i2) I && eqb (j1 + j2) J)
        (num (choose 2 i2 * choose 2 j1) ⊠ det (less (R (i1 + 1) j1) (R i1 j1)) (less (R i2 (j2 + 1)) (R i2 j2))) (num 0)

    abbrev pub value : ℕ → ℕ → A
    value I J = num (9 / (choose 3 I * choose 3 J)) ⊠ sum 2 (λ i1. sum 3 (λ i2. sum 3 (λ j1. sum 2 (λ j2. term I J i1 i2 j1 j2))))

  abbrev pub power : A → ℕ → A
  power z zero = num 1
  power z (suc n) = power z n ⊠ z

  abbrev pub bernstein : A → A → ℕ → A
  bernstein p m I = num (choose 3 I) ⊠ (power p I ⊠ power (m ⊟ p) (3 - I))

  abbrev pub sum9 : (ℕ → ℕ → A) → A → A → A → A → A
  sum9 c p m q n = sum 4 (λ I. sum 4 (λ J. c I J ⊠ (bernstein p m I ⊠ bernstein q n J)))

  -- ---- the value of a form whose entries are c, as forms' `value` has it
  abbrev pub weigh : List A → (ℕ → A) → A
  weigh [] f = num 0
  weigh (w ∷ ws) f = w ⊠ f 0 ⊞ weigh ws (λ i. f (suc i))

  abbrev pub form_value : List (List A) → (List ℕ → A) → A
  form_value [] T = T []
  form_value (w ∷ ws) T = weigh w (λ i. form_value ws (λ ks. T (i ∷ ks)))
