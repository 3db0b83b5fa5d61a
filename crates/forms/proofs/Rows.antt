-- Rows of weights: what they weigh is linear in the weights and in the components.
--   weigh-⊕, weigh-⊙, weigh-mix      : linear in the weights
--   weigh-ext, weigh-0, weigh-+, weigh-*, weigh-swap : linear in the components
--   weigh-nonneg, weigh-positive     : signs
--   weigh-unit, weigh-corner         : a row that weighs one component
--   total-⊕, total-⊙, total-mix, length-⊕, length-⊙, length-mix : totals and lengths of sums, multiples and mixtures
--   total-heavy                      : a row with a positive total has weight at some index
--   total-one                        : a row with the total 1 is a corner
--   get_d-⊕, get_d-⊙                   : the weight at an index
-- Assumes nothing.
use mathlib.Core.Path.{◌≡◌, refl, sym, ◌∙◌, ap, ap₂}
use mathlib.Core.List.{List, [], ◌∷◌}
use Prim.Native.Nat.{ℕ, zero, suc, ◌+◌, ◌*◌, max, ◌≤◌, ◌<◌, suc-le-suc}
use native.Mathlib.Nat as N
use native.Mathlib.Omega.{arith}
use lib.IntN.{ℤ, pos, ◌+ℤ◌, ◌*ℤ◌, +ℤ_idl, +ℤ_idr, zero-*ℤ, *ℤ-zero}
use lib.ListN.{get_or, length, set, replicate, length-set, length-replicate}
use lib.Signed.{◌≤ℤ◌, ◌<ℤ◌, ≤ℤ_refl}
use Rattle.algebra.proofs.Ring.{+ℤ-four, *ℤ-distr, *ℤ-distl, *ℤ-assoc, *ℤ-left-comm, 1-*ℤ}
use Rattle.algebra.proofs.Order.{0≤pos, 0<pos, 0≤+, 0≤*, 0<+≤, 0≤+<, 0<*}
use Rattle.forms.specs.Rows.{Row, ◌⊕◌, ◌⊙◌, mix, total, weigh, unit, corner}

-- ---- linear in the weights
pub weigh-⊕ : (a b : Row) (f : ℕ → ℤ) → weigh (a ⊕ b) f ≡ weigh a f +ℤ weigh b f
unfolding weigh
weigh-⊕ [] b f = sym (+ℤ_idl (weigh b f))
weigh-⊕ (x ∷ a) [] f = sym (+ℤ_idr (weigh (x ∷ a) f))
weigh-⊕ (x ∷ a) (y ∷ b) f =
    ap₂ ◌+ℤ◌ (*ℤ-distr (pos x) (pos y) (f 0)) (weigh-⊕ a b (λ i. f (suc i)))
    ∙ +ℤ-four (pos x *ℤ f 0) (pos y *ℤ f 0) (weigh a (λ i. f (suc i))) (weigh b (λ i. f (suc i)))

pub weigh-⊙ : (x : ℕ) (a : Row) (f : ℕ → ℤ) → weigh (x ⊙ a) f ≡ pos x *ℤ weigh a f
unfolding weigh
weigh-⊙ x [] f = sym (*ℤ-zero (pos x))
weigh-⊙ x (y ∷ a) f =
    ap₂ ◌+ℤ◌ (*ℤ-assoc (pos x) (pos y) (f 0)) (weigh-⊙ x a (λ i. f (suc i)))
    ∙ sym (*ℤ-distl (pos x) (pos y *ℤ f 0) (weigh a (λ i. f (suc i))))

pub weigh-mix : (a : Row) (M : ℕ → Row) (f : ℕ → ℤ) → weigh (mix a M) f ≡ weigh a (λ k. weigh (M k) f)
unfolding weigh
weigh-mix [] M f = refl
weigh-mix (x ∷ a) M f =
    weigh-⊕ (x ⊙ M 0) (mix a (λ i. M (suc i))) f
    ∙ ap₂ ◌+ℤ◌ (weigh-⊙ x (M 0) f) (weigh-mix a (λ i. M (suc i)) f)

-- ---- linear in the components
pub weigh-ext : (a : Row) (f g : ℕ → ℤ) → ((i : ℕ) → i < length a → f i ≡ g i) → weigh a f ≡ weigh a g
unfolding weigh
weigh-ext [] f g e = refl
weigh-ext (x ∷ a) f g e =
    ap₂ ◌+ℤ◌ (ap (λ z. pos x *ℤ z) (e 0 (N.zero-lt-suc (length a))))
    (weigh-ext a (λ i. f (suc i)) (λ i. g (suc i)) (λ i h. e (suc i) (suc-le-suc h)))

pub weigh-0 : (a : Row) → weigh a (λ i. pos 0) ≡ pos 0
unfolding weigh
weigh-0 [] = refl
weigh-0 (x ∷ a) = ap₂ ◌+ℤ◌ (*ℤ-zero (pos x)) (weigh-0 a)

pub weigh-+ : (a : Row) (f g : ℕ → ℤ) → weigh a (λ i. f i +ℤ g i) ≡ weigh a f +ℤ weigh a g
unfolding weigh
weigh-+ [] f g = refl
weigh-+ (x ∷ a) f g =
    ap₂ ◌+ℤ◌ (*ℤ-distl (pos x) (f 0) (g 0)) (weigh-+ a (λ i. f (suc i)) (λ i. g (suc i)))
    ∙ +ℤ-four (pos x *ℤ f 0) (pos x *ℤ g 0) (weigh a (λ i. f (suc i))) (weigh a (λ i. g (suc i)))

pub weigh-* : (a : Row) (z : ℤ) (f : ℕ → ℤ) → weigh a (λ i. z *ℤ f i) ≡ z *ℤ weigh a f
unfolding weigh
weigh-* [] z f = sym (*ℤ-zero z)
weigh-* (x ∷ a) z f =
    ap₂ ◌+ℤ◌ (*ℤ-left-comm (pos x) z (f 0)) (weigh-* a z (λ i. f (suc i)))
    ∙ sym (*ℤ-distl z (pos x *ℤ f 0) (weigh a (λ i. f (suc i))))

pub weigh-swap : (a b : Row) (F : ℕ → ℕ → ℤ) → weigh a (λ i. weigh b (λ j. F i j)) ≡ weigh b (λ j. weigh a (λ i. F i j))
unfolding weigh
weigh-swap a [] F = weigh-0 a
weigh-swap a (y ∷ b) F =
    weigh-+ a (λ i. pos y *ℤ F i 0) (λ i. weigh b (λ j. F i (suc j)))
    ∙ ap₂ ◌+ℤ◌ (weigh-* a (pos y) (λ i. F i 0)) (weigh-swap a b (λ i j. F i (suc j)))

-- ---- signs
pub weigh-nonneg : (a : Row) (f : ℕ → ℤ) → ((i : ℕ) → pos 0 ≤ℤ f i) → pos 0 ≤ℤ weigh a f
unfolding weigh
weigh-nonneg [] f h = ≤ℤ_refl (pos 0)
weigh-nonneg (x ∷ a) f h = 0≤+ (0≤* (0≤pos x) (h 0)) (weigh-nonneg a (λ i. f (suc i)) (λ i. h (suc i)))

pub weigh-positive : (a : Row) (f : ℕ → ℤ) → ((i : ℕ) → pos 0 ≤ℤ f i)
    → (k : ℕ)
    → 0 < get_or a k 0
    → pos 0 <ℤ f k
    → pos 0 <ℤ weigh a f
unfolding weigh
weigh-positive [] f h k p q = absurd (N.lt_irrefl 0 p)
weigh-positive (x ∷ a) f h zero p q = 0<+≤ (0<* (0<pos p) q) (weigh-nonneg a (λ i. f (suc i)) (λ i. h (suc i)))
weigh-positive (x ∷ a) f h (suc k) p q =
    0≤+< (0≤* (0≤pos x) (h 0)) (weigh-positive a (λ i. f (suc i)) (λ i. h (suc i)) k p q)

-- ---- rows that weigh one component
pub weigh-unit : (k : ℕ) (f : ℕ → ℤ) → weigh (unit k) f ≡ f k
unfolding weigh
weigh-unit zero f = +ℤ_idr (pos 1 *ℤ f 0) ∙ 1-*ℤ (f 0)
weigh-unit (suc k) f = ap₂ ◌+ℤ◌ (zero-*ℤ (f 0)) (weigh-unit k (λ i. f (suc i))) ∙ +ℤ_idl (f (suc k))

weigh-nothing : (s : ℕ) (f : ℕ → ℤ) → weigh (replicate s 0) f ≡ pos 0
unfolding weigh
weigh-nothing zero f = refl
weigh-nothing (suc s) f = ap₂ ◌+ℤ◌ (zero-*ℤ (f 0)) (weigh-nothing s (λ i. f (suc i)))

pub weigh-corner : (s k : ℕ) → k < s → (f : ℕ → ℤ) → weigh (corner s k) f ≡ f k
unfolding weigh
weigh-corner zero k h f = absurd (N.not-suc-le-zero h)
weigh-corner (suc s) zero h f =
    ap₂ ◌+ℤ◌ (1-*ℤ (f 0)) (weigh-nothing s (λ i. f (suc i))) ∙ +ℤ_idr (f 0)
weigh-corner (suc s) (suc k) h f =
    ap₂ ◌+ℤ◌ (zero-*ℤ (f 0)) (weigh-corner s k (N.le_of_suc-le-suc h) (λ i. f (suc i))) ∙ +ℤ_idl (f (suc k))

-- ---- totals and lengths
pub total-⊕ : (a b : Row) → total (a ⊕ b) ≡ total a + total b
total-⊕ [] b = omega arith
total-⊕ (x ∷ a) [] = omega arith
total-⊕ (x ∷ a) (y ∷ b) = omega (arith, total-⊕ a b)

pub total-⊙ : (x : ℕ) (a : Row) → total (x ⊙ a) ≡ x * total a
total-⊙ x [] = sym (N.mul-zero x)
total-⊙ x (y ∷ a) = ap (λ (n : ℕ). x * y + n) (total-⊙ x a) ∙ sym (N.mul-add x y (total a))

pub length-⊕ : (a b : Row) → length (a ⊕ b) ≡ max (length a) (length b)
length-⊕ [] b = omega arith
length-⊕ (x ∷ a) [] = omega arith
length-⊕ (x ∷ a) (y ∷ b) = omega (arith, length-⊕ a b)

pub length-⊙ : (x : ℕ) (a : Row) → length (x ⊙ a) ≡ length a
length-⊙ x [] = refl
length-⊙ x (y ∷ a) = ap suc (length-⊙ x a)

-- if all rows have the total t, or the length s
pub total-mix : (t : ℕ) (a : Row) (M : ℕ → Row) → ((k : ℕ) → k < length a → total (M k) ≡ t) → total (mix a M) ≡ total a * t
total-mix t [] M h = sym (N.zero-mul t)
total-mix t (x ∷ a) M h =
    total-⊕ (x ⊙ M 0) (mix a (λ i. M (suc i)))
    ∙ ap₂ ◌+◌ (total-⊙ x (M 0) ∙ ap (λ (n : ℕ). x * n) (h 0 (N.zero-lt-suc (length a))))
    (total-mix t a (λ i. M (suc i)) (λ k l. h (suc k) (suc-le-suc l)))
    ∙ sym (N.add-mul x (total a) t)

mix-short : (s : ℕ) (a : Row) (M : ℕ → Row) → ((k : ℕ) → k < length a → length (M k) ≡ s) → length (mix a M) ≤ s
mix-short s [] M h = omega arith
mix-short s (x ∷ a) M h =
    omega (
      arith,
      length-⊕ (x ⊙ M 0) (mix a (λ i. M (suc i))),
      length-⊙ x (M 0),
      h 0 (N.zero-lt-suc (length a)),
      mix-short s a (λ i. M (suc i)) (λ k l. h (suc k) (suc-le-suc l)),
    )

pub length-mix : (s : ℕ) (a : Row) (M : ℕ → Row) → 0 < length a
    → ((k : ℕ) → k < length a → length (M k) ≡ s)
    → length (mix a M) ≡ s
length-mix s [] M p h = absurd (N.lt_irrefl 0 p)
length-mix s (x ∷ a) M p h =
    omega (
      arith,
      length-⊕ (x ⊙ M 0) (mix a (λ i. M (suc i))),
      length-⊙ x (M 0),
      h 0 (N.zero-lt-suc (length a)),
      mix-short s a (λ i. M (suc i)) (λ k l. h (suc k) (suc-le-suc l)),
    )

-- ---- rows by their totals
pub total-heavy : (a : Row) → 0 < total a → (k : ℕ) × (k < length a) × (0 < get_or a k 0)
total-heavy [] h = absurd (N.lt_irrefl 0 h)
total-heavy (suc x ∷ a) h = (0, N.zero-lt-suc (length a), N.zero-lt-suc x)
total-heavy (zero ∷ a) h = let (k, l, p) = total-heavy a (omega arith) in (suc k, suc-le-suc l, p)

total-none : (a : Row) → total a ≡ 0 → a ≡ replicate (length a) 0
total-none [] h = refl
total-none (x ∷ a) h =
    let here : x ≡ 0 = omega arith in let rest : total a ≡ 0 = omega arith in
    ap₂ {B = Row} ◌∷◌ here (total-none a rest)

pub total-one : (a : Row) → total a ≡ 1 → (k : ℕ) × (k < length a) × (a ≡ corner (length a) k)
total-one [] h = absurd (omega arith)
total-one (zero ∷ a) h =
    let (k, l, e) = total-one a (omega arith) in (suc k, suc-le-suc l, ap {B = Row} (λ r. 0 ∷ r) e)
total-one (suc x ∷ a) h =
    let here : suc x ≡ 1 = omega arith in let rest : total a ≡ 0 = omega arith in
    (0, N.zero-lt-suc (length a), ap₂ {B = Row} ◌∷◌ here (total-none a rest))

total-replicate : (s : ℕ) → total (replicate s 0) ≡ 0
total-replicate zero = refl
total-replicate (suc s) = omega (arith, total-replicate s)

pub total-corner : (s k : ℕ) → k < s → total (corner s k) ≡ 1
total-corner zero k h = absurd (N.not-suc-le-zero h)
total-corner (suc s) zero h = omega (arith, total-replicate s)
total-corner (suc s) (suc k) h = omega (arith, total-corner s k (N.le_of_suc-le-suc h))

pub length-corner : (s k : ℕ) → length (corner s k) ≡ s
length-corner s k = length-set (replicate s 0) k 1 ∙ length-replicate s 0

-- ---- the weight at an index
pub get_d-⊕ : (a b : Row) (k : ℕ) → get_or (a ⊕ b) k 0 ≡ get_or a k 0 + get_or b k 0
get_d-⊕ [] b k = omega arith
get_d-⊕ (x ∷ a) [] zero = omega arith
get_d-⊕ (x ∷ a) [] (suc k) = omega arith
get_d-⊕ (x ∷ a) (y ∷ b) zero = refl
get_d-⊕ (x ∷ a) (y ∷ b) (suc k) = get_d-⊕ a b k

pub get_d-⊙ : (x : ℕ) (a : Row) (k : ℕ) → get_or (x ⊙ a) k 0 ≡ x * get_or a k 0
get_d-⊙ x [] k = sym (N.mul-zero x)
get_d-⊙ x (y ∷ a) zero = refl
get_d-⊙ x (y ∷ a) (suc k) = get_d-⊙ x a k
