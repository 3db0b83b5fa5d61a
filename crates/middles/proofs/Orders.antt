-- The order of the sets: of two different ones exactly one is chosen before the other.
--   weight s        == a number that rises with the order: 4 for M01, 6 for M12, 7 for M02
--   sooner-lighter, lighter-sooner : the sooner set is the lighter one
--   sooner-total    : of two sets one is the sooner, or they are the same
--   sooner-asym, sooner-irrefl, sooner-trans : and so it is an order
--   least-only      : at most one set with a property has none with it before it
--   none_first      : no set comes before the one that replaces nothing
--   size_none       : which alone replaces nothing
-- Assumes nothing.
use mathlib.Core.Path.{◌≡◌, refl, sym, ◌∙◌, ap, subst}
use mathlib.Core.Bool.{Bool, true, false}
use mathlib.Core.Logic.{◌⊎◌, inl, inr}
use Prim.Native.Nat.{ℕ, ◌+◌, ◌*◌, ◌≤◌, ◌<◌}
use native.Mathlib.Nat as N
use native.Mathlib.Decide.{dec_lt}
use native.Mathlib.Omega.{arith}
use lib.Dec.{lit≤, lit<}
use Rattle.middles.specs.declared.Replaced.{Replaced}
use Rattle.middles.specs.Middles.{Middle, M01, M12, M02, has}
use Rattle.middles.specs.Sets.{none, one, size, rank, FirstReplaced, Sooner}

abbrev pub weight : Replaced → ℕ
weight s = 4 * one s.m01 + 6 * one s.m12 + 7 * one s.m02

one-≤ : (b : Bool) → one b ≤ 1
one-≤ true = lit≤ tt
one-≤ false = lit≤ tt

module _ (a b : Replaced) where
  pub sooner-lighter : Sooner a b → weight a < weight b
  sooner-lighter (inl h) =
      omega (arith, one-≤ a.m01, one-≤ a.m12, one-≤ a.m02, one-≤ b.m01, one-≤ b.m12, one-≤ b.m02)
  sooner-lighter (inr (e, f)) = go f.node f.replaced f.kept f.same_before
    where
      go : (n : Middle) → has a n ≡ true → has b n ≡ false → ((m : Middle) → rank m < rank n → has a m ≡ has b m) → weight a < weight b
      go M01 p q s = omega (arith, ap one p, ap one q, one-≤ a.m12, one-≤ a.m02, one-≤ b.m12, one-≤ b.m02)
      go M12 p q s = omega (arith, ap one p, ap one q, ap one (s M01 (lit< tt)), one-≤ a.m02, one-≤ b.m02)
      go M02 p q s = omega (arith, ap one p, ap one q, ap one (s M01 (lit< tt)), ap one (s M12 (lit< tt)))

  at-m01 : a.m01 ≡ true → b.m01 ≡ false → FirstReplaced a b
  at-m01 e f = record { node = M01; replaced = e; kept = f; same_before = λ m h. absurd (N.not-suc-le-zero h) }

  at-m12 : a.m01 ≡ b.m01 → a.m12 ≡ true → b.m12 ≡ false → FirstReplaced a b
  at-m12 p e f = record { node = M12; replaced = e; kept = f; same_before = same }
    where
      same : (m : Middle) → rank m < 1 → has a m ≡ has b m
      same M01 h = p
      same M12 h = absurd (omega arith)
      same M02 h = absurd (omega arith)

  at-m02 : a.m01 ≡ b.m01 → a.m12 ≡ b.m12 → a.m02 ≡ true → b.m02 ≡ false → FirstReplaced a b
  at-m02 p q e f = record { node = M02; replaced = e; kept = f; same_before = same }
    where
      same : (m : Middle) → rank m < 2 → has a m ≡ has b m
      same M01 h = p
      same M12 h = q
      same M02 h = absurd (omega arith)

  set-≡ : a.m01 ≡ b.m01 → a.m12 ≡ b.m12 → a.m02 ≡ b.m02 → a ≡ b
  set-≡ p q r = λ i. record { m01 = p i; m12 = q i; m02 = r i }

-- ---- total
abbrev Compared : Replaced → Replaced → Type 0
Compared a b = FirstReplaced a b ⊎ ((a ≡ b) ⊎ FirstReplaced b a)

-- by the first node in which two sets differ
compare : (a b : Replaced) → Compared a b
compare a b = first a.m01 b.m01 refl refl
  where
    third : a.m01 ≡ b.m01 → a.m12 ≡ b.m12 → (x y : Bool) → a.m02 ≡ x → b.m02 ≡ y → Compared a b
    third p q true true e f = inr (inl (set-≡ a b p q (e ∙ sym f)))
    third p q true false e f = inl (at-m02 a b p q e f)
    third p q false true e f = inr (inr (at-m02 b a (sym p) (sym q) f e))
    third p q false false e f = inr (inl (set-≡ a b p q (e ∙ sym f)))

    second : a.m01 ≡ b.m01 → (x y : Bool) → a.m12 ≡ x → b.m12 ≡ y → Compared a b
    second p true true e f = third p (e ∙ sym f) a.m02 b.m02 refl refl
    second p true false e f = inl (at-m12 a b p e f)
    second p false true e f = inr (inr (at-m12 b a (sym p) f e))
    second p false false e f = third p (e ∙ sym f) a.m02 b.m02 refl refl

    first : (x y : Bool) → a.m01 ≡ x → b.m01 ≡ y → Compared a b
    first true true e f = second (e ∙ sym f) a.m12 b.m12 refl refl
    first true false e f = inl (at-m01 a b e f)
    first false true e f = inr (inr (at-m01 b a f e))
    first false false e f = second (e ∙ sym f) a.m12 b.m12 refl refl

pub not-lt : {m n : ℕ} → ¬ (m < n) → n ≤ m
not-lt h = N.le_of_suc-le-suc (N.lt_of_not-le h)

pub sooner-total : (a b : Replaced) → Sooner a b ⊎ ((a ≡ b) ⊎ Sooner b a)
sooner-total a b = go (dec_lt (size a) (size b)) (dec_lt (size b) (size a))
  where
    equal : size a ≡ size b → Compared a b → Sooner a b ⊎ ((a ≡ b) ⊎ Sooner b a)
    equal e (inl f) = inl (inr (e, f))
    equal e (inr (inl f)) = inr (inl f)
    equal e (inr (inr f)) = inr (inr (inr (sym e, f)))

    go : Dec (size a < size b) → Dec (size b < size a) → Sooner a b ⊎ ((a ≡ b) ⊎ Sooner b a)
    go (yes h) d = inl (inl h)
    go (no h) (yes k) = inr (inr (inl k))
    go (no h) (no k) = equal (N.le_antisymm (not-lt k) (not-lt h)) (compare a b)

-- ---- an order
pub sooner-asym : (a b : Replaced) → Sooner a b → ¬ Sooner b a
sooner-asym a b h k = N.lt_irrefl (weight a) (N.lt_trans (sooner-lighter a b h) (sooner-lighter b a k))

pub sooner-irrefl : (a : Replaced) → ¬ Sooner a a
sooner-irrefl a h = sooner-asym a a h h

pub lighter-sooner : (a b : Replaced) → weight a < weight b → Sooner a b
lighter-sooner a b h = go (sooner-total a b)
  where
    go : Sooner a b ⊎ ((a ≡ b) ⊎ Sooner b a) → Sooner a b
    go (inl p) = p
    go (inr (inl e)) = absurd (N.lt_irrefl (weight b) (subst (λ (s : Replaced). weight s < weight b) e h))
    go (inr (inr p)) = absurd (N.lt_irrefl (weight a) (N.lt_trans h (sooner-lighter b a p)))

pub sooner-trans : (a b c : Replaced) → Sooner a b → Sooner b c → Sooner a c
sooner-trans a b c h k = lighter-sooner a c (N.lt_trans (sooner-lighter a b h) (sooner-lighter b c k))

-- ---- the first
pub least-only : (P : Replaced → Type 0) (a b : Replaced) → P a → P b
    → ((s : Replaced) → P s → ¬ Sooner s a)
    → ((s : Replaced) → P s → ¬ Sooner s b)
    → a ≡ b
least-only P a b p q f g = go (sooner-total a b)
  where
    go : Sooner a b ⊎ ((a ≡ b) ⊎ Sooner b a) → a ≡ b
    go (inl h) = absurd (g a p h)
    go (inr (inl e)) = e
    go (inr (inr h)) = absurd (f b q h)

pub none_first : (s : Replaced) → ¬ Sooner s none
none_first s h = N.not-suc-le-zero (sooner-lighter s none h)

pub size_none : (s : Replaced) → size s ≡ 0 → s ≡ none
size_none s e = go (sooner-total s none)
  where
    go : Sooner s none ⊎ ((s ≡ none) ⊎ Sooner none s) → s ≡ none
    go (inl h) = absurd (none_first s h)
    go (inr (inl f)) = f
    go (inr (inr h)) = absurd (N.lt_irrefl 0 (N.lt_of_lt_of_le (sooner-lighter none s h) (omega arith)))
