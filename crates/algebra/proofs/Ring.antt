-- The ring laws of ℤ that the library does not have.
--   +ℤ-left-comm, +ℤ-right-comm, +ℤ-four  : sums in another order
--   *ℤ-distr, *ℤ-distl                    : a product distributes over a sum
--   neg_unique, neg-*ℤ, *ℤ-neg            : negation and products
--   *ℤ-assoc, *ℤ-left-comm, *ℤ-right-comm, *ℤ-four, *ℤ-1, 1-*ℤ : products in another order, and by 1
--   +ℤ-cancel, eq-of-sub                  : a summand cancels; what differs by 0 is equal
-- Assumes nothing.
use mathlib.Core.Path.{◌≡◌, sym, ◌∙◌, ap, ap₂}
use Prim.Native.Nat.{zero, suc}
use lib.IntN.{ℤ, pos, negsuc, suc_ℤ, pred_ℤ, neg_ℤ, one, ◌+ℤ◌, ◌-ℤ◌, ◌*ℤ◌, suc_ℤ-+ℤ, pred_ℤ-+ℤ, +ℤ_idl, +ℤ_idr, +ℤ_assoc, +ℤ_comm, +ℤ_invr, +ℤ_invl, zero-*ℤ, suc_ℤ-*ℤ, pred_ℤ-*ℤ, *ℤ_comm, *ℤ-one}

-- ---- sums
pub +ℤ-left-comm : (a b c : ℤ) → a +ℤ (b +ℤ c) ≡ b +ℤ (a +ℤ c)
+ℤ-left-comm a b c = sym (+ℤ_assoc a b c) ∙ ap (λ x. x +ℤ c) (+ℤ_comm a b) ∙ +ℤ_assoc b a c

pub +ℤ-right-comm : (a b c : ℤ) → a +ℤ b +ℤ c ≡ a +ℤ c +ℤ b
+ℤ-right-comm a b c = +ℤ_assoc a b c ∙ ap (λ x. a +ℤ x) (+ℤ_comm b c) ∙ sym (+ℤ_assoc a c b)

pub +ℤ-four : (a b c d : ℤ) → (a +ℤ b) +ℤ (c +ℤ d) ≡ (a +ℤ c) +ℤ (b +ℤ d)
+ℤ-four a b c d =
    +ℤ_assoc a b (c +ℤ d) ∙ ap (λ x. a +ℤ x) (+ℤ-left-comm b c d) ∙ sym (+ℤ_assoc a c (b +ℤ d))

-- ---- a product distributes: by steps of one in the first summand
dist-suc : (m b k : ℤ) → (m +ℤ b) *ℤ k ≡ m *ℤ k +ℤ b *ℤ k → (suc_ℤ m +ℤ b) *ℤ k ≡ suc_ℤ m *ℤ k +ℤ b *ℤ k
dist-suc m b k h =
    ap (λ x. x *ℤ k) (suc_ℤ-+ℤ m b)
    ∙ suc_ℤ-*ℤ (m +ℤ b) k
    ∙ ap (λ x. x +ℤ k) h
    ∙ +ℤ-right-comm (m *ℤ k) (b *ℤ k) k
    ∙ ap (λ x. x +ℤ b *ℤ k) (sym (suc_ℤ-*ℤ m k))

dist-pred : (m b k : ℤ) → (m +ℤ b) *ℤ k ≡ m *ℤ k +ℤ b *ℤ k → (pred_ℤ m +ℤ b) *ℤ k ≡ pred_ℤ m *ℤ k +ℤ b *ℤ k
dist-pred m b k h =
    ap (λ x. x *ℤ k) (pred_ℤ-+ℤ m b)
    ∙ pred_ℤ-*ℤ (m +ℤ b) k
    ∙ ap (λ x. x -ℤ k) h
    ∙ +ℤ-right-comm (m *ℤ k) (b *ℤ k) (neg_ℤ k)
    ∙ ap (λ x. x +ℤ b *ℤ k) (sym (pred_ℤ-*ℤ m k))

dist-zero : (b k : ℤ) → (pos zero +ℤ b) *ℤ k ≡ pos zero *ℤ k +ℤ b *ℤ k
dist-zero b k = ap (λ x. x *ℤ k) (+ℤ_idl b) ∙ sym (+ℤ_idl (b *ℤ k)) ∙ ap (λ x. x +ℤ b *ℤ k) (sym (zero-*ℤ k))

pub *ℤ-distr : (a b k : ℤ) → (a +ℤ b) *ℤ k ≡ a *ℤ k +ℤ b *ℤ k
*ℤ-distr (pos zero) b k = dist-zero b k
*ℤ-distr (pos (suc n)) b k = dist-suc (pos n) b k (*ℤ-distr (pos n) b k)
*ℤ-distr (negsuc zero) b k = dist-pred (pos zero) b k (dist-zero b k)
*ℤ-distr (negsuc (suc n)) b k = dist-pred (negsuc n) b k (*ℤ-distr (negsuc n) b k)

pub *ℤ-distl : (k a b : ℤ) → k *ℤ (a +ℤ b) ≡ k *ℤ a +ℤ k *ℤ b
*ℤ-distl k a b = *ℤ_comm k (a +ℤ b) ∙ *ℤ-distr a b k ∙ ap₂ ◌+ℤ◌ (*ℤ_comm a k) (*ℤ_comm b k)

-- ---- negation
-- what adds up to zero is the negation
pub neg_unique : (a b : ℤ) → a +ℤ b ≡ pos zero → b ≡ neg_ℤ a
neg_unique a b h =
    sym (+ℤ_idl b)
    ∙ ap (λ x. x +ℤ b) (sym (+ℤ_invl a))
    ∙ +ℤ_assoc (neg_ℤ a) a b
    ∙ ap (λ x. neg_ℤ a +ℤ x) h
    ∙ +ℤ_idr (neg_ℤ a)

pub neg-*ℤ : (a k : ℤ) → neg_ℤ a *ℤ k ≡ neg_ℤ (a *ℤ k)
neg-*ℤ a k =
    neg_unique (a *ℤ k) (neg_ℤ a *ℤ k) (sym (*ℤ-distr a (neg_ℤ a) k) ∙ ap (λ x. x *ℤ k) (+ℤ_invr a) ∙ zero-*ℤ k)

pub *ℤ-neg : (a k : ℤ) → a *ℤ neg_ℤ k ≡ neg_ℤ (a *ℤ k)
*ℤ-neg a k = *ℤ_comm a (neg_ℤ k) ∙ neg-*ℤ k a ∙ ap neg_ℤ (*ℤ_comm k a)

-- ---- products: by steps of one in the first factor
assoc-suc : (m b c : ℤ) → (m *ℤ b) *ℤ c ≡ m *ℤ (b *ℤ c) → (suc_ℤ m *ℤ b) *ℤ c ≡ suc_ℤ m *ℤ (b *ℤ c)
assoc-suc m b c h =
    ap (λ x. x *ℤ c) (suc_ℤ-*ℤ m b)
    ∙ *ℤ-distr (m *ℤ b) b c
    ∙ ap (λ x. x +ℤ b *ℤ c) h
    ∙ sym (suc_ℤ-*ℤ m (b *ℤ c))

assoc-pred : (m b c : ℤ) → (m *ℤ b) *ℤ c ≡ m *ℤ (b *ℤ c) → (pred_ℤ m *ℤ b) *ℤ c ≡ pred_ℤ m *ℤ (b *ℤ c)
assoc-pred m b c h =
    ap (λ x. x *ℤ c) (pred_ℤ-*ℤ m b)
    ∙ *ℤ-distr (m *ℤ b) (neg_ℤ b) c
    ∙ ap₂ ◌+ℤ◌ h (neg-*ℤ b c)
    ∙ sym (pred_ℤ-*ℤ m (b *ℤ c))

assoc-zero : (b c : ℤ) → (pos zero *ℤ b) *ℤ c ≡ pos zero *ℤ (b *ℤ c)
assoc-zero b c = ap (λ x. x *ℤ c) (zero-*ℤ b) ∙ zero-*ℤ c ∙ sym (zero-*ℤ (b *ℤ c))

pub *ℤ-assoc : (a b c : ℤ) → (a *ℤ b) *ℤ c ≡ a *ℤ (b *ℤ c)
*ℤ-assoc (pos zero) b c = assoc-zero b c
*ℤ-assoc (pos (suc n)) b c = assoc-suc (pos n) b c (*ℤ-assoc (pos n) b c)
*ℤ-assoc (negsuc zero) b c = assoc-pred (pos zero) b c (assoc-zero b c)
*ℤ-assoc (negsuc (suc n)) b c = assoc-pred (negsuc n) b c (*ℤ-assoc (negsuc n) b c)

pub *ℤ-left-comm : (a b c : ℤ) → a *ℤ (b *ℤ c) ≡ b *ℤ (a *ℤ c)
*ℤ-left-comm a b c = sym (*ℤ-assoc a b c) ∙ ap (λ x. x *ℤ c) (*ℤ_comm a b) ∙ *ℤ-assoc b a c

pub *ℤ-right-comm : (a b c : ℤ) → a *ℤ b *ℤ c ≡ a *ℤ c *ℤ b
*ℤ-right-comm a b c = *ℤ-assoc a b c ∙ ap (λ x. a *ℤ x) (*ℤ_comm b c) ∙ sym (*ℤ-assoc a c b)

pub *ℤ-four : (a b c d : ℤ) → (a *ℤ b) *ℤ (c *ℤ d) ≡ (a *ℤ c) *ℤ (b *ℤ d)
*ℤ-four a b c d =
    *ℤ-assoc a b (c *ℤ d) ∙ ap (λ x. a *ℤ x) (*ℤ-left-comm b c d) ∙ sym (*ℤ-assoc a c (b *ℤ d))

pub *ℤ-1 : (a : ℤ) → a *ℤ pos 1 ≡ a
unfolding lib.IntN.one
*ℤ-1 a = *ℤ-one a

pub 1-*ℤ : (a : ℤ) → pos 1 *ℤ a ≡ a
1-*ℤ a = *ℤ_comm (pos 1) a ∙ *ℤ-1 a

-- ---- cancelling
pub +ℤ-cancel : (a b c : ℤ) → a +ℤ b ≡ a +ℤ c → b ≡ c
+ℤ-cancel a b c h = sym (back a b) ∙ ap (λ x. neg_ℤ a +ℤ x) h ∙ back a c
  where
    back : (a b : ℤ) → neg_ℤ a +ℤ (a +ℤ b) ≡ b
    back a b = sym (+ℤ_assoc (neg_ℤ a) a b) ∙ ap (λ x. x +ℤ b) (+ℤ_invl a) ∙ +ℤ_idl b

pub eq-of-sub : (a b : ℤ) → a -ℤ b ≡ pos zero → a ≡ b
eq-of-sub a b h =
    sym (+ℤ_idr a)
    ∙ ap (λ x. a +ℤ x) (sym (+ℤ_invl b))
    ∙ sym (+ℤ_assoc a (neg_ℤ b) b)
    ∙ ap (λ x. x +ℤ b) h
    ∙ +ℤ_idl b
