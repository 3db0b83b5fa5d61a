-- The order of ℤ, from one fact: a ≤ b exactly when b is a plus a natural number.
--   ≤-plus, above-≤, ≤-above       : that fact
--   <-suc, suc-<                   : a < b exactly when a + 1 ≤ b
--   ≤_trans, ≤-<-trans, <-≤, ≤-antisymm, ≤-of-eq   : the order
--   <-cases, compareℤ              : one of two, and one of three, holds
--   +ℤ-mono, +ℤ-mono-<             : sums
--   0≤-nat, nat-0≤, 0<-nat, nat-0<, 0≤+, 0≤*, 0<+≤, 0≤+<, 0<*, 0≤square   : signs
--   0≤-sub, sub-0≤, 0<-sub, sub-0<, ≤0-sub, sub-≤0 : by the difference
--   *ℤ-mono, *ℤ-mono-<             : products by what is not negative
--   +ℤ-cancel-≤, *ℤ-cancel-≤, *ℤ-cancel-<, *ℤ-cancel, positive-factor, positive-transfer, nonpositive-transfer : cancelling
-- Assumes nothing.
use mathlib.Core.Path.{◌≡◌, refl, sym, ◌∙◌, ap, ap₂, subst}
use mathlib.Core.Bool.{Bool, true, false, not}
use mathlib.Core.Logic.{◌⊎◌, inl, inr}
use Prim.Native.Nat.{ℕ, zero, suc, ◌+◌, ◌*◌, ◌-◌, ◌<◌, ◌≤◌, zero-le, suc-le-suc}
use native.Mathlib.Nat as N
use native.Mathlib.Omega.{arith}
use lib.Dec.{T, ltb, leb→le, le→leb, ltb→lt, lt→ltb, nltb→le, leb-suc-suc}
use lib.IntN.{ℤ, pos, negsuc, suc_ℤ, neg_ℤ, sub_ℕ, ◌+ℤ◌, ◌-ℤ◌, ◌*ℤ◌, +ℤ_idl, +ℤ_assoc, +ℤ_comm, +ℤ_invr, +ℤ_one, -ℤ-+ℤ_cancel, zero-*ℤ, *ℤ_comm}
use lib.Signed.{◌≤ℤ◌, ◌<ℤ◌, le_z, lt_z, le_z_yes, lt_z_yes, lt_z_no, ≤ℤ_refl, clash_ℤ}
use Rattle.algebra.proofs.Truth.{cond_ind}
use Rattle.algebra.proofs.Ring.{+ℤ-right-comm, +ℤ-four, *ℤ-distr, neg-*ℤ, +ℤ-cancel}

-- a difference of naturals, by cases
pub subℕ-ind {ℓ} : (a b : ℕ) (P : ℤ → Type ℓ) → (a < b → P (negsuc (b - suc a))) → (b ≤ a → P (pos (a - b))) → P (sub_ℕ a b)
subℕ-ind a b P f g =
    cond_ind (ltb a b) (negsuc (b - suc a)) (pos (a - b)) P (λ t. f (ltb→lt a b t)) (λ t. g (nltb→le a b t))

-- ---- ≤ is: plus a natural number
add-sub : (x y : ℤ) → x +ℤ (y -ℤ x) ≡ y
add-sub x y = +ℤ_comm x (y -ℤ x) ∙ -ℤ-+ℤ_cancel y x

pub Above : ℤ → ℤ → Type 0
Above a b = (n : ℕ) × (b ≡ a +ℤ pos n)

above : (a b : ℤ) → T (le_z a b) → Above a b
unfolding Above
above (pos a) (pos b) t = let h : a ≤ b = leb→le a b t in (b - a, ap pos (omega arith))
above (pos a) (negsuc b) t = absurd t
above (negsuc a) (pos b) t = (b + suc a, sym (add-sub (negsuc a) (pos b)))
above (negsuc a) (negsuc b) t =
    (a - b, sym (add-sub (negsuc a) (negsuc b)) ∙ ap (λ x. negsuc a +ℤ x) gap)
  where
    gap : negsuc b -ℤ negsuc a ≡ pos (a - b)
    gap = subℕ-ind (suc a) (suc b) (λ x. x ≡ pos (a - b)) (λ l. absurd (omega (arith, leb→le b a t))) (λ l. ap pos (omega arith))

pub ≤-above : {a b : ℤ} → a ≤ℤ b → Above a b
≤-above {a} {b} h = above a b h.le

pub ≤-plus : (a : ℤ) (n : ℕ) → a ≤ℤ (a +ℤ pos n)
≤-plus (pos a) n = le_z_yes (le→leb a (a + n) (omega arith))
≤-plus (negsuc a) n =
    subℕ-ind n (suc a) (λ x. negsuc a ≤ℤ x) (λ l. le_z_yes (le→leb (suc a - suc n) a (omega arith))) (λ l. le_z_yes tt)

pub above-≤ : (a b : ℤ) (n : ℕ) → b ≡ a +ℤ pos n → a ≤ℤ b
above-≤ a b n e = subst (λ x. a ≤ℤ x) (sym e) (≤-plus a n)

-- ---- < is: one more, and ≤
lt-suc : (a b : ℤ) → T (lt_z a b) → T (le_z (suc_ℤ a) b)
lt-suc (pos a) (pos b) t = t
lt-suc (pos a) (negsuc b) t = absurd t
lt-suc (negsuc zero) (pos b) t = le→leb 0 b zero-le
lt-suc (negsuc (suc a)) (pos b) t = tt
lt-suc (negsuc zero) (negsuc b) t = absurd (N.not-suc-le-zero (ltb→lt b zero t))
lt-suc (negsuc (suc a)) (negsuc b) t = subst T (leb-suc-suc b a) t

suc-lt : (a b : ℤ) → T (le_z (suc_ℤ a) b) → T (lt_z a b)
suc-lt (pos a) (pos b) t = t
suc-lt (pos a) (negsuc b) t = absurd t
suc-lt (negsuc zero) (pos b) t = tt
suc-lt (negsuc (suc a)) (pos b) t = tt
suc-lt (negsuc zero) (negsuc b) t = absurd t
suc-lt (negsuc (suc a)) (negsuc b) t = subst T (sym (leb-suc-suc b a)) t

pub <-suc : {a b : ℤ} → a <ℤ b → (a +ℤ pos 1) ≤ℤ b
<-suc {a} {b} h = subst (λ x. x ≤ℤ b) (sym (+ℤ_one a)) (le_z_yes (lt-suc a b h.lt))

pub suc-< : (a b : ℤ) → (a +ℤ pos 1) ≤ℤ b → a <ℤ b
suc-< a b h = lt_z_yes (suc-lt a b (subst (λ x. x ≤ℤ b) (+ℤ_one a) h).le)

-- ---- the order
pub ≤_trans : {a b c : ℤ} → a ≤ℤ b → b ≤ℤ c → a ≤ℤ c
unfolding Above
≤_trans {a} {b} {c} h k =
    let (n, e) = ≤-above h in let (m, f) = ≤-above k in
    above-≤ a c (n + m) (f ∙ ap (λ x. x +ℤ pos m) e ∙ +ℤ_assoc a (pos n) (pos m))

pub +ℤ-mono : {a b c d : ℤ} → a ≤ℤ b → c ≤ℤ d → (a +ℤ c) ≤ℤ (b +ℤ d)
unfolding Above
+ℤ-mono {a} {b} {c} {d} h k =
    let (n, e) = ≤-above h in let (m, f) = ≤-above k in
    above-≤ (a +ℤ c) (b +ℤ d) (n + m) (ap₂ ◌+ℤ◌ e f ∙ +ℤ-four a (pos n) c (pos m))

pub ≤-of-eq : {a b : ℤ} → a ≡ b → a ≤ℤ b
≤-of-eq {a} {b} e = subst (λ x. a ≤ℤ x) e (≤ℤ_refl a)

pub <-≤ : {a b : ℤ} → a <ℤ b → a ≤ℤ b
<-≤ {a} {b} h = ≤_trans (≤-plus a 1) (<-suc h)

pub ≤-<-trans : {a b c : ℤ} → a ≤ℤ b → b <ℤ c → a <ℤ c
≤-<-trans {a} {b} {c} h k = suc-< a c (≤_trans (+ℤ-mono h (≤ℤ_refl (pos 1))) (<-suc k))

pub +ℤ-mono-< : {a b c d : ℤ} → a <ℤ b → c ≤ℤ d → (a +ℤ c) <ℤ (b +ℤ d)
+ℤ-mono-< {a} {b} {c} {d} h k =
    suc-< (a +ℤ c) (b +ℤ d) (subst (λ x. x ≤ℤ (b +ℤ d)) (+ℤ-right-comm a (pos 1) c) (+ℤ-mono (<-suc h) k))

pub ≤-antisymm : {a b : ℤ} → a ≤ℤ b → b ≤ℤ a → a ≡ b
≤-antisymm {a} {b} h k = go a b h.le k.le
  where
    go : (a b : ℤ) → T (le_z a b) → T (le_z b a) → a ≡ b
    go (pos a) (pos b) t u = ap pos (N.le_antisymm (leb→le a b t) (leb→le b a u))
    go (pos a) (negsuc b) t u = absurd t
    go (negsuc a) (pos b) t u = absurd u
    go (negsuc a) (negsuc b) t u = ap negsuc (N.le_antisymm (leb→le a b u) (leb→le b a t))

pub <-cases : (a b : ℤ) → (a <ℤ b) ⊎ (b ≤ℤ a)
<-cases a b = go (lt_z a b) (λ t. lt_z_yes t) (λ t. lt_z_no t)
  where
    go : (c : Bool) → (T c → a <ℤ b) → (T (not c) → b ≤ℤ a) → (a <ℤ b) ⊎ (b ≤ℤ a)
    go true f g = inl (f tt)
    go false f g = inr (g tt)

pub data Compared (a b : ℤ) : Type 0 where
  below : a <ℤ b → Compared a b
  same : a ≡ b → Compared a b
  beyond : b <ℤ a → Compared a b

pub compareℤ : (a b : ℤ) → Compared a b
compareℤ a b = go (<-cases a b) (<-cases b a)
  where
    go : (a <ℤ b) ⊎ (b ≤ℤ a) → (b <ℤ a) ⊎ (a ≤ℤ b) → Compared a b
    go (inl h) k = below h
    go (inr h) (inl k) = beyond k
    go (inr h) (inr k) = same (≤-antisymm k h)

-- ---- signs: what is not negative is a natural number
pub 0≤-nat : {z : ℤ} → pos 0 ≤ℤ z → (n : ℕ) × (z ≡ pos n)
unfolding Above
0≤-nat {z} h = let (n, e) = ≤-above h in (n, e ∙ +ℤ_idl (pos n))

pub 0≤pos : (n : ℕ) → pos 0 ≤ℤ pos n
0≤pos n = le_z_yes (le→leb 0 n zero-le)

pub nat-0≤ : {z : ℤ} (n : ℕ) → z ≡ pos n → pos 0 ≤ℤ z
nat-0≤ n e = subst (λ x. pos 0 ≤ℤ x) (sym e) (0≤pos n)

pub 0<-nat : {z : ℤ} → pos 0 <ℤ z → (n : ℕ) × (z ≡ pos (suc n))
0<-nat {z} h = go z h.lt
  where
    go : (z : ℤ) → T (lt_z (pos 0) z) → (n : ℕ) × (z ≡ pos (suc n))
    go (pos zero) t = absurd t
    go (pos (suc n)) t = (n, refl)
    go (negsuc n) t = absurd t

pub 0<pos : {n : ℕ} → 0 < n → pos 0 <ℤ pos n
0<pos {n} h = lt_z_yes (lt→ltb 0 n h)

pub nat-0< : {z : ℤ} (n : ℕ) → z ≡ pos (suc n) → pos 0 <ℤ z
nat-0< n e = subst (λ x. pos 0 <ℤ x) (sym e) (0<pos (suc-le-suc zero-le))

pub 0≤+ : {a b : ℤ} → pos 0 ≤ℤ a → pos 0 ≤ℤ b → pos 0 ≤ℤ (a +ℤ b)
0≤+ h k = let (n, e) = 0≤-nat h in let (m, f) = 0≤-nat k in nat-0≤ (n + m) (ap₂ ◌+ℤ◌ e f)

pub 0≤* : {a b : ℤ} → pos 0 ≤ℤ a → pos 0 ≤ℤ b → pos 0 ≤ℤ (a *ℤ b)
0≤* h k = let (n, e) = 0≤-nat h in let (m, f) = 0≤-nat k in nat-0≤ (n * m) (ap₂ ◌*ℤ◌ e f)

pub 0<+≤ : {a b : ℤ} → pos 0 <ℤ a → pos 0 ≤ℤ b → pos 0 <ℤ (a +ℤ b)
0<+≤ h k = let (n, e) = 0<-nat h in let (m, f) = 0≤-nat k in nat-0< (n + m) (ap₂ ◌+ℤ◌ e f ∙ ap pos (N.suc-add n m))

pub 0≤+< : {a b : ℤ} → pos 0 ≤ℤ a → pos 0 <ℤ b → pos 0 <ℤ (a +ℤ b)
0≤+< {a} {b} h k = subst (λ x. pos 0 <ℤ x) (+ℤ_comm b a) (0<+≤ k h)

pub 0<* : {a b : ℤ} → pos 0 <ℤ a → pos 0 <ℤ b → pos 0 <ℤ (a *ℤ b)
0<* h k =
    let (n, e) = 0<-nat h in let (m, f) = 0<-nat k in
    nat-0< (n * suc m + m) (ap₂ ◌*ℤ◌ e f ∙ ap pos (N.suc-mul n (suc m) ∙ N.add-suc (n * suc m) m))

pub 0≤square : (a : ℤ) → pos 0 ≤ℤ (a *ℤ a)
0≤square (pos n) = 0≤pos (n * n)
0≤square (negsuc n) = 0≤pos (suc n * suc n)

-- ---- by the difference
pub 0≤-sub : {a b : ℤ} → a ≤ℤ b → pos 0 ≤ℤ (b -ℤ a)
0≤-sub {a} {b} h = subst (λ x. x ≤ℤ (b -ℤ a)) (+ℤ_invr a) (+ℤ-mono h (≤ℤ_refl (neg_ℤ a)))

pub sub-0≤ : (a b : ℤ) → pos 0 ≤ℤ (b -ℤ a) → a ≤ℤ b
sub-0≤ a b h = let (n, e) = 0≤-nat h in above-≤ a b n (sym (add-sub a b) ∙ ap (λ x. a +ℤ x) e)

pub 0<-sub : {a b : ℤ} → a <ℤ b → pos 0 <ℤ (b -ℤ a)
0<-sub {a} {b} h = subst (λ x. x <ℤ (b -ℤ a)) (+ℤ_invr a) (+ℤ-mono-< h (≤ℤ_refl (neg_ℤ a)))

pub sub-0< : (a b : ℤ) → pos 0 <ℤ (b -ℤ a) → a <ℤ b
sub-0< a b h =
    let (n, e) = 0<-nat h in let one_more : suc n ≡ 1 + n = omega arith in
    suc-< a b (above-≤ (a +ℤ pos 1) b n (sym (add-sub a b) ∙ ap (λ x. a +ℤ x) (e ∙ ap pos one_more) ∙ sym (+ℤ_assoc a (pos 1) (pos n))))

pub ≤0-sub : {a b : ℤ} → a ≤ℤ b → (a -ℤ b) ≤ℤ pos 0
≤0-sub {a} {b} h = subst (λ x. (a -ℤ b) ≤ℤ x) (+ℤ_invr b) (+ℤ-mono h (≤ℤ_refl (neg_ℤ b)))

pub sub-≤0 : (a b : ℤ) → (a -ℤ b) ≤ℤ pos 0 → a ≤ℤ b
sub-≤0 a b h =
    subst (λ x. x ≤ℤ b) (-ℤ-+ℤ_cancel a b) (subst (λ x. (a -ℤ b +ℤ b) ≤ℤ x) (+ℤ_idl b) (+ℤ-mono h (≤ℤ_refl b)))

-- a positive number is at least 1
pub 0<-one : {z : ℤ} → pos 0 <ℤ z → pos 0 ≤ℤ (z -ℤ pos 1)
0<-one h = 0≤-sub (<-suc h)

-- ---- products
pub *ℤ-mono : {a b k : ℤ} → pos 0 ≤ℤ k → a ≤ℤ b → (a *ℤ k) ≤ℤ (b *ℤ k)
*ℤ-mono {a} {b} {k} p h =
    sub-0≤ (a *ℤ k) (b *ℤ k)
    (subst (λ x. pos 0 ≤ℤ x) (*ℤ-distr b (neg_ℤ a) k ∙ ap (λ x. b *ℤ k +ℤ x) (neg-*ℤ a k)) (0≤* (0≤-sub h) p))

pub *ℤ-mono-< : {a b k : ℤ} → pos 0 <ℤ k → a <ℤ b → (a *ℤ k) <ℤ (b *ℤ k)
*ℤ-mono-< {a} {b} {k} p h =
    sub-0< (a *ℤ k) (b *ℤ k)
    (subst (λ x. pos 0 <ℤ x) (*ℤ-distr b (neg_ℤ a) k ∙ ap (λ x. b *ℤ k +ℤ x) (neg-*ℤ a k)) (0<* (0<-sub h) p))

-- ---- cancelling
pub +ℤ-cancel-≤ : (a b c : ℤ) → (a +ℤ c) ≤ℤ (b +ℤ c) → a ≤ℤ b
unfolding Above
+ℤ-cancel-≤ a b c h =
    let (n, e) = ≤-above h in
    above-≤ a b n (+ℤ-cancel c b (a +ℤ pos n) (+ℤ_comm c b ∙ e ∙ +ℤ-right-comm a c (pos n) ∙ +ℤ_comm (a +ℤ pos n) c))

pub *ℤ-cancel-≤ : (a b k : ℤ) → pos 0 <ℤ k → (a *ℤ k) ≤ℤ (b *ℤ k) → a ≤ℤ b
*ℤ-cancel-≤ a b k p h = go (<-cases b a)
  where
    go : (b <ℤ a) ⊎ (a ≤ℤ b) → a ≤ℤ b
    go (inl l) = clash_ℤ (*ℤ-mono-< p l) h
    go (inr l) = l

pub *ℤ-cancel-< : (a b k : ℤ) → pos 0 ≤ℤ k → (a *ℤ k) <ℤ (b *ℤ k) → a <ℤ b
*ℤ-cancel-< a b k p h = go (<-cases a b)
  where
    go : (a <ℤ b) ⊎ (b ≤ℤ a) → a <ℤ b
    go (inl l) = l
    go (inr l) = clash_ℤ h (*ℤ-mono p l)

pub *ℤ-cancel : (a b k : ℤ) → pos 0 <ℤ k → a *ℤ k ≡ b *ℤ k → a ≡ b
*ℤ-cancel a b k p e =
    ≤-antisymm (*ℤ-cancel-≤ a b k p (≤-of-eq e)) (*ℤ-cancel-≤ b a k p (≤-of-eq (sym e)))

-- a multiple that is positive is of a positive number
pub positive-factor : (n : ℕ) (z : ℤ) → pos 0 <ℤ (pos n *ℤ z) → pos 0 <ℤ z
positive-factor n z h =
    *ℤ-cancel-< (pos 0) z (pos n) (0≤pos n) (rw (zero-*ℤ (pos n)) (rw (*ℤ_comm (pos n) z) at h))

-- two multiples that are equal have one sign
pub positive-transfer : (a b : ℕ) (x y : ℤ) → 0 < a → pos a *ℤ x ≡ pos b *ℤ y → pos 0 <ℤ x → pos 0 <ℤ y
positive-transfer a b x y p e h = positive-factor b y (rw e at (0<* (0<pos p) h))

pub nonpositive-transfer : (a b : ℕ) (x y : ℤ) → 0 < b → pos a *ℤ x ≡ pos b *ℤ y → x ≤ℤ pos 0 → y ≤ℤ pos 0
nonpositive-transfer a b x y p e h = go (<-cases (pos 0) y)
  where
    go : (pos 0 <ℤ y) ⊎ (y ≤ℤ pos 0) → y ≤ℤ pos 0
    go (inl l) = clash_ℤ (positive-transfer b a y x p (sym e) l) h
    go (inr l) = l
