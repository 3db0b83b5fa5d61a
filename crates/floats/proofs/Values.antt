-- What being a number comes to: one number has one float of f64, but for the sign of zero.
--   over-only    : a float is v / n for one v
--   over-same    : floats that are v / n are one number
--   same_over    : and what is one number with v / n is v / n
--   same-eq, eq-same : floats that are one number are those that compare equal, infinities aside
--   same-unique  : values of f64 that are one number are the same, but for the sign of zero
--   value-over, over-value : the same, where the library says it by a sign and a size
-- Assumes nothing.
use mathlib.Core.Path.{◌≡◌, refl, sym, ap, ap₂, ◌∙◌}
use mathlib.Core.Logic.{◌⊎◌, inl, inr}
use mathlib.Core.Bool.{Bool, true, false, ◌&&◌, ◌||◌, false≢true, beq}
use Prim.Native.Nat.{ℕ, zero, suc, ◌+◌, ◌*◌, ◌%◌, ◌^◌, ◌<◌}
use native.Mathlib.Nat as N
use native.Mathlib.Nat.{mul-one, one-mul, zero-mul, mul_assoc, mul_left_comm, mul_right_comm, mul-pos, zero-lt-suc, pow-suc, pow-succ', eq_of_mul-eq-mul_right}
use native.Mathlib.Omega.{arith}
use borrow.Author.Tests.{eq-eqb, eqb-true}
use lib.Dec.{eqb, ltb, leb, eqb→eq}
use lib.Pow.{pow-add}
use lib.IntN.{ℤ, pos, negsuc, ◌*ℤ◌}
use lib.Ieee.{Float, nan, inf, fin, up, down, eq, fits}
use lib.Ieee.Fits.{down_pos, up_pos, and_l}
use lib.Ieee.Exact.{HasValue}
use Rattle.algebra.proofs.Ring.{*ℤ-right-comm}
use Rattle.algebra.proofs.Order.{0<pos, *ℤ-cancel}
use Rattle.algebra.proofs.Truth.{T_and, T_true, true-T}
use Rattle.floats.specs.Values.{F64, signed, IsOver, SameNumber, zero_of}
use Rattle.floats.proofs.Signs.{signed_parts, signed-zero, signed-times, signed-cancel}

-- ---- v / n
pub over-only : (n : ℕ) (x : Float) (v w : ℤ) → IsOver n x v → IsOver n x w → v ≡ w
over-only n nan v w p q = elim p [ ]
over-only n (inf _) v w p q = elim p [ ]
over-only n (fin s m e) v w p q = *ℤ-cancel v w (pos (down e)) (0<pos (down_pos e)) (sym p ∙ q)

pub over-same : (n : ℕ) (x y : Float) (v : ℤ) → 0 < n → IsOver n x v → IsOver n y v → SameNumber x y
over-same n nan y v h p q = elim p [ ]
over-same n (inf _) y v h p q = elim p [ ]
over-same n (fin s m e) nan v h p q = elim q [ ]
over-same n (fin s m e) (inf _) v h p q = elim q [ ]
over-same n (fin s m e) (fin t k d) v h p q =
    signed-cancel s t (m * up e * down d) (k * up d * down e) n h
    (ap (signed s) (mul_right_comm (m * up e) (down d) n)
    ∙ sym (signed-times s (m * up e * n) (down d))
    ∙ ap (λ (z : ℤ). z *ℤ pos (down d)) p
    ∙ *ℤ-right-comm v (pos (down e)) (pos (down d))
    ∙ ap (λ (z : ℤ). z *ℤ pos (down e)) (sym q)
    ∙ signed-times t (k * up d * n) (down e)
    ∙ ap (signed t) (mul_right_comm (k * up d) n (down e)))

pub same_over : (n : ℕ) (x y : Float) (v : ℤ) → SameNumber x y → IsOver n x v → IsOver n y v
same_over n nan y v h p = elim h [ ]
same_over n (inf _) y v h p = elim h [ ]
same_over n (fin s m e) nan v h p = elim h [ ]
same_over n (fin s m e) (inf _) v h p = elim h [ ]
same_over n (fin s m e) (fin t k d) v h p =
    *ℤ-cancel (signed t (k * up d * n)) (v *ℤ pos (down d)) (pos (down e)) (0<pos (down_pos e))
    (signed-times t (k * up d * n) (down e)
    ∙ ap (signed t) (mul_right_comm (k * up d) n (down e))
    ∙ sym (signed-times t (k * up d * down e) n)
    ∙ ap (λ (z : ℤ). z *ℤ pos n) (sym h)
    ∙ signed-times s (m * up e * down d) n
    ∙ ap (signed s) (mul_right_comm (m * up e) (down d) n)
    ∙ sym (signed-times s (m * up e * n) (down d))
    ∙ ap (λ (z : ℤ). z *ℤ pos (down d)) p
    ∙ *ℤ-right-comm v (pos (down e)) (pos (down d)))

-- the library says of a float that its sign is s and its size a / c
module _ (n : ℕ) (s : Bool) (a c : ℕ) (v : ℤ) where
  pub value-over : (x : Float) → HasValue x s a c → 0 < c → signed s (a * n) ≡ v *ℤ pos c → IsOver n x v
  value-over nan h p q = elim h [ ]
  value-over (inf _) h p q = elim h [ ]
  value-over (fin t m e) h p q =
      *ℤ-cancel (signed t (m * up e * n)) (v *ℤ pos (down e)) (pos c) (0<pos p)
      (signed-times t (m * up e * n) c
      ∙ ap (signed t) (cross (m * up e) (down e) h.1)
      ∙ ap (λ (b : Bool). signed b (a * n * down e)) h.0
      ∙ sym (signed-times s (a * n) (down e))
      ∙ ap (λ (z : ℤ). z *ℤ pos (down e)) q
      ∙ *ℤ-right-comm v (pos c) (pos (down e)))
    where
      cross : (k d : ℕ) → k * c ≡ a * d → k * n * c ≡ a * n * d
      cross k d e = mul_right_comm k n c ∙ ap (λ (i : ℕ). i * n) e ∙ mul_right_comm a d n

  pub over-value : (x : Float) → HasValue x s a c → IsOver n x v → signed s (a * n) ≡ v *ℤ pos c
  over-value nan h q = elim h [ ]
  over-value (inf _) h q = elim h [ ]
  over-value (fin t m e) h q =
      *ℤ-cancel (signed s (a * n)) (v *ℤ pos c) (pos (down e)) (0<pos (down_pos e))
      (signed-times s (a * n) (down e)
      ∙ ap (signed s) (cross (m * up e) (down e) h.1)
      ∙ ap (λ (b : Bool). signed b (m * up e * n * c)) (sym h.0)
      ∙ sym (signed-times t (m * up e * n) c)
      ∙ ap (λ (z : ℤ). z *ℤ pos c) q
      ∙ *ℤ-right-comm v (pos (down e)) (pos c))
    where
      cross : (k d : ℕ) → k * c ≡ a * d → a * n * d ≡ k * n * c
      cross k d e = mul_right_comm a n d ∙ ap (λ (i : ℕ). i * n) (sym e) ∙ mul_right_comm k c n

-- ---- comparing
signs : (s t : Bool) (a : ℕ) → (s ≡ t) ⊎ (a ≡ 0) → beq s t || eqb a 0 ≡ true
signs true true a h = refl
signs false false a h = refl
signs true false a (inl h) = absurd (false≢true (sym h))
signs true false a (inr h) = eq-eqb a 0 h
signs false true a (inl h) = absurd (false≢true h)
signs false true a (inr h) = eq-eqb a 0 h

pub same-eq : (x y : Float) → SameNumber x y → eq x y ≡ true
unfolding eq
same-eq nan y h = elim h [ ]
same-eq (inf _) y h = elim h [ ]
same-eq (fin s m e) nan h = elim h [ ]
same-eq (fin s m e) (inf _) h = elim h [ ]
same-eq (fin s m e) (fin t n d) h =
    let (p, q) = signed_parts s t (m * up e * down d) (n * up d * down e) h in
    ap₂ ◌&&◌ (eq-eqb (m * up e * down d) (n * up d * down e) p) (signs s t (m * up e * down d) q)

pub eq-same : (k : ℕ) (v : ℤ) (x y : Float) → IsOver k x v → eq x y ≡ true → SameNumber x y
unfolding eq
eq-same k v nan y p h = elim p [ ]
eq-same k v (inf _) y p h = elim p [ ]
eq-same k v (fin s m e) nan p h = absurd (false≢true h)
eq-same k v (fin s m e) (inf t) p h = absurd (false≢true h)
eq-same k v (fin s m e) (fin t n d) w h =
    let A = m * up e * down d in
    let B = n * up d * down e in
    let (p, q) = T_and (eqb A B) (beq s t || eqb A 0) (true-T h) in
    go s t A (T_true (beq s t || eqb A 0) q) ∙ ap (signed t) (eqb→eq A B p)
  where
    go : (s t : Bool) (a : ℕ) → beq s t || eqb a 0 ≡ true → signed s a ≡ signed t a
    go true true a h = refl
    go false false a h = refl
    go true false a h = let z = eqb-true a 0 h in ap (signed true) z ∙ signed-zero true false ∙ ap (signed false) (sym z)
    go false true a h = let z = eqb-true a 0 h in ap (signed false) z ∙ signed-zero false true ∙ ap (signed true) (sym z)

-- ---- a number is written in one way with an odd mantissa
even_odd : (m t : ℕ) → m % 2 ≡ 1 → m ≡ 2 * t → ⊥
even_odd m t o h = omega arith

odd_pow : (m n a b : ℕ) → m % 2 ≡ 1 → n % 2 ≡ 1 → m * 2 ^ a ≡ n * 2 ^ b → (m ≡ n) × (a ≡ b)
odd_pow m n zero zero o p h = (sym (mul-one m) ∙ h ∙ mul-one n, refl)
odd_pow m n zero (suc b) o p h =
    absurd (even_odd m (n * 2 ^ b) o (sym (mul-one m) ∙ h ∙ ap (λ (x : ℕ). n * x) (pow-succ' 2 b) ∙ mul_left_comm n 2 (2 ^ b)))
odd_pow m n (suc a) zero o p h =
    absurd (even_odd n (m * 2 ^ a) p (sym (mul-one n) ∙ sym h ∙ ap (λ (x : ℕ). m * x) (pow-succ' 2 a) ∙ mul_left_comm m 2 (2 ^ a)))
odd_pow m n (suc a) (suc b) o p h =
    let r = odd_pow m n a b o p (eq_of_mul-eq-mul_right 2 (zero-lt-suc 1) (m * 2 ^ a) (n * 2 ^ b)
    (mul_assoc m (2 ^ a) 2 ∙ ap (λ (x : ℕ). m * x) (sym (pow-suc 2 a)) ∙ h ∙ ap (λ (x : ℕ). n * x) (pow-suc 2 b) ∙ sym (mul_assoc n (2 ^ b) 2))) in
    (r.0, ap suc r.1)

odd-once : (m : ℕ) (e : ℤ) (n : ℕ) (d : ℤ) → m % 2 ≡ 1 → n % 2 ≡ 1 → m * up e * down d ≡ n * up d * down e → (m ≡ n) × (e ≡ d)
odd-once m (pos a) n (pos b) o p h =
    let r = odd_pow m n a b o p (sym (mul-one (m * 2 ^ a)) ∙ h ∙ mul-one (n * 2 ^ b)) in
    (r.0, ap pos r.1)
odd-once m (negsuc a) n (negsuc b) o p h =
    let r = odd_pow m n (suc b) (suc a) o p (ap (λ (x : ℕ). x * 2 ^ suc b) (sym (mul-one m)) ∙ h ∙ ap (λ (x : ℕ). x * 2 ^ suc a) (mul-one n)) in
    (r.0, sym (ap negsuc (N.suc_inj r.1)))
odd-once m (pos a) n (negsuc b) o p h =
    let r = odd_pow m n (a + suc b) 0 o p (ap (λ (x : ℕ). m * x) (pow-add 2 a (suc b)) ∙ sym (mul_assoc m (2 ^ a) (2 ^ suc b)) ∙ h ∙ mul-one (n * 1)) in
    absurd (let z = r.1 in omega arith)
odd-once m (negsuc a) n (pos b) o p h =
    let r = odd_pow n m (b + suc a) 0 p o (ap (λ (x : ℕ). n * x) (pow-add 2 b (suc a)) ∙ sym (mul_assoc n (2 ^ b) (2 ^ suc a)) ∙ sym h ∙ mul-one (m * 1)) in
    absurd (let z = r.1 in omega arith)

is_odd : (s : Bool) (m : ℕ) (e : ℤ) → F64 (fin s (suc m) e) → suc m % 2 ≡ 1
unfolding fits
is_odd s m e t =
    let a = eqb (suc m % 2) 1 in
    let b = ltb (suc m) (2 ^ 53) in
    let c = leb (down e) (2 ^ 1074) in
    eqb→eq (suc m % 2) 1 (and_l a b (and_l (a && b) c (and_l (a && b && c) (ltb (suc m * up e) (2 ^ 1024 * down e)) t)))

-- zero is written in one way
zero-once : (s : Bool) (e : ℤ) → F64 (fin s 0 e) → fin s 0 e ≡ zero_of s
unfolding fits
zero-once s (pos zero) t = refl
zero-once s (pos (suc k)) t = absurd (even_odd 1 (2 ^ k) refl (sym (eqb→eq (2 ^ suc k * 1) 1 t) ∙ mul-one (2 ^ suc k) ∙ pow-succ' 2 k))
zero-once s (negsuc k) t = absurd (even_odd 1 (2 ^ k) refl (sym (eqb→eq (1 * 2 ^ suc k) 1 t) ∙ one-mul (2 ^ suc k) ∙ pow-succ' 2 k))

some : (m : ℕ) (e d : ℤ) → 0 < suc m * up e * down d
some m e d = mul-pos (mul-pos (zero-lt-suc m) (up_pos e)) (down_pos d)

none : (e d : ℤ) → 0 * up e * down d ≡ 0
none e d = ap (λ (n : ℕ). n * down d) (zero-mul (up e)) ∙ zero-mul (down d)

pub same-unique : (x y : Float) → F64 x → F64 y → SameNumber x y → (x ≡ y) ⊎ ((s : Bool) × (t : Bool) × (x ≡ zero_of s) × (y ≡ zero_of t))
same-unique nan y f g h = elim h [ ]
same-unique (inf _) y f g h = elim h [ ]
same-unique (fin s zero e) nan f g h = elim h [ ]
same-unique (fin s zero e) (inf _) f g h = elim h [ ]
same-unique (fin s (suc m) e) nan f g h = elim h [ ]
same-unique (fin s (suc m) e) (inf _) f g h = elim h [ ]
same-unique (fin s zero e) (fin t zero d) f g h = inr (s, t, zero-once s e f, zero-once t d g)
same-unique (fin s zero e) (fin t (suc n) d) f g h =
    let (p, q) = signed_parts s t (0 * up e * down d) (suc n * up d * down e) h in
    absurd (let z = none e d in let l = some n d e in omega arith)
same-unique (fin s (suc m) e) (fin t zero d) f g h =
    let (p, q) = signed_parts s t (suc m * up e * down d) (0 * up d * down e) h in
    absurd (let z = none d e in let l = some m e d in omega arith)
same-unique (fin s (suc m) e) (fin t (suc n) d) f g h =
    let (p, q) = signed_parts s t (suc m * up e * down d) (suc n * up d * down e) h in
    let (u, w) = odd-once (suc m) e (suc n) d (is_odd s m e f) (is_odd t n d g) p in
    inl (ap (λ (b : Bool). fin b (suc m) e) (sign q) ∙ ap₂ (fin t) u w)
  where
    sign : (s ≡ t) ⊎ (suc m * up e * down d ≡ 0) → s ≡ t
    sign (inl q) = q
    sign (inr z) = absurd (let l = some m e d in omega arith)
