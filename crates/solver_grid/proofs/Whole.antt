-- The whole part of a float of at most 2^31 in size.
--   Small y    == y is finite and at most 2^31 in size
--   small_of   : what has such a value is small
--   cut-asks   : the truncation may be asked
--   cut-within : and gives as small a number
--   cut-whole  : which is that of the float, where it is whole
-- Assumes nothing.
use Rattle.std.proofs.Common.{◌≡◌, ℕ, ◌+◌, ◌*◌, ◌/◌, ◌<◌, ◌≤◌, Bool, true, false, ◌||◌, T, ltb, ℤ, pos, neg_ℤ, nat_abs, sym, ap, ◌∙◌, le_trans, le_of_eq, le_of_suc-le-suc, mul-le-mul_right, div-lt_iff_lt-mul, mul-one, mul_right_comm, le_of_mul-le-mul_right, mul-div_cancel, arith, lt→ltb}
use native.Mathlib.Nat.{min-eq_left}
use lib.Ieee.{Float, nan, inf, fin, up, down, le, lt, eq, to_signed}
use lib.Ieee.Fits.{down_pos}
use lib.Ieee.Exact.{HasValue}
use Rattle.algebra.specs.Within.{Within}
use Rattle.algebra.proofs.Size.{size-*}
use Rattle.algebra.proofs.Order.{0<pos, *ℤ-cancel}
use Rattle.floats.specs.Values.{signed, IsWhole}
use Rattle.floats.proofs.Signs.{signed-size, signed-times}

abbrev pub Small : Float → Type 0
Small nan = ⊥
Small (inf s) = ⊥
Small (fin s m e) = m * up e ≤ 2147483648 * down e

pub small_of : (y : Float) (s : Bool) (a c : ℕ) → HasValue y s a c → 0 < c → a ≤ 2147483648 * c → Small y
small_of nan s a c v p h = elim v [ ]
small_of (inf _) s a c v p h = elim v [ ]
small_of (fin t m e) s a c v p h =
    le_of_mul-le-mul_right
    (le_trans (le_of_eq v.1) (le_trans (mul-le-mul_right (down e) h) (le_of_eq (mul_right_comm 2147483648 c (down e))))) p

or_l : (p q : Bool) → T p → T (p || q)
or_l true q t = tt
or_l false q t = absurd t

pub cut-asks : (y : Float) → Small y → T (le (fin true 1 (pos 63)) y) × T (lt y (fin false 1 (pos 63)))
unfolding le lt eq
cut-asks nan h = elim h [ ]
cut-asks (inf _) h = elim h [ ]
cut-asks (fin false m e) h =
    let p : 0 < down e = down_pos e in
    let A = 9223372036854775808 * down e in
    let B = m * up e * 1 in
    (or_l (ltb 0 (A + B)) _ (lt→ltb 0 (A + B) (omega arith)), lt→ltb B A (omega arith))
cut-asks (fin true m e) h =
    let p : 0 < down e = down_pos e in
    let A = 9223372036854775808 * down e in
    let B = m * up e * 1 in
    (or_l (ltb B A) _ (lt→ltb B A (omega arith)), lt→ltb 0 (B + A) (omega arith))

-- the whole part
cut_at : (s : Bool) (m : ℕ) (e : ℤ) → m * up e / down e ≤ 2147483648 → to_signed 63 (fin s m e) ≡ signed s (m * up e / down e)
unfolding to_signed
cut_at false m e h = ap pos (min-eq_left (let r : m * up e / down e ≤ 9223372036854775807 = omega arith in r))
cut_at true m e h = ap (λ (n : ℕ). neg_ℤ (pos n)) (min-eq_left (let r : m * up e / down e ≤ 9223372036854775808 = omega arith in r))

part_small : (m : ℕ) (e : ℤ) → m * up e ≤ 2147483648 * down e → m * up e / down e ≤ 2147483648
part_small m e h =
    let p : 0 < down e = down_pos e in
    le_of_suc-le-suc ((div-lt_iff_lt-mul {y = 2147483649} p).1 (omega arith))

pub cut-within : (y : Float) → Small y → Within 2147483648 (to_signed 63 y)
cut-within nan h = elim h [ ]
cut-within (inf _) h = elim h [ ]
cut-within (fin s m e) h =
    let k = part_small m e h in
    record { size = rw (cut_at s m e k, signed-size s (m * up e / down e)) k }

pub cut-whole : (y : Float) (v : ℤ) → Small y → IsWhole y v → to_signed 63 y ≡ v
cut-whole nan v h w = elim h [ ]
cut-whole (inf _) v h w = elim h [ ]
cut-whole (fin s m e) v h w =
    cut_at s m e (part_small m e h)
    ∙ *ℤ-cancel (signed s (m * up e / down e)) v (pos (down e)) (0<pos (down_pos e))
    (signed-times s (m * up e / down e) (down e) ∙ ap (signed s) whole ∙ w)
  where
    size : m * up e ≡ nat_abs v * down e
    size = sym (mul-one (m * up e)) ∙ sym (signed-size s (m * up e * 1)) ∙ ap nat_abs w ∙ size-* v (pos (down e))

    whole : m * up e / down e * down e ≡ m * up e * 1
    whole = ap (λ (n : ℕ). n / down e * down e) size ∙ ap (λ (n : ℕ). n * down e) (mul-div_cancel (nat_abs v) (down_pos e)) ∙ sym size ∙ sym (mul-one (m * up e))
