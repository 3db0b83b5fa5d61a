-- Flags: eight to a byte.
--   bit-add        : adding the power of a bit that is clear sets this bit and changes no other
--   bit-with       : the same for a bit that may be set
--   add_small      : it stays below a power of two that the number is below
--   bit-set        : setting a flag sets it and changes no other
--   set-width      : there are as many flags as before
--   power-is, bit_is, set-kept, set_new, set-small : what the code computes
--   bit-zeros, zeros-length, zeros-width : flags that are all clear
-- Assumes nothing.
use mathlib.Core.Path.{◌≡◌, sym, ap, ◌∙◌}
use mathlib.Core.Bool.{true, false, ◌||◌, cond}
use mathlib.Core.List.{List}
use Prim.Native.Nat.{ℕ, zero, suc, ◌+◌, ◌*◌, ◌/◌, ◌%◌, ◌^◌, ◌≤◌, ◌<◌}
use native.Mathlib.Nat.{pow-suc, div-one, div-div-eq-div-mul, mul_comm, zero-div}
use native.Mathlib.Omega.{arith}
use borrow.Author.Tests.{eqb-true, eqb-false, eq-eqb, ne_eqb, ltb-true, ltb-false}
use lib.Dec.{eqb, ltb, eqb-suc-suc, eqb-zero-suc, eqb-suc-zero}
use lib.ListN.{length, get_or, set, length-set, get_or-replicate, length-replicate, get_or-eq_default}
use lib.Seq.{get_or-set_same, get_or-set_other, set-get_or}
use lib.Pow.{pow-lt}
use Rattle.mesh_text.proofs.Rows.{by-test}
use Rattle.mesh_numbers.specs.Bits.{bit_at, with_bit, bit_b, set_bit, width, zeros}

-- ---- bits of a number
bit-zero : (x : ℕ) → bit_at 0 x ≡ eqb (x % 2) 1
unfolding bit_at
bit-zero x = ap (λ y. eqb (y % 2) 1) (div-one x)

-- the bit above is that of the half
bit-suc : (i x : ℕ) → bit_at (suc i) x ≡ bit_at i (x / 2)
unfolding bit_at
bit-suc i x =
    ap (λ y. eqb (x / y % 2) 1) (pow-suc 2 i ∙ mul_comm (2 ^ i) 2) ∙ ap (λ y. eqb (y % 2) 1) (sym (div-div-eq-div-mul x 2 (2 ^ i)))

even : (x : ℕ) → eqb (x % 2) 1 ≡ false → x % 2 ≡ 0
even x e = let n = eqb-false (x % 2) 1 e in omega arith

pub bit-add : (i j x : ℕ) → bit_at i x ≡ false → bit_at j (x + 2 ^ i) ≡ (eqb j i || bit_at j x)
bit-add zero zero x e =
    let z = even x (sym (bit-zero x) ∙ e) in
    bit-zero (x + 1) ∙ eq-eqb ((x + 1) % 2) 1 (omega arith)
bit-add zero (suc j) x e =
    let z = even x (sym (bit-zero x) ∙ e) in
    let h : (x + 1) / 2 ≡ x / 2 = omega arith in
    bit-suc j (x + 1) ∙ ap (bit_at j) h ∙ sym (bit-suc j x) ∙ ap (λ b. b || bit_at (suc j) x) (sym (eqb-suc-zero j))
bit-add (suc i) zero x e =
    let h : (x + 2 ^ suc i) % 2 ≡ x % 2 = omega (arith, pow-suc 2 i) in
    bit-zero (x + 2 ^ suc i) ∙ ap (λ y. eqb y 1) h ∙ sym (bit-zero x) ∙ ap (λ b. b || bit_at 0 x) (sym (eqb-zero-suc i))
bit-add (suc i) (suc j) x e =
    let h : (x + 2 ^ suc i) / 2 ≡ x / 2 + 2 ^ i = omega (arith, pow-suc 2 i) in
    bit-suc j (x + 2 ^ suc i) ∙ ap (bit_at j) h ∙ bit-add i j (x / 2) (sym (bit-suc i x) ∙ e)
    ∙ ap (λ b. b || bit_at j (x / 2)) (sym (eqb-suc-suc j i)) ∙ ap (λ b. eqb (suc j) (suc i) || b) (sym (bit-suc j x))

pub bit-with : (i j x : ℕ) → bit_at j (with_bit i x) ≡ (eqb j i || bit_at j x)
unfolding with_bit
bit-with i j x =
    by-test (bit_at i x) (bit_at j (with_bit i x) ≡ (eqb j i || bit_at j x))
    (λ e. ap (λ b. bit_at j (cond b x (x + 2 ^ i))) e ∙ same e)
    (λ e. ap (λ b. bit_at j (cond b x (x + 2 ^ i))) e ∙ bit-add i j x e)
  where
    same : bit_at i x ≡ true → bit_at j x ≡ (eqb j i || bit_at j x)
    same e =
        by-test (eqb j i) (bit_at j x ≡ (eqb j i || bit_at j x))
        (λ f. ap (λ k. bit_at k x) (eqb-true j i f) ∙ e ∙ ap (λ b. b || bit_at j x) (sym f))
        (λ f. ap (λ b. b || bit_at j x) (sym f))

pub add_small : (i k x : ℕ) → i < k → x < 2 ^ k → bit_at i x ≡ false → x + 2 ^ i < 2 ^ k
add_small i zero x h l e = absurd (omega arith)
add_small zero (suc k) x h l e =
    let z = even x (sym (bit-zero x) ∙ e) in omega (arith, pow-suc 2 k)
add_small (suc i) (suc k) x h l e =
    let p = pow-suc 2 i in
    let q = pow-suc 2 k in
    let m : x / 2 < 2 ^ k = omega arith in
    let ih = add_small i k (x / 2) (omega arith) m (sym (bit-suc i x) ∙ e) in omega arith

bit-none : (i : ℕ) → bit_at i 0 ≡ false
unfolding bit_at
bit-none i = ap (λ y. eqb (y % 2) 1) (zero-div (2 ^ i))

-- ---- flags
pub set-width : (fs : List ℕ) (k : ℕ) → width (set_bit fs k) ≡ width fs
unfolding width set_bit
set-width fs k = ap (λ n. 8 * n) (length-set fs (k / 8) (with_bit (k % 8) (get_or fs (k / 8) 0)))

-- flags by byte and bit
parts-differ : (j k : ℕ) → eqb (j % 8) (k % 8) ≡ true → j / 8 ≡ k / 8 → eqb j k ≡ true
parts-differ j k e f = let g = eqb-true (j % 8) (k % 8) e in eq-eqb j k (omega arith)

parts_same : (j k : ℕ) → eqb (j % 8) (k % 8) ≡ false → eqb j k ≡ false
parts_same j k e = ne_eqb j k (λ f. eqb-false (j % 8) (k % 8) e (ap (λ n. n % 8) f))

pub bit-set : (fs : List ℕ) (k j : ℕ) → k < width fs → bit_b (set_bit fs k) j ≡ (eqb j k || bit_b fs j)
unfolding width bit_b set_bit
bit-set fs k j h =
    by-test (eqb (j / 8) (k / 8)) (bit_b (set_bit fs k) j ≡ (eqb j k || bit_b fs j)) (λ e. here (eqb-true (j / 8) (k / 8) e)) (λ e. there (eqb-false (j / 8) (k / 8) e))
  where
    x : ℕ
    x = with_bit (k % 8) (get_or fs (k / 8) 0)

    same_bit : j / 8 ≡ k / 8 → eqb (j % 8) (k % 8) ≡ eqb j k
    same_bit e =
        by-test (eqb (j % 8) (k % 8)) (eqb (j % 8) (k % 8) ≡ eqb j k)
        (λ f. f ∙ sym (parts-differ j k f e))
        (λ f. f ∙ sym (parts_same j k f))

    here : j / 8 ≡ k / 8 → bit_at (j % 8) (get_or (set fs (k / 8) x) (j / 8) 0) ≡ (eqb j k || bit_at (j % 8) (get_or fs (j / 8) 0))
    here e =
        ap (λ n. bit_at (j % 8) (get_or (set fs (k / 8) x) n 0)) e
        ∙ ap (bit_at (j % 8)) (get_or-set_same fs (k / 8) x 0 (omega arith))
        ∙ bit-with (k % 8) (j % 8) (get_or fs (k / 8) 0)
        ∙ ap (λ b. b || bit_at (j % 8) (get_or fs (k / 8) 0)) (same_bit e)
        ∙ ap (λ n. eqb j k || bit_at (j % 8) (get_or fs n 0)) (sym e)

    there : (j / 8 ≡ k / 8 → ⊥) → bit_at (j % 8) (get_or (set fs (k / 8) x) (j / 8) 0) ≡ (eqb j k || bit_at (j % 8) (get_or fs (j / 8) 0))
    there n =
        ap (bit_at (j % 8)) (get_or-set_other fs (k / 8) (j / 8) x 0 n)
        ∙ ap (λ b. b || bit_at (j % 8) (get_or fs (j / 8) 0)) (sym (ne_eqb j k (λ e. n (ap (λ m. m / 8) e))))

-- ---- the code's branches
pub power-is : (i : ℕ) → i < 8 → 1 * 2 ^ i % 256 ≡ 2 ^ i
power-is i h = let s : 2 ^ i < 256 = pow-lt h in omega arith

pub bit_is : (fs : List ℕ) (k p : ℕ) → p ≡ 2 ^ (k % 8) → eqb (get_or fs (k / 8) 0 / p % 2) 1 ≡ bit_b fs k
unfolding bit_b bit_at
bit_is fs k p e = ap (λ q. eqb (get_or fs (k / 8) 0 / q % 2) 1) e

pub set-kept : (fs : List ℕ) (k : ℕ) → bit_b fs k ≡ true → fs ≡ set_bit fs k
unfolding bit_b set_bit with_bit
set-kept fs k e =
    let x = get_or fs (k / 8) 0 in
    sym (ap (λ b. set fs (k / 8) (cond b x (x + 2 ^ (k % 8)))) e ∙ set-get_or fs (k / 8) 0)

pub set_new : (fs : List ℕ) (k p : ℕ) → p ≡ 2 ^ (k % 8) → bit_b fs k ≡ false → set fs (k / 8) (get_or fs (k / 8) 0 + p) ≡ set_bit fs k
unfolding bit_b set_bit with_bit
set_new fs k p f e =
    let x = get_or fs (k / 8) 0 in
    ap (λ q. set fs (k / 8) (x + q)) f ∙ sym (ap (λ b. set fs (k / 8) (cond b x (x + 2 ^ (k % 8)))) e)

pub set-small : (fs : List ℕ) (k p : ℕ) → p ≡ 2 ^ (k % 8) → get_or fs (k / 8) 0 < 256 → bit_b fs k ≡ false → get_or fs (k / 8) 0 + p < 256
unfolding bit_b
set-small fs k p f h e = omega (arith, add_small (k % 8) 8 (get_or fs (k / 8) 0) (omega arith) h e)

-- ---- flags that are all clear
zero-at : (w k : ℕ) → get_or (zeros w) k 0 ≡ 0
zero-at w k =
    by-test (ltb k w) (get_or (zeros w) k 0 ≡ 0)
    (λ e. get_or-replicate w k 0 0 (ltb-true k w e))
    (λ e. get_or-eq_default (zeros w) 0 (omega (arith, ltb-false k w e, length-replicate {A = ℕ} w 0)))

pub bit-zeros : (w k : ℕ) → bit_b (zeros w) k ≡ false
unfolding bit_b
bit-zeros w k = ap (bit_at (k % 8)) (zero-at w (k / 8)) ∙ bit-none (k % 8)

pub zeros-length : (w : ℕ) → length (zeros w) ≤ w
zeros-length w = omega (arith, length-replicate {A = ℕ} w 0)

pub zeros-width : (w : ℕ) → width (zeros w) ≡ 8 * w
unfolding width
zeros-width w = ap (λ n. 8 * n) (length-replicate {A = ℕ} w 0)
