-- Two's complement: what is written is read, and what is read is what was written; each law once, for every width.
--   signed_low, signed_high : the two halves
--   signed-pattern  : of 2·h patterns, a number from -h to h - 1 is read back from its pattern
--   pattern-signed  : a pattern is that of its number
--   signed-bytes    : a number that fits w + 1 bytes is read back from them
--   bytes_signed    : bytes are the writing of the signed number that they stand for
-- Assumes nothing.
use mathlib.Core.Path.{◌≡◌, refl, ap, ◌∙◌}
use mathlib.Core.Bool.{Bool, true, false, cond}
use mathlib.Core.List.{List}
use Prim.Native.Nat.{ℕ, zero, suc, ◌-◌, ◌*◌, ◌^◌, ◌≤◌, ◌<◌}
use native.Mathlib.Nat.{pow-suc, not-suc-le-zero}
use native.Mathlib.Omega.{arith}
use borrow.Author.Tests.{lt-ltb, le-ltb, ltb-true, ltb-false}
use lib.Dec.{ltb}
use lib.IntN.{ℤ, pos, negsuc, ◌-ℤ◌}
use lib.ListN.{length}
use lib.Signed.{mag}
use Rattle.endian.specs.Numbers.{Bytes, bytes, number, pattern, signed, signed_bytes, signed_number}
use Rattle.endian.proofs.Numbers.{length-bytes, number-bytes, bytes-number, number_small}

-- x - m, where x is below m
below-zero : (m x : ℕ) → x < m → pos x -ℤ pos m ≡ negsuc (m - suc x)
below-zero zero x h = absurd (not-suc-le-zero h)
below-zero (suc m) x h = simp (lt-ltb x (suc m) h)

pub signed_low : (m x : ℕ) → 2 * x < m → signed m x ≡ pos x
signed_low m x h = simp (lt-ltb (2 * x) m h)

pub signed_high : (m x : ℕ) → m ≤ 2 * x → x < m → signed m x ≡ negsuc (m - suc x)
signed_high m x h l = rw (le-ltb (2 * x) m h) (below-zero m x l)

-- mag z is n for n and for -(n + 1), so this is -h ≤ z < h
pub signed-pattern : (h : ℕ) (z : ℤ) → mag z < h → signed (2 * h) (pattern (2 * h) z) ≡ z
signed-pattern h (pos n) l = signed_low (2 * h) n (omega arith)
signed-pattern h (negsuc n) l =
    signed_high (2 * h) (2 * h - suc n) (omega arith) (omega arith) ∙ ap negsuc (let e : 2 * h - suc (2 * h - suc n) ≡ n = omega arith in e)

pub pattern-signed : (m x : ℕ) → x < m → pattern m (signed m x) ≡ x
pattern-signed m x l = go (ltb (2 * x) m) (ltb-true (2 * x) m) (ltb-false (2 * x) m)
  where
    go : (b : Bool) → (b ≡ true → 2 * x < m) → (b ≡ false → m ≤ 2 * x) → pattern m (cond b (pos x) (pos x -ℤ pos m)) ≡ x
    go true p q = refl
    go false p q = ap (pattern m) (below-zero m x l) ∙ omega arith

pattern-small : (h : ℕ) (z : ℤ) → mag z < h → pattern (2 * h) z < 2 * h
pattern-small h (pos n) l = omega arith
pattern-small h (negsuc n) l = omega arith

pub signed-bytes : (w : ℕ) (z : ℤ) → mag z < 128 * 256 ^ w → signed_number (signed_bytes (suc w) z) ≡ z
signed-bytes w z l =
    let e : 256 ^ suc w ≡ 2 * (128 * 256 ^ w) = pow-suc 256 w ∙ omega arith in
    rw (length-bytes (suc w) (pattern (256 ^ suc w) z))
    (rw e (ap (signed (2 * (128 * 256 ^ w))) (number-bytes (suc w) _ (rw e (pattern-small (128 * 256 ^ w) z l))) ∙ signed-pattern (128 * 256 ^ w) z l))

pub bytes_signed : (l : List ℕ) → Bytes l → signed_bytes (length l) (signed_number l) ≡ l
bytes_signed l p =
    ap (bytes (length l)) (pattern-signed (256 ^ length l) (number l) (number_small l p)) ∙ bytes-number l p
