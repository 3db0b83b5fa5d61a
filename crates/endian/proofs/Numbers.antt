-- Little-endian numbers: what is written is read, and what is read is what was written; each law once, for every width.
--   number-bytes  : a number that fits w bytes is read back from them
--   bytes-number  : bytes are the writing of the number that they stand for
--   number_small  : w bytes stand for a number below 256^w
--   length-bytes  : there are w of them
--   bytes-tail, bytes_drop, bytes_take : what is left of bytes is bytes
-- Assumes nothing.
use mathlib.Core.Path.{◌≡◌, refl, sym, ap, ◌∙◌, subst}
use mathlib.Core.List.{List, [], ◌∷◌}
use Prim.Native.Nat.{ℕ, zero, suc, ◌+◌, ◌*◌, ◌/◌, ◌%◌, ◌^◌, ◌<◌}
use native.Mathlib.Nat.{pow-suc, div-lt_iff_lt-mul}
use native.Mathlib.Omega.{arith}
use lib.ListN.{length, get_or, take, drop}
use lib.Seq.{get_or-drop}
use Rattle.endian.specs.Numbers.{Bytes, bytes, number}

pub length-bytes : (w x : ℕ) → length (bytes w x) ≡ w
length-bytes zero x = refl
length-bytes (suc w) x = ap suc (length-bytes w (x / 256))

pub bytes-tail : {b : ℕ} {l : List ℕ} → Bytes (b ∷ l) → Bytes l
bytes-tail p = record { each = λ k. p.each (suc k) }

pub bytes_drop : (n : ℕ) {l : List ℕ} → Bytes l → Bytes (drop n l)
bytes_drop n {l} p = record { each = λ k. subst (λ (x : ℕ). x < 256) (sym (get_or-drop n l k 0)) (p.each (n + k)) }

pub bytes_take : (n : ℕ) {l : List ℕ} → Bytes l → Bytes (take n l)
bytes_take n {l} p = record { each = λ k. go n l k p }
  where
    go : (n : ℕ) (l : List ℕ) (k : ℕ) → Bytes l → get_or (take n l) k 0 < 256
    go zero l k p = omega arith
    go (suc n) [] k p = omega arith
    go (suc n) (b ∷ l) zero p = p.each 0
    go (suc n) (b ∷ l) (suc k) p = go n l k (bytes-tail p)

pub number-bytes : (w x : ℕ) → x < 256 ^ w → number (bytes w x) ≡ x
number-bytes zero x h = omega arith
number-bytes (suc w) x h =
    let e = number-bytes w (x / 256) ((div-lt_iff_lt-mul (omega arith)).1 (rw (pow-suc 256 w) at h)) in
    ap (λ (n : ℕ). x % 256 + 256 * n) e ∙ omega arith

pub bytes-number : (l : List ℕ) → Bytes l → bytes (length l) (number l) ≡ l
bytes-number [] p = refl
bytes-number (b ∷ l) p =
    let n = b + 256 * number l in
    let e : n % 256 ≡ b = omega (arith, p.each 0) in
    let d : n / 256 ≡ number l = omega (arith, p.each 0) in
    rw (e, d) (ap (λ (s : List ℕ). b ∷ s) (bytes-number l (bytes-tail p)))

pub number_small : (l : List ℕ) → Bytes l → number l < 256 ^ length l
number_small [] p = omega arith
number_small (b ∷ l) p = rw (pow-suc 256 (length l)) (omega (arith, p.each 0, number_small l (bytes-tail p)))
