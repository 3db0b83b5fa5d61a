-- Parts of a list of bytes.
--   length_part : a part that lies within the list has its length
--   drop-take   : the rest of a front is the front of the rest
--   part-part   : a part of a part is a part
--   bytes-part  : a part of bytes is bytes
-- Assumes nothing.
use mathlib.Core.Path.{◌≡◌, ap, ◌∙◌}
use mathlib.Core.List.{List, [], ◌∷◌}
use Prim.Native.Nat.{ℕ, zero, suc, ◌+◌, ◌-◌, ◌≤◌}
use native.Mathlib.Nat.{zero-add, suc-add}
use native.Mathlib.Omega.{arith}
use lib.ListN.{length, take, drop, length-drop}
use lib.Seq.{length-take-le, take-take, drop-drop, take-nil, drop-nil}
use Rattle.endian.specs.Numbers.{Bytes, part}
use Rattle.endian.proofs.Numbers.{bytes_drop, bytes_take}

pub length_part : (at n : ℕ) (l : List ℕ) → at + n ≤ length l → length (part at n l) ≡ n
length_part at n l h = length-take-le n (drop at l) (simp length-drop (omega arith))

pub drop-take : (a n : ℕ) (l : List ℕ) → drop a (take (a + n) l) ≡ take n (drop a l)
drop-take zero n [] = simp take-nil
drop-take zero n (b ∷ l) = rw (zero-add n)
drop-take (suc a) n [] = simp (take-nil, drop-nil)
drop-take (suc a) n (b ∷ l) = rw (suc-add a n) (drop-take a n l)

pub part-part : (a n at m : ℕ) (l : List ℕ) → a + n ≤ m → part a n (part at m l) ≡ part (at + a) n l
part-part a n at m l h =
    let e : m ≡ a + (m - a) = omega arith in
    ap (λ (i : ℕ). take n (drop a (take i (drop at l)))) e
    ∙ ap (take n) (drop-take a (m - a) (drop at l))
    ∙ take-take n (m - a) (drop a (drop at l)) (omega arith)
    ∙ ap (take n) (drop-drop a at l)

pub bytes-part : (at n : ℕ) {l : List ℕ} → Bytes l → Bytes (part at n l)
bytes-part at n p = bytes_take n (bytes_drop at p)
