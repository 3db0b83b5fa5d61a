-- Bytes written over a part of a list.
--   puts         : the same, byte by byte, as the code writes them
--   puts-over    : byte by byte is over the part
--   over-one     : one byte
--   over-more    : one run of bytes behind another
--   length-puts, length_over : the list keeps its length
-- Assumes nothing.
use mathlib.Core.Path.{◌≡◌, refl, sym, ap, ◌∙◌}
use mathlib.Core.List.{List, [], ◌∷◌, ◌++◌, append_assoc}
use Prim.Native.Nat.{ℕ, suc, ◌+◌, ◌≤◌, ◌<◌}
use native.Mathlib.Numerals.{add-one}
use native.Mathlib.Omega.{arith}
use lib.ListN.{length, take, drop, set, length-set, length-append}
use lib.Seq.{sets, sets-eq}
use Rattle.endian.specs.Numbers.{over}

abbrev pub puts : List ℕ → ℕ → List ℕ → List ℕ
puts l at [] = l
puts l at (b ∷ v) = puts (set l at b) (at + 1) v

puts-sets : (v l : List ℕ) (at : ℕ) → puts l at v ≡ sets l at v
puts-sets [] l at = refl
puts-sets (b ∷ v) l at = puts-sets v (set l at b) (at + 1) ∙ ap (λ (i : ℕ). sets (set l at b) i v) (add-one at)

pub puts-over : (v l : List ℕ) (at : ℕ) → at + length v ≤ length l → puts l at v ≡ over l at v
puts-over v l at h = puts-sets v l at ∙ sets-eq v l at h ∙ append_assoc (take at l) v (drop (at + length v) l)

pub length-puts : (v l : List ℕ) (at : ℕ) → length (puts l at v) ≡ length l
length-puts [] l at = refl
length-puts (b ∷ v) l at = length-puts v (set l at b) (at + 1) ∙ length-set l at b

pub length_over : (v l : List ℕ) (at : ℕ) → at + length v ≤ length l → length (over l at v) ≡ length l
length_over v l at h = rw (← (puts-over v l at h)) (length-puts v l at)

pub over-one : (b : ℕ) (l : List ℕ) (at : ℕ) → at < length l → set l at b ≡ over l at (b ∷ [])
over-one b l at h = puts-over (b ∷ []) l at (omega arith)

puts-more : (u v l : List ℕ) (at : ℕ) → puts (puts l at u) (at + length u) v ≡ puts l at (u ++ v)
puts-more [] v l at = ap (λ (i : ℕ). puts l i v) (let e : at + 0 ≡ at = omega arith in e)
puts-more (b ∷ u) v l at =
    ap (λ (i : ℕ). puts (puts (set l at b) (at + 1) u) i v) (let e : at + suc (length u) ≡ at + 1 + length u = omega arith in e)
    ∙ puts-more u v (set l at b) (at + 1)

pub over-more : (u v l : List ℕ) (at : ℕ) → at + length u + length v ≤ length l → over (over l at u) (at + length u) v ≡ over l at (u ++ v)
over-more u v l at h =
    let k = length_over u l at (omega arith) in
    sym (puts-over v (over l at u) (at + length u) (omega arith))
    ∙ ap (λ (s : List ℕ). puts s (at + length u) v) (sym (puts-over u l at (omega arith)))
    ∙ puts-more u v l at
    ∙ puts-over (u ++ v) l at (omega (arith, length-append u v))
