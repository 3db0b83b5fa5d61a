-- Numbers written over a part of a list, one a turn.
--   numbers-turn : one turn
-- Assumes nothing.
use mathlib.Core.Path.{◌≡◌, sym, ap, ◌∙◌}
use mathlib.Core.List.{List, [], ◌∷◌, ◌++◌, append-nil}
use Prim.Native.Nat.{ℕ, ◌+◌, ◌*◌, ◌≤◌, ◌<◌}
use native.Mathlib.Numerals.{add-one}
use native.Mathlib.Omega.{arith}
use lib.IntN.{ℤ, pos}
use lib.ListN.{length, get_or, take}
use lib.Seq.{take-suc, length-take-le}
use Rattle.endian.specs.Numbers.{signed_bytes, over}
use Rattle.endian.proofs.Writes.{over-more}
use Rattle.record.specs.Record.{numbers_bytes}
use Rattle.record.proofs.Codec.{numbers-length, numbers_more}

front_length : (k : ℕ) (zs : List ℤ) → k ≤ length zs → length (numbers_bytes (take k zs)) ≡ 4 * k
front_length k zs h = numbers-length (take k zs) ∙ ap (λ (n : ℕ). 4 * n) (length-take-le k zs h)

-- one number more
pub numbers-turn : (l : List ℕ) (at k : ℕ) (zs : List ℤ) → k < length zs → at + 4 * length zs ≤ length l
    → over (over l at (numbers_bytes (take k zs))) (at + 4 * k) (signed_bytes 4 (get_or zs k (pos 0))) ≡ over l at (numbers_bytes (take (k + 1) zs))
numbers-turn l at k zs h g =
    let z = get_or zs k (pos 0) in
    let w = numbers_bytes (take k zs) in
    let n = front_length k zs (omega arith) in
    ap (λ (i : ℕ). over (over l at w) (at + i) (signed_bytes 4 z)) (sym n)
    ∙ over-more w (signed_bytes 4 z) l at (let q : at + length w + 4 ≤ length l = omega (arith, n) in q)
    ∙ ap (over l at)
    (ap (λ (s : List ℕ). w ++ s) (sym (append-nil (signed_bytes 4 z))) ∙ sym (numbers_more (take k zs) (z ∷ []))
    ∙ ap numbers_bytes (sym (take-suc zs k (pos 0) h) ∙ ap (λ (n : ℕ). take n zs) (sym (add-one k))))
