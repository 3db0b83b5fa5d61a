-- Bytes written to a part of a slice.
--   part-over : they are written over it
-- Assumes nothing.
use mathlib.Core.Path.{◌≡◌, ap, ◌∙◌}
use mathlib.Core.List.{List, ◌++◌}
use Prim.Native.Nat.{ℕ, ◌+◌, ◌-◌}
use native.Mathlib.Omega.{arith}
use lib.ListN.{length, take, drop}
use lib.Seq.{drop-drop}
use borrow.Rule.Slice.PartMut.{put_mid}
use Rattle.endian.specs.Numbers.{over}

pub part-over : (l v : List ℕ) (i j : ℕ) → i + length v ≡ j → put_mid i (j - i) l v ≡ over l i v
part-over l v i j e =
    ap (λ (s : List ℕ). take i l ++ (v ++ s))
    (drop-drop (j - i) i l ∙ ap (λ (n : ℕ). drop n l) (let q : i + (j - i) ≡ i + length v = omega arith in q))
