-- A coordinate that is read as the nearest number within a size.
--   clip-size, clip-same : its size; one within that size is not changed
-- Assumes nothing.
use mathlib.Core.Path.{◌≡◌, refl, sym, ap, ◌∙◌}
use mathlib.Core.Bool.{Bool, true, false}
use mathlib.Core.List.{List}
use Prim.Native.Nat.{ℕ, zero, suc, ◌≤◌, min}
use native.Mathlib.Omega.{arith}
use lib.IntN.{nat_abs}
use Rattle.mesh_text.specs.Tests.{is_minus, size_of, signed_by, value_of, clipped}

signed-size : (s : Bool) (n : ℕ) → nat_abs (signed_by s n) ≡ n
signed-size true zero = refl
signed-size true (suc n) = refl
signed-size false n = refl

pub clip-size : (m : ℕ) (w : List ℕ) → nat_abs (clipped m w) ≡ min m (nat_abs (value_of w))
unfolding clipped value_of
clip-size m w = signed-size (is_minus w) (min m (size_of w)) ∙ ap (min m) (sym (signed-size (is_minus w) (size_of w)))

pub clip-same : (m : ℕ) (w : List ℕ) → nat_abs (value_of w) ≤ m → clipped m w ≡ value_of w
unfolding clipped value_of
clip-same m w h =
    let e = signed-size (is_minus w) (size_of w) in
    let k : min m (size_of w) ≡ size_of w = omega arith in
    ap (signed_by (is_minus w)) k
