-- The room of the values of cells that are cut, wherever they lie.
--   cut_left     : what is left after a cut, and one more, is what was left before
--   cut-room     : values with room for some cuts have room for one
--   quarter-room : a quarter has room for one cut less
-- For every shape. Assumes nothing.
use mathlib.Core.Path.{◌≡◌, subst}
use mathlib.Core.List.{List}
use Prim.Native.Nat.{ℕ, ◌+◌, ◌-◌}
use native.Mathlib.Omega.{arith}
use lib.IntN.{ℤ}
use Rattle.algebra.specs.Within.{Each}
use Rattle.algebra.proofs.Within.{each-≤, each-as}
use Rattle.forms.specs.Cuttings.{Four}
use Rattle.forms.specs.Shapes.{Shape, cut_to, Lawful}
use Rattle.walks.specs.Room.{cap}
use Rattle.walks.proofs.Room.{cap-down, cap-quarter}

pub cut_left : (g n : ℕ) (c : List ℤ) → ¬ (n ≡ 0) → Each (cap g n) c → Each (cap g (n - 1 + 1)) c
cut_left g n c h p = let e : n ≡ n - 1 + 1 = omega arith in subst (λ (m : ℕ). Each (cap g m) c) e p

pub cut-room : (g n : ℕ) (c : List ℤ) → Each (cap g (n + 1)) c → Each (cap g 1) c
cut-room g n c p = each-≤ p (cap-down g n 1)

pub quarter-room : (S : Shape) → Lawful S → (i : Four) (n : ℕ) (c : List ℤ) {w : List ℤ} → Each (cap S.growth (n + 1)) c
    → w ≡ cut_to S i c
    → Each (cap S.growth n) w
quarter-room S W i n c p e =
    let f : n + 1 - 1 ≡ n = omega arith in
    each-as e (subst (λ (m : ℕ). Each (cap S.growth m) (cut_to S i c)) f (cap-quarter S W i (n + 1) c (λ z. omega arith) p))
