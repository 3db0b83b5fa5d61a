-- A middle node that stands at the middle of its edge need not be replaced.
--   without s m     == the set s without the node m
--   without_fewer   : it has fewer nodes, where s holds m
--   without-same    : and where m stands there already, the triangle is the same
-- Assumes nothing.
use mathlib.Core.Path.{◌≡◌, sym, ◌∙◌, ap}
use mathlib.Core.Bool.{Bool, true, false, cond}
use mathlib.Core.List.{List, [], ◌∷◌}
use Prim.Native.Nat.{◌<◌}
use native.Mathlib.Omega.{arith}
use lib.IntN.{ℤ}
use Rattle.element.specs.Plane.{Vec}
use Rattle.element.specs.Nodes.{A0, A1, A2}
use Rattle.middles.specs.declared.Replaced.{Replaced}
use Rattle.middles.specs.Middles.{Middle, M01, M12, M02, old_node, middle_of, has, new_node, flat, replacing}
use Rattle.middles.specs.Sets.{set_of, one, size}

abbrev pub without : Replaced → Middle → Replaced
without s M01 = set_of false s.m12 s.m02
without s M12 = set_of s.m01 false s.m02
without s M02 = set_of s.m01 s.m12 false

pub without_fewer : (s : Replaced) (m : Middle) → has s m ≡ true → size (without s m) < size s
without_fewer s M01 e = omega (arith, ap one e)
without_fewer s M12 e = omega (arith, ap one e)
without_fewer s M02 e = omega (arith, ap one e)

module _ (xs : List ℤ) (s : Replaced) where
  -- the three middle nodes, behind the corners
  abbrev behind : Vec → Vec → Vec → List ℤ
  behind u v w = flat (A0 xs ∷ A1 xs ∷ A2 xs ∷ u ∷ v ∷ w ∷ [])

  idle : (m : Middle) → has s m ≡ true → middle_of xs m ≡ old_node xs m → old_node xs m ≡ new_node xs s m
  idle m e f = sym f ∙ ap (λ (b : Bool). cond b (middle_of xs m) (old_node xs m)) (sym e)

  pub without-same : (m : Middle) → has s m ≡ true → middle_of xs m ≡ old_node xs m → replacing xs (without s m) ≡ replacing xs s
  unfolding replacing
  without-same M01 e f = ap (λ (u : Vec). behind u (new_node xs s M12) (new_node xs s M02)) (idle M01 e f)
  without-same M12 e f = ap (λ (v : Vec). behind (new_node xs s M01) v (new_node xs s M02)) (idle M12 e f)
  without-same M02 e f = ap (λ (w : Vec). behind (new_node xs s M01) (new_node xs s M12) w) (idle M02 e f)
