-- Nodes as the code holds them.
--   node-eq         : nodes with equal coordinates are equal
--   back            : a number of 32 bits, stored and read
--   along, up       : the coordinates of a node that is a point, stored and read
--   both            : and both of them in a list
-- Assumes nothing.
use mathlib.Core.Path.{◌≡◌, ◌∙◌, ap}
use mathlib.Core.List.{List, ◌∷◌}
use Prim.Native.Nat.{◌^◌, ◌<◌}
use lib.IntN.{ℤ}
use lib.Signed.{mag}
use mir.Syntax.{w32}
use mir.Val.{to_z, of_z, hbits}
use mir.Facts.{to_z-of_z}
use Rattle.algebra.proofs.Fill.{cons}
use Rattle.element.specs.Plane.{Vec}
use Rattle.middles.specs.declared.Node.{Node}
use Rattle.middles.specs.Middles.{as_node}

pub node-eq : {m n : Node} → m.x ≡ n.x → m.y ≡ n.y → m ≡ n
node-eq p q = λ i. record { x = p i; y = q i }

pub back : {z : ℤ} → mag z < 2 ^ hbits w32 → to_z w32 (of_z w32 z) ≡ z
back h = to_z-of_z {w = w32} (record { sfits = h })

pub along : {n : Node} {v : Vec} → mag n.x < 2 ^ hbits w32 → n ≡ as_node v → to_z w32 (of_z w32 n.x) ≡ v.x
along h e = back h ∙ ap (λ (m : Node). m.x) e

pub up : {n : Node} {v : Vec} → mag n.y < 2 ^ hbits w32 → n ≡ as_node v → to_z w32 (of_z w32 n.y) ≡ v.y
up h e = back h ∙ ap (λ (m : Node). m.y) e

pub both : {n : Node} {v : Vec} {l m : List ℤ} → mag n.x < 2 ^ hbits w32
    → mag n.y < 2 ^ hbits w32
    → n ≡ as_node v
    → l ≡ m
    → to_z w32 (of_z w32 n.x) ∷ to_z w32 (of_z w32 n.y) ∷ l ≡ v.x ∷ v.y ∷ m
both {n} p q e f = cons (along {n = n} p e) (cons (up {n = n} q e) f)
