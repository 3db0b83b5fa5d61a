-- `twice_share` meets its contract: S is small. Assumes nothing.
use mathlib.Core.Path.{◌≡◌}
use mathlib.Core.List.{List}
use Prim.Native.Nat.{ℕ, ◌≤◌}
use lib.IntN.{ℤ, pos, ◌*ℤ◌}
use mir.Syntax.{w64}
use mir.Val.{to_z, of_z}
use Rattle.algebra.specs.Within.{Is}
use Rattle.algebra.proofs.Within.{within-pos, within-≤, got, st, lit, fits, rd, i-mul}
use Rattle.element.specs.Kinds.{six}
use Rattle.element.specs.Origin.{Inside}
use Rattle.floor.specs.Floor.{straight, share}
use Rattle.floor.proofs.Room.{straight-small}
use Rattle.floor.proofs.twice_share.Goals as goal

shared : (p : ℕ) (xs : List ℤ) (s : ℤ) → p ≤ 99 → Inside six xs → s ≡ straight xs
    → Is 3401614098432 (share p xs) (to_z w64 (of_z w64 (pos p)) *ℤ to_z w64 (of_z w64 s))
shared p xs s h i e = i-mul (rd (within-≤ (within-pos _) h) tt) (got e (straight-small i) tt)

pub overflow_mul-result : goal.overflow_mul-result
overflow_mul-result c = let (h, i) = c.requires in fits (shared c.args.p c.args.coords.now c.straight.result h i c.straight.ensures) tt

pub overflow_mul-result-2 : goal.overflow_mul-result-2
overflow_mul-result-2 c =
    let (h, i) = c.requires in
    fits (i-mul (lit _) (st (shared c.args.p c.args.coords.now c.straight.result h i c.straight.ensures) tt)) tt

pub returns : goal.returns
returns c =
    let (h, i) = c.requires in
    (st (i-mul (lit 2) (st (shared c.args.p c.args.coords.now c.straight.result h i c.straight.ensures) tt)) tt).same
