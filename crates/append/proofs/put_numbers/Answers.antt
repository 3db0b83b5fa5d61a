-- `append::put_numbers` meets its contract: the loop keeps that the first k numbers are written.
use mathlib.Core.Path.{◌≡◌, ap, ◌∙◌}
use mathlib.Core.List.{List}
use Prim.Native.Nat.{ℕ, ◌+◌, ◌*◌}
use native.Mathlib.Omega.{arith}
use lib.IntN.{ℤ, pos}
use lib.ListN.{get_or}
use borrow.Author.Rules.{rules}
use mir.Syntax.{w32}
use mir.Val.{to_z, of_z}
use mir.Facts.{to_z-of_z}
use Rattle.endian.specs.Numbers.{signed_bytes, over}
use Rattle.append.proofs.Fills.{numbers-turn}
use Rattle.append.proofs.put_numbers.Goals as goal

pub loop-k-preserved : goal.loop-k-preserved
loop-k-preserved c =
    let x = c.args in
    let zs = x.zs in
    let v : to_z w32 (of_z w32 (get_or zs c.loop-k.k (pos 0))) ≡ get_or zs c.loop-k.k (pos 0) = to_z-of_z {w = w32} (search rules) in (
      c.loop-k.invariant.0,
      c.put_i32.ensures
          ∙ ap (λ (z : ℤ). over c.loop-k.s (x.at + 4 * c.loop-k.k) (signed_bytes 4 z)) v
          ∙ ap (λ (s : List ℕ). over s (x.at + 4 * c.loop-k.k) (signed_bytes 4 (get_or zs c.loop-k.k (pos 0)))) c.loop-k.invariant.1
          ∙ numbers-turn x.s.now x.at c.loop-k.k zs (omega (arith, c.loop-k.invariant.0)) (omega (arith, c.loop-k.invariant.0, c.requires)),
    )
