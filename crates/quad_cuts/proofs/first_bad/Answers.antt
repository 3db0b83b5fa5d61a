-- `first_bad` meets its contract: call by call. Assumes nothing.
use mathlib.Core.Path.{◌≡◌, refl}
use mathlib.Core.List.{List}
use Prim.Native.Nat.{ℕ}
use borrow.Author.Rules.{rules}
use lib.IntN.{ℤ, pos}
use lib.ListN.{get_or}
use mir.Syntax.{w64}
use mir.Val.{to_z, of_z}
use Rattle.quad_cuts.specs.Corners.{first_bad}
use Rattle.quad_cuts.proofs.first_bad.Goals as goal

-- the values that were read
abbrev Held : List ℤ → ℕ → Type 0
Held v k = to_z w64 (of_z w64 (get_or v k (pos 0))) ≡ get_or v k (pos 0)

pub returns : goal.returns
unfolding first_bad
returns c =
    let held : Held c.args.c.now 0 = search rules in
    let held2 : Held c.args.c.now 3 = search rules in
    let held3 : Held c.args.c.now 12 = search rules in
    let held4 : Held c.args.c.now 15 = search rules in
    rw (
      c.better-3.ensures,
      c.better-2.ensures,
      c.better.ensures,
      c.corner-s.ensures,
      c.corner-r.ensures,
      c.corner-q.ensures,
      c.corner-p.ensures,
      held,
      held2,
      held3,
      held4,
    ) refl
