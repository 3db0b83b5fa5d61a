-- `first_bad` meets its contract: call by call. Assumes nothing.
use mathlib.Core.Path.{◌≡◌, refl}
use borrow.Author.Rules.{rules}
use lib.IntN.{pos}
use lib.ListN.{get_or}
use mir.Syntax.{w64}
use mir.Val.{to_z, of_z}
use Rattle.corners.specs.Triangles.{first_bad}
use Rattle.triangle_cuts.proofs.first_bad.Goals as goal

pub returns : goal.returns
unfolding first_bad
returns c =
    let v = c.args.c in
    let e0 : to_z w64 (of_z w64 (get_or v 0 (pos 0))) ≡ get_or v 0 (pos 0) = search rules in
    let e1 : to_z w64 (of_z w64 (get_or v 1 (pos 0))) ≡ get_or v 1 (pos 0) = search rules in
    let e2 : to_z w64 (of_z w64 (get_or v 2 (pos 0))) ≡ get_or v 2 (pos 0) = search rules in
    rw (
      c.better-2.ensures,
      c.better.ensures,
      c.corner-r.ensures,
      c.corner-q.ensures,
      c.corner-p.ensures,
      e0,
      e1,
      e2,
    ) refl
