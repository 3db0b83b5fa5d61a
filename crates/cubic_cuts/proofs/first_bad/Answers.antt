-- `first_bad` meets its contract: call by call. Assumes nothing.
use mathlib.Core.Path.{◌≡◌}
use borrow.Author.Rules.{rules}
use lib.IntN.{pos}
use lib.ListN.{get_or}
use mir.Syntax.{w64}
use mir.Val.{to_z, of_z}
use Rattle.corners.specs.Triangles.{first_bad}
use Rattle.cubic_cuts.proofs.first_bad.Goals as goal

pub returns : goal.returns
unfolding first_bad
returns c =
    let v = c.args.c.now in
    let e0 : to_z w64 (of_z w64 (get_or v 0 (pos 0))) ≡ get_or v 0 (pos 0) = search rules in
    let e4 : to_z w64 (of_z w64 (get_or v 4 (pos 0))) ≡ get_or v 4 (pos 0) = search rules in
    let e14 : to_z w64 (of_z w64 (get_or v 14 (pos 0))) ≡ get_or v 14 (pos 0) = search rules in
    rw (
      c.better-2.ensures,
      c.better.ensures,
      c.corner-r.ensures,
      c.corner-q.ensures,
      c.corner-p.ensures,
      e0,
      e4,
      e14,
    )
