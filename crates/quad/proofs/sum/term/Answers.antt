-- `quad::sum::term` meets its contract: vectors are as small as the determinant asks, and the binomials multiply it.
use mathlib.Core.Path.{sym, ap, ap₂, ◌∙◌}
use Prim.Native.Nat.{◌*◌}
use lib.IntN.{pos}
use mir.Syntax.{w64}
use mir.Val.{to_z, of_z}
use Rattle.algebra.specs.Within.{Is}
use Rattle.algebra.proofs.Within.{got, st, fits, i-mul}
use Rattle.forms.specs.Binomials.{choose}
use Rattle.element.specs.Plane.{det}
use Rattle.element.specs.Control.{α, β}
use Rattle.points.proofs.Points.{across-small}
use Rattle.quad.specs.Points.{grid}
use Rattle.quad.proofs.Binomials.{choose2-both}
use Rattle.quad.proofs.Terms.{term-here}
use Rattle.quad.proofs.sum.term.Goals as goal

pub overflow_mul-result-2 : goal.overflow_mul-result-2
overflow_mul-result-2 c =
    let a = c.args in
    let weights : Is 4 (pos (choose 2 a.i2 * choose 2 a.j1)) (pos (c.choose.result * c.choose-2.result)) = record { same = ap pos (ap₂ ◌*◌ c.choose.ensures.value c.choose-2.ensures.value); within = choose2-both a.i2 a.j1 } in
    let R = grid a.r.now.x a.r.now.y in
    let determinant : Is 4947802324992 (det (α R a.i1 a.j1) (β R a.i2 a.j2)) (to_z w64 (of_z w64 c.det-d.result)) = got (c.det-d.ensures ∙ ap₂ det c.alpha.ensures c.beta.ensures) (across-small c.args.r.now.along_x c.args.r.now.along_y _ _ _ _) tt in
    fits (i-mul (st weights tt) determinant) tt

pub returns : goal.returns
returns c =
    let a = c.args in
    let weights : Is 4 (pos (choose 2 a.i2 * choose 2 a.j1)) (pos (c.choose.result * c.choose-2.result)) = record { same = ap pos (ap₂ ◌*◌ c.choose.ensures.value c.choose-2.ensures.value); within = choose2-both a.i2 a.j1 } in
    let R = grid a.r.now.x a.r.now.y in
    let determinant : Is 4947802324992 (det (α R a.i1 a.j1) (β R a.i2 a.j2)) (to_z w64 (of_z w64 c.det-d.result)) = got (c.det-d.ensures ∙ ap₂ det c.alpha.ensures c.beta.ensures) (across-small c.args.r.now.along_x c.args.r.now.along_y _ _ _ _) tt in
    (st (i-mul (st weights tt) determinant) tt).same ∙ sym (term-here R a.i1 a.i2 a.j1 a.j2)
