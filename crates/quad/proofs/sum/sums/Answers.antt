-- `quad::sum::sums` meets its contract: each loop keeps that the places hold what the turns before have added.
use mathlib.Core.Path.{◌≡◌, ap, ◌∙◌}
use native.Mathlib.Omega.{arith}
use Rattle.quad.specs.Points.{grid}
use Rattle.quad.proofs.Nest.{so_far, so-far-start, so-far-j1, so-far-i2, so-far-i1, so-far-whole}
use Rattle.quad.proofs.Turns.{turn_is}
use Rattle.quad.proofs.sum.sums.Goals as goal

pub loop-i1-init : goal.loop-i1-init
loop-i1-init c = so-far-start (grid c.args.r.now.x c.args.r.now.y)

pub overflow_add-c-in-loop-j2-3 : goal.overflow_add-c-in-loop-j2-3
overflow_add-c-in-loop-j2-3 c =
    (turn_is c.args.r.now.along_x c.args.r.now.along_y c.loop-i1.i1 c.loop-i2.i2 c.loop-j1.j1 c.loop-j2.j2 (omega arith) (omega arith) (omega arith) (omega arith)
    c.loop-j2.invariant c.term.ensures).fits

pub loop-j2-preserved : goal.loop-j2-preserved
loop-j2-preserved c =
    (turn_is c.args.r.now.along_x c.args.r.now.along_y c.loop-i1.i1 c.loop-i2.i2 c.loop-j1.j1 c.loop-j2.j2 (omega arith) (omega arith) (omega arith) (omega arith)
    c.loop-j2.invariant c.term.ensures).next

pub loop-j1-preserved : goal.loop-j1-preserved
loop-j1-preserved c =
    let R = grid c.args.r.now.x c.args.r.now.y in
    let e : c.loop-j2.j2 ≡ 2 = omega arith in
    c.loop-j2.invariant ∙ ap (so_far R c.loop-i1.i1 c.loop-i2.i2 c.loop-j1.j1) e ∙ so-far-j1 R c.loop-i1.i1 c.loop-i2.i2 c.loop-j1.j1

pub loop-i2-preserved : goal.loop-i2-preserved
loop-i2-preserved c =
    let R = grid c.args.r.now.x c.args.r.now.y in
    let e : c.loop-j1.j1 ≡ 3 = omega arith in
    c.loop-j1.invariant ∙ ap (λ j1. so_far R c.loop-i1.i1 c.loop-i2.i2 j1 0) e ∙ so-far-i2 R c.loop-i1.i1 c.loop-i2.i2

pub loop-i1-preserved : goal.loop-i1-preserved
loop-i1-preserved c =
    let R = grid c.args.r.now.x c.args.r.now.y in
    let e : c.loop-i2.i2 ≡ 3 = omega arith in
    c.loop-i2.invariant ∙ ap (λ i2. so_far R c.loop-i1.i1 i2 0 0) e ∙ so-far-i1 R c.loop-i1.i1

pub returns : goal.returns
returns c =
    let R = grid c.args.r.now.x c.args.r.now.y in
    let e : c.loop-i1.i1 ≡ 2 = omega arith in
    c.loop-i1.invariant ∙ ap (λ i1. so_far R i1 0 0 0) e ∙ so-far-whole R
