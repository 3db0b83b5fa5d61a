-- `by_halves::half_v` meets its contract: line by line, and place by place. Assumes nothing.
use mathlib.Core.Path.{refl}
use Rattle.algebra.proofs.Fill.{cons}
use Rattle.forms.specs.Rows.{weigh}
use Rattle.quad_cuts.proofs.Lines.{line-held}
use Rattle.quad_cuts.proofs.by_halves.half_v.Goals as goal

pub returns : goal.returns
unfolding weigh
returns c =
    let p = c.requires in
    let l0 = line-held p 0 4 8 12 c.half-p.ensures in
    let l1 = line-held p 1 5 9 13 c.half-q.ensures in
    let l2 = line-held p 2 6 10 14 c.half-r.ensures in
    let l3 = line-held p 3 7 11 15 c.half-s.ensures in
    (cons l0.a (cons l1.a (cons l2.a (cons l3.a
    (cons l0.b (cons l1.b (cons l2.b (cons l3.b
    (cons l0.c (cons l1.c (cons l2.c (cons l3.c
    (cons l0.d (cons l1.d (cons l2.d (cons l3.d refl))))))))))))))))
