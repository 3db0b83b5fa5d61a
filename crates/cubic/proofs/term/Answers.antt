-- `cubic::term` meets its contract: test by test. Assumes nothing.
use mathlib.Core.Path.{refl, ◌∙◌, ap, ap₂}
use Prim.Native.Nat.{◌*◌}
use lib.IntN.{pos, ◌*ℤ◌}
use Rattle.algebra.proofs.Within.{got, st, seen, fits, i-mul}
use Rattle.points.proofs.Points.{across-small}
use Rattle.cubic.specs.Points.{grid}
use Rattle.cubic.proofs.Counts.{product_is}
use Rattle.cubic.proofs.Terms.{term-on, across-spots}
use Rattle.cubic.proofs.term.Goals as goal

pub overflow_mul-result : goal.overflow_mul-result
overflow_mul-result c =
    let a = c.args in
    let m = product_is c.multinomial.result c.multinomial-2.result c.multinomial.ensures.small.1 c.multinomial-2.ensures.small.1 in
    let d = got c.across-d.ensures (across-small c.requires.first c.requires.second _ _ _ _) tt in
    fits (i-mul (st m tt) d) tt

pub returns-clause-rule : goal.returns-clause-rule
returns-clause-rule c =
    let a = c.args in
    let m = product_is c.multinomial.result c.multinomial-2.result c.multinomial.ensures.small.1 c.multinomial-2.ensures.small.1 in
    let d = got c.across-d.ensures (across-small c.requires.first c.requires.second _ _ _ _) tt in
    (st (i-mul (st m tt) d) tt).same
    ∙ ap₂ ◌*ℤ◌ (ap pos (ap₂ ◌*◌ c.multinomial.ensures.rule c.multinomial-2.ensures.rule))
    (across-spots a.x.now a.y.now a.i1 a.j1 a.k1 a.i2 a.j2 a.k2 refl c.spot.ensures c.spot-2.ensures c.spot-3.ensures c.spot-4.ensures)
    ∙ term-on (grid a.x.now a.y.now) a.i a.j a.k a.i1 a.j1 a.k1 a.i2 a.j2 a.k2 c.if-i1-i2.false c.if-j1-j2.false c.if-k1-k2.false

pub returns-clause-small : goal.returns-clause-small
returns-clause-small c =
    let m = product_is c.multinomial.result c.multinomial-2.result c.multinomial.ensures.small.1 c.multinomial-2.ensures.small.1 in
    let d = got c.across-d.ensures (across-small c.requires.first c.requires.second _ _ _ _) tt in
    seen (st (i-mul (st m tt) d) tt)
