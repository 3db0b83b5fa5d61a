-- `record_text::find::fault` meets its contract: the loop keeps that no line before has the fault.
use mathlib.Core.Path.{ap}
use Prim.Native.Nat.{suc, ◌≤◌, ◌<◌}
use native.Mathlib.Numerals.{add-one}
use native.Mathlib.Omega.{arith}
use lib.ListN.{length, length-drop, drop, drop_of_length-le}
use Rattle.record_text.proofs.Searches.{lines-here, lines_next, lines_cut, lines-over}
use Rattle.record_text.proofs.find.fault.Goals as goal

pub returns-in-Some : goal.returns-in-Some
returns-in-Some c =
    let l = c.loop-at in
    let a = c.args in
    let e = c.line_end-end in
    let q : e.result < length a.t.now = omega (arith, e.ensures.within, c.if-end-t.false) in
    lines-here a.test l.n (drop l.at a.t.now) (drop (suc e.result) a.t.now) c.in-Some.place (e.ensures.more q) l.invariant.3 c.in-Some.ensures

pub loop-at-preserved : goal.loop-at-preserved
loop-at-preserved c =
    let l = c.loop-at in
    let a = c.args in
    let e = c.line_end-end in
    let q : e.result < length a.t.now = omega (arith, e.ensures.within, c.if-end-t.false) in (
      omega (arith, q),
      omega arith,
      omega (arith, l.invariant.2, e.ensures.onwards),
      rw (add-one l.n)
          (rw (add-one e.result)
          (lines_next a.test l.n (drop l.at a.t.now) (drop (suc e.result) a.t.now) (e.ensures.more q) l.invariant.3 c.in_default.ensures)),
    )

pub returns-then-end-t : goal.returns-then-end-t
returns-then-end-t c =
    let l = c.loop-at in
    let a = c.args in
    lines_cut c.in_last.result a.test l.n (drop l.at a.t.now) (c.line_end-end.ensures.last (omega arith)) l.invariant.3
    (c.in_last.ensures (drop l.at a.t.now) (λ z. absurd (omega (arith, ap length z, length-drop l.at a.t.now))))

pub returns : goal.returns
returns c =
    let l = c.loop-at in
    let a = c.args in
    let h : length a.t.now ≤ l.at = omega arith in
    lines-over a.test l.n (drop l.at a.t.now) (drop_of_length-le a.t.now h) l.invariant.3
