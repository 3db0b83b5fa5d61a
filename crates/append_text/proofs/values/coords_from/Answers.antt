-- `append_text::values::coords_from` meets its contract: the loop keeps that the words so far are read.
use mathlib.Core.Path.{◌≡◌, sym, ap, ◌∙◌}
use mathlib.Core.Bool.{true, false}
use native.Mathlib.Numerals.{add-one}
use native.Mathlib.Omega.{arith}
use mir.Facts.{to_z-of_z}
use mir.Syntax.{w64}
use mir.Val.{to_z, of_z}
use lib.ListN.{length, drop, length-set}
use Rattle.mesh_text.specs.Rows.{line, first, rest, is_nil}
use Rattle.mesh_text.specs.Tests.{clipped}
use Rattle.append_text.proofs.Coordinates.{read_next, drop-next, read-over}
use borrow.Author.Rules.{rules}
use Rattle.append_text.proofs.values.coords_from.Goals as goal

pub returns-then-over : goal.returns-then-over
returns-then-over c =
    let l = c.loop-i in
    let a = c.args in
    let ws = line (drop a.at a.t.now) in
    let e : is_nil (drop l.i ws) ≡ true =
    ap is_nil (sym l.invariant.3) ∙ sym (c.over.ensures ∙ ap (λ u. is_nil (line u)) c.from.ensures) ∙ c.if-over.true in
    record { within = (omega arith); read = l.invariant.2 ∙ read-over (clipped 4294967295) l.i (length a.xs.now) ws e (omega arith) }

pub loop-i-preserved : goal.loop-i-preserved
loop-i-preserved c =
    let l = c.loop-i in
    let a = c.args in
    let ws = line (drop a.at a.t.now) in
    let e : is_nil (drop l.i ws) ≡ false =
    ap is_nil (sym l.invariant.3) ∙ sym (c.over.ensures ∙ ap (λ u. is_nil (line u)) c.from.ensures) ∙ c.if-over.false in
    let v : to_z w64 (of_z w64 c.value.result) ≡ clipped 4294967295 (first (drop l.i ws)) =
    to_z-of_z {w = w64} (search rules)
    ∙ c.value.ensures
    ∙ ap (clipped 4294967295) (c.first.ensures ∙ ap (λ u. first (line u)) c.from-in-loop-i.ensures ∙ ap first l.invariant.3) in (
      c.word_after-p.ensures.within,
      length-set l.xs l.i _ ∙ l.invariant.1,
      rw (add-one l.i) (rw v (read_next (clipped 4294967295) l.i ws l.xs (omega (arith, l.invariant.1)) e l.invariant.2)),
      c.word_after-p.ensures.same ∙ ap rest l.invariant.3 ∙ sym (drop-next l.i ws) ∙ ap (λ n. drop n ws) (sym (add-one l.i)),
    )
