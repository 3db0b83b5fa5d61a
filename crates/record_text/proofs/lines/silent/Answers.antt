-- `record_text::lines::silent` meets its contract.
use mathlib.Core.Path.{sym, ap, ◌∙◌}
use lib.ListN.{drop}
use Rattle.mesh_text.specs.Rows.{line, first, is_nil}
use Rattle.record_text.proofs.Tests.{silent-none, silent-first}
use Rattle.record_text.proofs.lines.silent.Goals as goal

pub returns-then-over : goal.returns-then-over
returns-then-over c =
    let a = c.args in
    silent-none (line (drop a.at a.t.now)) (sym (c.over.ensures ∙ ap (λ u. is_nil (line u)) c.from-l.ensures) ∙ c.if-over.true)

pub returns : goal.returns
returns c =
    let a = c.args in
    let e = c.from-l.ensures in
    let f = c.first.ensures ∙ ap (λ u. first (line u)) e in
    rw (c.starts_with.ensures.value, f)
    (silent-first (line (drop a.at a.t.now)) (sym (c.over.ensures ∙ ap (λ u. is_nil (line u)) e) ∙ c.if-over.false))
