-- `mesh::texts::text_code` meets its contract, pass by pass.
use mathlib.Core.Path.{sym, ◌∙◌, subst}
use Rattle.mesh_numbers.specs.Numbers.{numbers, wanted, Repeated, Missing}
use Rattle.mesh.proofs.Readings.{number-twice, has-mesh, text-unfit, text-lacking, text-good}
use Rattle.mesh.proofs.texts.text_code.Goals as goal

pub returns-then-twice : goal.returns-then-twice
returns-then-twice c = let t = c.args.t.now in number-twice t (c.form.ensures.yes c.if-not-form.false) (subst (Repeated (numbers t)) c.if-twice.true c.twice.ensures)

pub returns-then-not-whole : goal.returns-then-not-whole
returns-then-not-whole c = let t = c.args.t.now in text-unfit t (has-mesh t (c.form.ensures.yes c.if-not-form.false) (subst (Repeated (numbers t)) c.if-twice.false c.twice.ensures)) (sym c.whole.ensures ∙ c.if-not-whole.true)

pub returns-then-unlisted : goal.returns-then-unlisted
returns-then-unlisted c = let t = c.args.t.now in text-lacking t (has-mesh t (c.form.ensures.yes c.if-not-form.false) (subst (Repeated (numbers t)) c.if-twice.false c.twice.ensures)) (sym c.whole.ensures ∙ c.if-not-whole.false) (subst (Missing (numbers t) (wanted t)) c.if-unlisted.true c.unlisted.ensures)

pub returns : goal.returns
returns c = let t = c.args.t.now in text-good t (has-mesh t (c.form.ensures.yes c.if-not-form.false) (subst (Repeated (numbers t)) c.if-twice.false c.twice.ensures)) (sym c.whole.ensures ∙ c.if-not-whole.false) (subst (Missing (numbers t) (wanted t)) c.if-unlisted.false c.unlisted.ensures)
