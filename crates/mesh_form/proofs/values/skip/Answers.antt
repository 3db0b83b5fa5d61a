-- `mesh_form::values::skip` meets its contract: a word that is passed is one less. Assumes nothing.
use mathlib.Core.Path.{◌≡◌, sym, ap, ◌∙◌}
use Prim.Native.Nat.{◌+◌, ◌-◌}
use native.Mathlib.Omega.{arith}
use lib.ListN.{drop}
use Rattle.mesh_text.specs.Rows.{line, rest}
use Rattle.mesh_form.proofs.Said.{skip-on}
use Rattle.mesh_form.proofs.values.skip.Goals as goal

pub loop-preserved : goal.loop-preserved
loop-preserved c =
    let l = c.loop in
    let a = c.args in
    let k : a.n - (l.counter + 1) ≡ a.n - l.counter - 1 = omega arith in (
      c.word_after-p.ensures.within,
      ap (drop (a.n - (l.counter + 1))) c.word_after-p.ensures.same
          ∙ ap (λ m. drop m (rest (line (drop l.p a.t.now)))) k
          ∙ sym (skip-on (a.n - l.counter) (line (drop l.p a.t.now)) (omega arith))
          ∙ l.invariant.1,
    )
