-- `mesh_nodes::find::find` meets its contract: a row with the number is its row.
use mathlib.Core.Path.{sym, ◌∙◌}
use native.Mathlib.Omega.{arith}
use borrow.Author.Tests.{eqb-true, ltb-true}
use lib.Dec.{eqb, ltb}
use mathlib.Core.Logic.{⊎_elim}
use lib.ListN.{get_or}
use Rattle.mesh_text.proofs.Grammar.{and_both}
use Rattle.mesh_nodes.specs.Nodes.{nodes_in}
use Rattle.mesh_nodes.proofs.Rows.{all-at, row-mem}
use Rattle.mesh_nodes.proofs.find.find.Goals as goal

pub returns-then-p-m : goal.returns-then-p-m
returns-then-p-m c =
    let k = c.lower-k.result in
    let p = get_or c.args.places.now k 0 in
    let b = and_both (ltb 0 p) (eqb c.number_at-m.result c.args.n) c.if-p-m.true in
    ⊎_elim (λ z. absurd (omega (arith, ltb-true 0 p b.0)))
    (λ m. row-mem (nodes_in c.args.t.now) _ c.args.n c.requires.once m (sym c.number_at-m.ensures ∙ eqb-true _ _ b.1))
    (all-at k c.requires.seats (omega arith))
