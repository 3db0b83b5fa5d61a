-- `mesh_form::items::Items::row` meets its contract: a row, the step over it, and the place behind it; or none.
use Rattle.mesh_form.proofs.Reading.{reads-row, reads_none}
use Rattle.mesh_form.proofs.items.Items.row.Goals as goal

pub returns-then-at-t-clause-reads : goal.returns-then-at-t-clause-reads
returns-then-at-t-clause-reads c =
    let s = c.args.self.now in
    reads-row s.t.now s.c.at s.c.part c.row_at-at.result c.row_at-at.ensures
    _ c.step-behind.result c.row_after-end.result
    c.if-at-t.true (c.kind_of-kind.ensures s.t.now) c.step-behind.ensures c.row_after-end.ensures

pub returns-clause-reads : goal.returns-clause-reads
returns-clause-reads c =
    let s = c.args.self.now in
    reads_none s.t.now s.c.at s.c.part c.row_at-at.result c.row_at-at.ensures c.if-at-t.false
