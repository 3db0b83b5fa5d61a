-- `record_text::find::in_line` meets its contract.
use lib.ListN.{drop}
use Rattle.mesh_text.specs.Rows.{line}
use Rattle.record_text.proofs.Searches.{silent-none}
use Rattle.record_text.proofs.find.in_line.Goals as goal

pub returns-then-silent : goal.returns-then-silent
returns-then-silent c =
    let a = c.args in
    silent-none a.n (line (drop a.at a.t.now)) a.test (c.silent.ensures.yes c.if-silent.true)
