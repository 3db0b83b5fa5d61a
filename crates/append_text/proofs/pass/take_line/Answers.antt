-- `append_text::pass::take_line` meets its contract.
use lib.ListN.{drop}
use Rattle.mesh_text.specs.Rows.{line}
use Rattle.append_text.proofs.Gathers.{line-silent, line_taken}
use Rattle.append_text.proofs.pass.take_line.Goals as goal

pub returns-then-silent : goal.returns-then-silent
returns-then-silent c = line-silent (line (drop c.args.at c.args.t.now)) c.args.s c.args.out.now (c.silent.ensures.yes c.if-silent.true)

pub returns : goal.returns
returns c =
    let a = c.args in
    line_taken (line (drop a.at a.t.now)) a.s c.take_record.result a.out.now _
    (c.silent.ensures.no c.if-silent.false) c.take_record.ensures
