-- `by_rows` meets its contract: the loop keeps that the first k values are filled in, each by its row of the table.
use Rattle.std.proofs.Common.{pos, get_or}
use Rattle.algebra.specs.Fill.{Filled}
use Rattle.forms.specs.Cells.{quarter}
use Rattle.cells.proofs.by_rows.Given as goal

abbrev pub invariant-loop-k : goal.invariant-loop-k
invariant-loop-k g l = Filled g.row.N l.k (λ m. get_or (quarter l.rows l.c) m (pos 0)) l.values
