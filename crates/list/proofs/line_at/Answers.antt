-- `list::line_at` meets its contract: record k of a block is read, judged under the profile's limit and written. Assumes nothing.
use mathlib.Core.Path.{ap, ◌∙◌, subst}
use mathlib.Core.Bool.{cond}
use Prim.Native.Nat.{ℕ, ◌≤◌}
use lib.Dec.{eqb}
use lib.ListN.{length}
use Rattle.floor.specs.Calls.{ToldBy}
use Rattle.record.specs.Record.{used}
use Rattle.text.proofs.Wrote.{wrote_as}
use Rattle.lines.specs.Names.{record_line}
use Rattle.block.proofs.Blocks.{stored-record}
use Rattle.list.proofs.Steps.{line-written}
use Rattle.list.proofs.line_at.Goals as goal

pub returns : goal.returns
returns c =
    let a = c.args in let r = c.record_at-r.result in let v = c.judge_by-v.result in
    let s = c.sign_by-signed.ensures in
    let shown = c.record_line.ensures in
    λ m rs h i. line-written a.by r _ v
    (c.record_at-r.ensures ∙ stored-record h a.k i)
    (h.formed a.k i)
    (subst (λ (n : ℕ). ToldBy a.by r.kind n (used r) v)
    (c.limit_of-limit.ensures ∙ ap (λ (x : ℕ). cond (eqb x 0) r.limit r.level) s) c.judge_by-v.ensures)
    (subst (λ (x : ℕ). length (record_line r.id r.kind v x) ≤ 88) s shown.short)
    (wrote_as shown.line (ap (λ (x : ℕ). record_line r.id r.kind v x) s))
