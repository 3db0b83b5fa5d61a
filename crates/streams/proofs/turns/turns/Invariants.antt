-- `streams::turns::turns` meets its contract: of no records nothing is made.
use mathlib.Core.Path.{◌≡◌}
use Rattle.streams.proofs.turns.turns.Given as goal

abbrev pub invariant-loop-k : goal.invariant-loop-k
invariant-loop-k g l = l.records ≡ 0 → l.all ≡ 0

abbrev pub invariant-loop-turn : goal.invariant-loop-turn
invariant-loop-turn g l = l.records ≡ 0 → l.all ≡ 0
