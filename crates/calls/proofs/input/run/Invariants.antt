-- `calls::input::run` is safe: what is filled and not yet answered stays within the buffer.
use Rattle.std.proofs.Common.{◌≤◌, length}
use Rattle.calls.proofs.input.run.Given as goal

abbrev pub invariant-loop-turn : goal.invariant-loop-turn
invariant-loop-turn g l = (l.s.from ≤ l.s.have) × (l.s.have ≤ length l.line)
