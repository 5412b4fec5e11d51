-- `take_input` is safe: what is held lies in the buffer.
use Rattle.std.proofs.Common.{◌≤◌, length}
use Rattle.intake.proofs.Taken.take_input.Given as goal

abbrev pub invariant-loop : goal.invariant-loop
invariant-loop _ l = l.held ≤ length l.buffer
