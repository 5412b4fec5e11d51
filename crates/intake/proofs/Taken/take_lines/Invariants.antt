-- `take_lines` is safe and ends: each line lies in the bytes.
use Rattle.std.proofs.Common.{◌-◌, ◌≤◌, length}
use Rattle.intake.proofs.Taken.take_lines.Given as goal

abbrev pub invariant-loop-to : goal.invariant-loop-to
invariant-loop-to _ l = l.at ≤ length l.bytes

abbrev pub decreases-loop-to : goal.decreases-loop-to
decreases-loop-to _ l = length l.bytes - l.at
