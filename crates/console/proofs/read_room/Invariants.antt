-- `console::read_room` is safe and ends.
use Rattle.std.proofs.Common.{length, ◌-◌, ◌≤◌}
use Rattle.console.proofs.read_room.Given as goal

abbrev pub invariant-loop-size : goal.invariant-loop-size
invariant-loop-size _ l = l.size ≤ length l.room

abbrev pub decreases-loop-size : goal.decreases-loop-size
decreases-loop-size _ l = length l.room - l.size
