-- `strip` is safe and ends: what is kept is never more than what was passed.
use Rattle.std.proofs.Common.{◌*◌, ◌≤◌}
use Rattle.vectors.proofs.strip.Given as goal

abbrev pub invariant-loop-i : goal.invariant-loop-i
invariant-loop-i l = (l.to ≤ 4 * l.i) × (l.dropped ≤ 2 * l.i)
